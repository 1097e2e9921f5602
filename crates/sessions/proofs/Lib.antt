-- Laws has the claims of specs/. Session has a session line by line, and serves `transcript` too.
pub mod Session
pub mod Laws
