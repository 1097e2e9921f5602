-- Laws has the claims of specs/. The others are this crate's own: Session for a session line by line, Lengths for how
-- long what is printed is, Printed for what is printed for an input.
mod Session
mod Lengths
mod Printed
pub mod Laws
