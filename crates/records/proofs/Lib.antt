-- Laws has the claims of specs/. Known has what the test of a record says, and Places where each set and each relation
-- stands, for this crate and those above.
pub mod Known
pub mod Places
pub mod Laws
