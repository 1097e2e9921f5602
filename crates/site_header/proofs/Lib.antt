-- Laws has the claims of specs/; Loop serves the functions that go over the tables.
pub mod Laws
mod Loop
