-- Laws has the claims of specs/. Entries has what the tests of a table say of its entries, and their texts.
pub mod Entries
pub mod Laws
mod Runs
