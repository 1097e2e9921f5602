-- Laws has the claims of specs/. Tests has what the tests over lists decide, and serves `inspection` too; Names serves
-- the reader of site files: the lists of a sound record are what its pairs name.
pub mod Tests
pub mod Names
pub mod Laws
