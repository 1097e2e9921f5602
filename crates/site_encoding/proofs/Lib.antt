-- Laws and WriterLaws have the claims of specs/. Answer has what a writer answers by the number, and Lawful the tests of
-- a label block; they serve the crates above too. The others are this crate's own: Fields for the header's bytes, Placed
-- for where tables stand, Accept and Encoded for the two directions of the single encoding, Decided for the four cases
-- of a writing.
mod Fields
mod Placed
mod Accept
mod Encoded
pub mod Laws
pub mod Answer
pub mod Lawful
mod Decided
pub mod WriterLaws
