-- Demand3, Structure, OwnImport, TakingBack and Examples have the claims of specs/. The others are this crate's own:
-- Rows for the table of instructions row by row, Parts for what an update does to soundness, Kept for the soundness of
-- each successor.
mod Rows
mod Parts
mod Kept
pub mod Demand3
pub mod Structure
pub mod OwnImport
pub mod TakingBack
pub mod Examples
