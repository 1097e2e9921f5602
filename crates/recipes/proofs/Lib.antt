-- Laws has the laws of specs/. Running and Chunks are this crate's own: the loop over the instructions, and the bytes
-- of each.
mod Running
mod Chunks
pub mod Laws
