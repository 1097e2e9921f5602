-- What a reader of this crate believes: the new record of an old one (Refinement), and that old and new are one to one
-- and get the same answers (Claims).
pub mod Refinement
pub mod Claims
