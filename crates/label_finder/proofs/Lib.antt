-- Laws has the claims of specs/. Texts is this crate's own: the text of a label, with one and without,
-- and a place by its two parts.
mod Texts
pub mod Laws
