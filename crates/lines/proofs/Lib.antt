-- Parts has the parts of some bytes, Words the number of a word, Texts the text of a line, and Ended the first line of
-- some bytes; they are this crate's own.
mod Parts
mod Words
mod Texts
mod Ended
pub mod Laws
