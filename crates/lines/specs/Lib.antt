-- What a reader of this crate believes: the number of a word (Words), the lines of an input (Lines), and what is
-- claimed of the two (Claims). Laws has what the layers above use, Digits what this crate's own functions promise each
-- other.
--     lines::first_line    first_line_of, line_number
pub mod Words
pub mod Digits
pub mod Lines
pub mod Claims
pub mod Laws
