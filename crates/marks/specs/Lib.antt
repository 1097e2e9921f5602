-- What a reader of this crate believes: the lowest mark of a byte, and what is claimed of it (Marks).
--     marks::lowest_mark    lowest, Lowest
pub mod Marks
