-- What a reader of this crate believes: a row of bits as a set of places, with what is read and made of it (Bits), the
-- cells that rows stand for (Rows), and what is claimed of them (Claims).
--     bits::is_set, with_bit                     bit, with_bit
--     bits::union, intersection, difference      union, intersection, difference
--     bits::is_empty, is_subset, size            is_empty, is_subset, size
--     bits::lowest, without_lowest               lowest and Lowest, without_lowest
--     bits::places                               NextPlace, each step of the walk
--     bits::is_single                            is_single
pub mod Bits
pub mod Rows
pub mod Claims
