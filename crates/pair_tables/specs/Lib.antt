-- What a reader of this crate believes: a table of pairs as its bytes, and the table that a relation has (Pairs), and
-- what is claimed of the two (Claims). Laws has what the layers above use, Numbers what this crate's own functions
-- promise each other.
--     pair_tables::all_fit, all_ascend    pairs_fit, pairs_ascend
--     pair_tables::fill                   with_pairs
pub mod Pairs
pub mod Claims
pub mod Laws
pub mod Numbers
