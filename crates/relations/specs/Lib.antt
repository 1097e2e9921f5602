-- What a reader of this crate believes: what is made of a relation (Relations), and what is claimed of it, and of sets
-- and relations as rows of bits (Claims). The functions promise definitions of the cells that the rows stand for.
-- Turning has what the functions that turn a relation round promise each other.
--     relations::row_of                      the row itself
--     relations::is_member, is_pair          member, pair, of crate `state`
--     relations::mark_in, put_in             mark, put
--     relations::in_row, in_column           has_first, has_second
--     relations::seconds                     has_second, of each area
--     relations::transposed, image           transpose, image
--     relations::preimage                    image of the transpose, the part of it within a set
pub mod Relations
pub mod Claims
pub mod Turning
