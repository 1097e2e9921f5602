-- What a reader of this crate believes is in crates `pair_tables` and `output`. Row has what this crate's own functions
-- promise each other.
--     pair_writer::put_pairs     table_of (pair_tables, Pairs); laid, place_behind (output, Buffer)
--     pair_writer::pair_count    pair_count, table_of
pub mod Row
