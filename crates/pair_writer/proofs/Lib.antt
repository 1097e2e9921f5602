-- Rows has the pairs of a row, as they are laid one by one, and as a part of the table. It is this crate's own.
mod Rows
