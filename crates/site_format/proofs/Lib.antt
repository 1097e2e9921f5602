-- Tables has facts and tests of each table, for the crates above.
pub mod Tables
