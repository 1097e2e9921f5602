-- All are this crate's own: Left for the tables that are still to come, Fields for the header's fields as they are filled
-- in, Listed for the same one by one, Whole for header and tables, one behind the other.
mod Left
mod Fields
mod Listed
mod Whole
