-- What a reader of this crate believes: a table of labels as its bytes, and where an area's label stands in it
-- (Labels), and what is claimed of it (Claims). Laws has what the layers above use, Texts what this crate's own
-- functions promise each other.
--     label_tables::all_fit, all_ascend, all_listed    labels_fit, labels_ascend, labels_listed
--     label_tables::index_of                           label_found
pub mod Labels
pub mod Claims
pub mod Laws
pub mod Texts
