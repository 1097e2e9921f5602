-- What a reader of this crate believes: the state that five tables of pairs give (Tables).
--     site_tables::state_of         state_by, relations_of
--     site_tables::labels_listed    labels_listed, of crate `label_tables`
pub mod Tables
