-- What a reader of this crate believes: the refusals of a site file's header (Header), and what is claimed of a file
-- that passes them (Claims).
--     site_header::check    header_checks
pub mod Header
pub mod Claims
