-- What a reader of this crate believes: the refusals and what an accepted file holds (Reading), and what is claimed of
-- the reader (Claims).
--     site_file::read    as_verdict, read_of; as_state, Sound
pub mod Reading
pub mod Claims
