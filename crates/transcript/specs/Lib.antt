-- What a reader of this crate believes: what is printed for a session (Transcript; what its lines do is in crate
-- `sessions`, what becomes of the buffer in crate `output`), and what is claimed of it (Claims). Obeying has what a
-- function of this crate promises to another.
--     transcript::write    transcript_of; written_of, buffer_of
--     transcript::print    transcript_of; buffer_of
pub mod Transcript
pub mod Obeying
pub mod Claims
