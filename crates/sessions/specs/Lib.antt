-- What a reader of this crate believes: what the lines of a session do (Session), and that it is a run of the machine,
-- of which the third demand speaks (Claims).
pub mod Session
pub mod Claims
