-- What a reader of this crate believes: the record after an instruction (Change). Writing has what this crate's own
-- functions promise each other.
--     record_changes::change    changed_record
pub mod Change
pub mod Writing
