-- What a reader of this crate believes: what is read of a state (Readings).
--     readings::look          seen_of
--     readings::names_area    names_area
-- The other functions promise a definition of crate `state` each.
pub mod Readings
