-- What a reader of this crate believes: what each instruction changes (Successor).
--     successors::obey, successor    successor
--     successors::next               successor_of
pub mod Successor
