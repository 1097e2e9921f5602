-- What a reader of this crate believes: which bytes are the record of a state (Record), and what is claimed of them
-- (Claims). Laws has what the layers above use.
pub mod Record
pub mod Claims
pub mod Laws
