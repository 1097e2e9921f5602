-- What a reader of this crate believes: the twelve instructions (Instructions), which of them four bytes fit (Decode),
-- and what is claimed of that (Claims).
--     instructions::rule_of   rule
--     instructions::decode    decode_of, decoded_number
pub mod Instructions
pub mod Decode
pub mod Claims
