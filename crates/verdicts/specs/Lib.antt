-- What a reader of this crate believes: the number of each refusal, and the number of what may be refused (Refusals),
-- and what is claimed of them (Claims). Contracts see a `Refusal` through its number.
--     Refusal::number    number
pub mod Refusals
pub mod Claims
