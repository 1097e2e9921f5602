-- What a reader of this crate believes: the third demand (Demand3), the same kind of promise about structure pairs
-- (Structure), which instructions are refused because an area would borrow from itself (OwnImport), that an add can be
-- taken back at once (TakingBack), and the examples of document 01 with the numbers that it gives them (Examples).
pub mod Demand3
pub mod Structure
pub mod OwnImport
pub mod TakingBack
pub mod Examples
