-- Laws has the claims of specs/. Decide has the order of the step, for the functions `check` and `step` and for crate
-- `recipes`, which goes through it for each instruction.
pub mod Decide
pub mod Laws
