-- `validity::is_valid` promises `is_valid` and `Valid`, definitions of `soundness`. `validity::is_valid_for` promises
-- the same of one object, `valid_for`, and `validity::first_lacking` the first object with a pair whose area lacks
-- access, by `lacking` (Parts). Laws has that a state is valid where it is for each object.
pub mod Parts
pub mod Laws
