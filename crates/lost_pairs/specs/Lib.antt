-- `lost_pairs::first_lost` promises `first_lost`, and `lost_pairs::first_lost_of` the same of one object, `lost_of`:
-- definitions of `reasons`. Parts has what the functions promise each other.
pub mod Parts
