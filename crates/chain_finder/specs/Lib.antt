-- The functions promise definitions of `access` and `chains`. Parts has what they promise each other.
--     chain_finder::least_counts    least_counts
--     chain_finder::put_chain       first_chain
pub mod Parts
