-- What a reader of this crate believes: a chain as the list of its areas, and which chain of an object to an area is
-- the first (Chains); and what is claimed of them (Claims). First has the first chain as a definition that can be
-- computed, which `chain_finder::put_chain` promises, and Laws what the layers above use.
pub mod Chains
pub mod First
pub mod Claims
pub mod Laws
