-- Cells has the laws of how a set and a relation are kept, and is this crate's own. Bools, Tabulate, Fill, Stores, Found, Walk, Below, Ascending, Checks
-- and Typed serve the crates above. Stands has the claim on what a record stands for.
mod Cells
pub mod Bools
pub mod Tabulate
pub mod Fill
pub mod Stores
pub mod Found
pub mod Walk
pub mod Below
pub mod Ascending
pub mod Checks
pub mod Laws
pub mod Stands
pub mod Typed
