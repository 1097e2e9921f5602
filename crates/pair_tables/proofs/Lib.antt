-- Order has numbers in ascending order, and Pairs has the bytes of pairs; they are this crate's own.
mod Order
mod Pairs
pub mod Laws
mod AtHand
mod Walk
