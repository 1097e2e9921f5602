-- Laws has the claims and what the functions use, Walked and Sifted what a walk over the places of a set has found, Turning that five exchanges turn
-- a relation round.
pub mod Laws
mod Walked
mod Sifted
mod Turning
