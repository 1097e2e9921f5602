-- Laws has the claims and laws of specs/, for the layers above. Cases has the three cases of an explanation, for them too, and Losing the pairs that are lost.
pub mod Cases
pub mod Losing
pub mod Laws
