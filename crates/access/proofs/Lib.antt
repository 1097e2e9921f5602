-- Laws has the claims and laws of specs/, for the layers above. Reach and Saturate have what the areas within n steps are, for the search.
pub mod Reach
pub mod Saturate
pub mod Laws
