-- Laws has the claims and laws of specs/, for the layers above. Lists has chains as lists of areas, and Walks why the walk is the first.
mod Lists
mod Walks
pub mod Laws
