-- Laws has the claims.
pub mod Laws
