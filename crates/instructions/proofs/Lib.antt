-- Laws has the claims of specs/.
pub mod Laws
