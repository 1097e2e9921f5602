-- Laws has the claims and laws of specs/. Decimal for the bytes of a number, Placing for texts laid one behind the
-- other and Buffer for a buffer that is too short or not serve the crates above too.
pub mod Decimal
pub mod Placing
pub mod Buffer
pub mod Laws
