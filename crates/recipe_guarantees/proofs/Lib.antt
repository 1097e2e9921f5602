-- Laws has the claims of specs/Claims.antt, Commands those of specs/Commands.antt, Form those of specs/Form.antt. Ending
-- is this crate's own: the ways in which a recipe ends.
mod Ending
pub mod Laws
pub mod Commands
pub mod Form
