-- Laws has the claims of specs/. Held has the state that a file holds, and Checked what the refusals say together: both
-- serve `site_encoding` too, and Checked `label_finder`. Formed and Each are this crate's own: 28 as
-- the functions test it, and a test of each table.
pub mod Held
pub mod Checked
mod Formed
mod Each
pub mod Laws
