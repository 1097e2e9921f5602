-- Changing is this crate's own: a record that is changed in place.
mod Changing
