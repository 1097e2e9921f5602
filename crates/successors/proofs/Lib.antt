-- Misfit says that four bytes that fit no instruction change nothing.
pub mod Misfit
