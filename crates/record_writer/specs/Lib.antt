-- What this crate's functions promise each other (Laying). What the crate promises is said in `records`.
pub mod Laying
