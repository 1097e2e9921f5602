-- Laws and Explains have the claims. Steps has what a step and a question give with bytes that are a record, and with bytes that are
-- not, and Writes what the writer gives; they serve the functions of `capi` too.
pub mod Steps
pub mod Writes
pub mod Explains
pub mod Laws
