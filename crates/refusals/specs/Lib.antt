-- What a reader of this crate believes: when an instruction is refused, and with which number (Refusals), and what is
-- claimed of the table (Claims). Parts has the checks as the function of this crate makes them, 8 to 11 of the state
-- that the instruction would give. That these give the table's number is proved (proofs/Late.antt), and no reader needs
-- them to know what `machine::step` does.
--     refusals::check    found_checks
pub mod Refusals
pub mod Claims
pub mod Parts
