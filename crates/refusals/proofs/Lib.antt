-- Laws has the claim of specs/. Late shows that the checks 8 to 11 may be read off the successor, and so that the table is
-- `found_checks`: `machine::check` rests on it.
pub mod Late
pub mod Laws
