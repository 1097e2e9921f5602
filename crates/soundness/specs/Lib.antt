-- What a reader of this crate believes: what soundness is (Sound), the tests that decide it (Tests), and what is
-- claimed of them (Claims). Laws has what the layers above use.
pub mod Sound
pub mod Tests
pub mod Claims
pub mod Laws
