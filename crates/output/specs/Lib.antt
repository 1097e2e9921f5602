-- What a reader of this crate believes: a text in a buffer (Buffer), decimal numbers as bytes (Decimal), and what is
-- claimed of the two (Claims). Laws has what the layers above use.
--     output::put, put_text, put_decimal, put_spaced    place_behind, laid
--     output::put_decimal, put_spaced                   decimal
--     output::write_text                                written_of, buffer_of
pub mod Buffer
pub mod Decimal
pub mod Claims
pub mod Laws
