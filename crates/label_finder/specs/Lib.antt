-- What a reader of this crate believes: where an area's label, and the block of all labels, stand in a file
-- (Finder), and what is claimed of them (Claims). Laws has what the layers above use.
--     label_finder::label_place    found_place
--     label_finder::block_place    found_block
--     label_finder::label          label_text; and the part lies in the caller's file, `text_at` bytes behind its front
pub mod Finder
pub mod Claims
pub mod Laws
