-- What a reader of this crate believes: what a recipe is, as one writes it down (Form), that it runs entirely or not at
-- all (Claims), and the lending guarantee over lists of single instructions and recipes (Commands). The functions and
-- their definitions are those of crate `recipes`.
pub mod Form
pub mod Claims
pub mod Commands
