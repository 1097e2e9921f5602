-- What a reader of this crate believes: the encoding of a state and its labels (Encode), and that a file is accepted
-- exactly when it is that (Claims); what a writer of it answers, and what it leaves in its buffer (Writer), and what is
-- claimed of that (WriterClaims).
pub mod Encode
pub mod Claims
pub mod Writer
pub mod WriterClaims
