-- What a reader of this crate believes: the format of a site file as data (Format).
pub mod Format
