-- Laws has the laws of bits, Cells those of the cells of rows; both serve the crates above.
pub mod Laws
pub mod Cells
