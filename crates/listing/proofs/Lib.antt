mod Written
mod Sets
