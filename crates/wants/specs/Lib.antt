pub mod Starts
pub mod Spread
pub mod Sets
