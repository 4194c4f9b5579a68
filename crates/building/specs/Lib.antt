pub mod Promise
pub mod Lay
