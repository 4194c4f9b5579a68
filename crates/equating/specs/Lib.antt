pub mod Promise
pub mod Entries
