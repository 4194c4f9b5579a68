pub mod Listing
pub mod Pairs
pub mod Plans
pub mod Searches
