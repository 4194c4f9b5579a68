pub mod Kept
pub mod Differ
pub mod Twins
pub mod Settle
pub mod Peel
pub mod Links
pub mod Upward
