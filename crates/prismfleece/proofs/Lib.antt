-- The laws of the numbers: each reply fits, and its number tells it.
pub mod Told
pub mod EquateLaws
pub mod RunLaws
pub mod CheckLaws
pub mod MarksLaws
pub mod ReduceLaws
pub mod TextLaws
pub mod Theorems
