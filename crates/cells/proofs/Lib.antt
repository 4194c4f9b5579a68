pub mod CellLaws
pub mod Theorems
