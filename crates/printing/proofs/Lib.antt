-- The laws of the lines.
pub mod PutLaws
pub mod LineLaws
pub mod PromiseLaws
pub mod Starred
pub mod Theorems
