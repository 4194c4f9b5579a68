-- The laws of the run's promise.
pub mod PromiseLaws
pub mod Theorems
