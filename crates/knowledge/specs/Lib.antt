pub mod Knowledge
pub mod Sweeps
pub mod Heard
