pub mod Meets
pub mod Leaks
pub mod Grants
pub mod Line
