-- What is read of an input.
pub mod Reading
