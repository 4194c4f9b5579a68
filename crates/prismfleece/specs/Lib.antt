-- Replies as numbers.
pub mod Numbers
