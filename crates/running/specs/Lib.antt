-- The promise of a run.
pub mod Promise
