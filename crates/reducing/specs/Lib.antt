-- What the steps of reducing keep.
pub mod Given
pub mod Bare
pub mod Order
pub mod Plan
pub mod Promise
