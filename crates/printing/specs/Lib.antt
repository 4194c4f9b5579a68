-- The lines of a reply, and the promise that they are written.
pub mod Lines
pub mod Promise
