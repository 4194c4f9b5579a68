-- Text in a buffer.
pub mod Put
