-- Laws of records.
pub mod Rows
