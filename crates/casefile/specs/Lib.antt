-- How the reader's own types say what model/specs says.
pub mod Case
pub mod Record
pub mod Cells
pub mod Events
