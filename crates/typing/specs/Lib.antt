-- The reader of typed text. Its promise is TextReply of the crate grammar with the replies of Reply; the other files are what the contracts between its functions cite.
pub mod Store
pub mod Readers
pub mod Lines
pub mod File
pub mod Reply
