-- What the promises mean; docs/FORMAT.md says it in words. A reader must believe these files; all else is proved.
pub mod Message
pub mod Case
pub mod Values
pub mod Reduce
pub mod Format
pub mod Stored
pub mod Replies
