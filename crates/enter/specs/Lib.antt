-- What the program promises of its reading, its reply and the line of a refusal.
pub mod Refusal
pub mod Enters
