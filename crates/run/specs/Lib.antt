-- What the program promises of its reading and its reply.
pub mod Answers
