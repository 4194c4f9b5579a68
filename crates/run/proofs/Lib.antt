-- The laws of the program's reading and reply.
pub mod AnswerLaws
