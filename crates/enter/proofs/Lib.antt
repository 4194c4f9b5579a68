-- The laws of the program's reply and the line of a refusal.
pub mod SpotLaws
pub mod EnterLaws
