-- Messages as reviewers type them (docs/GRAMMAR.md): Typed, Grammar, Filed and Text. A reader must believe these files; all else is proved.
-- Reader is a tool of the proofs: what the contracts between the readers cite.
pub mod Typed
pub mod Grammar
pub mod Filed
pub mod Text
pub mod Reader
