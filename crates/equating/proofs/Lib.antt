pub mod ListLaws
pub mod EndsLaws
pub mod ClassLaws
pub mod PromiseLaws
pub mod Theorems
pub mod Starred
