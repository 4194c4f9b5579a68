pub mod LayLaws
pub mod PromiseLaws
pub mod CaseLaws
pub mod Theorems
