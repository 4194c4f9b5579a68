-- Laws of the reader of typed text.
pub mod Trees
pub mod Keys
pub mod StoreLaws
pub mod NumberLaws
pub mod Completing
pub mod MessageLaws
pub mod WordLaws
pub mod Variables
pub mod TakeLaws
pub mod FileLaws
pub mod Theorems
