pub mod FormLaws
pub mod FollowLaws
pub mod RightLaws
pub mod PromiseLaws
pub mod CaseLaws
pub mod Theorems
