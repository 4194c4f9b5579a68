-- The laws of reducing.
pub mod PartLaws
pub mod IdleLaws
pub mod MarkLaws
pub mod KeepLaws
pub mod HeightLaws
pub mod CodeLaws
pub mod PickLaws
pub mod OrderLaws
pub mod PlanLaws
pub mod ReducedLaws
pub mod RunLaws
pub mod BytesLaws
pub mod PromiseLaws
pub mod CaseLaws
pub mod PromisedLaws
pub mod Theorems
