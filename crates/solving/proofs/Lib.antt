pub mod ListLaws
pub mod PlanLaws
pub mod ChildLaws
pub mod SearchLaws
pub mod SettledLaws
