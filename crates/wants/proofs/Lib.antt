pub mod PickLaws
pub mod StartLaws
pub mod SpreadLaws
pub mod SetLaws
pub mod SettledLaws
