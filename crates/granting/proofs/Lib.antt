-- The laws of what is granted.
pub mod KinLaws
pub mod MeetLaws
pub mod LeakLaws
pub mod GrantLaws
pub mod LineLaws
