-- The laws of the reader's definitions.
pub mod RecordLaws
pub mod TestLaws
pub mod CellLaws
pub mod ReadLaws
pub mod CellLoop
pub mod WithinLaws
pub mod EventLaws
pub mod EventLoop
pub mod VariableLaws
pub mod CaseLaws
pub mod FaultLaws
pub mod CaseFile
pub mod Same
pub mod Theorems
