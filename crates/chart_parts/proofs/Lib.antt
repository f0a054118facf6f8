pub mod BlockRowLemmas
pub mod CellLemmas
pub mod HeaderLemmas
pub mod ObjectLemmas
pub mod BlockLemmas
pub mod GrammarLemmas
pub mod AlongLemmas
pub mod RuleLemmas
pub mod LogLemmas
pub mod DealtLemmas
pub mod LeafOrderLemmas
pub mod LeafEndLemmas
pub mod PresenceLemmas
pub mod SnapshotLemmas
pub mod PartsLemmas
mod Examples
pub mod PeriodLemmas
