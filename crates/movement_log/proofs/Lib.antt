mod Examples
pub mod AlphabetLemmas
pub mod RowLemmas
pub mod LogLemmas
pub mod ObjectLemmas
pub mod AnchorLemmas
pub mod BlockLemmas
pub mod PeriodLemmas
pub mod CutLemmas
