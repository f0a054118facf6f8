pub mod UnionLemmas
pub mod MergeLemmas
pub mod RowsLemmas
pub mod LawLemmas
pub mod WalkLemmas
pub mod PathLemmas
pub mod FaultLemmas
pub mod DrawingLemmas
pub mod ReadsLemmas
mod Examples
