mod ReadsLemmas
mod RowsLemmas
mod PathLemmas
mod UnionLemmas
mod AsBuiltLemmas
mod FaultLemmas
mod Examples
