pub mod CellLemmas
pub mod BoxLemmas
pub mod ExpansionLemmas
pub mod FlawLemmas
pub mod LogLemmas
pub mod NodeLemmas
pub mod NeedsLemmas
mod EntriesLemmas
mod PackLemmas
mod StoredLemmas
pub mod TableLemmas
mod Examples
