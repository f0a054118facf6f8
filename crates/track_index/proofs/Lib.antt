pub mod NeedsLemmas
pub mod ListedLemmas
-- Laws for callers: sound parts have no flaw, the bytes of an index file have none, and what bytes have that were read.
pub mod CheckLemmas
pub mod OpeningLemmas
pub mod DecidingLemmas
-- The newest version of the format.
mod UpgradeLemmas
pub mod NewestLemmas
-- The steps of a check.
mod PeriodLemmas
mod UntilLemmas
mod PastLemmas
mod PathLemmas
mod SeekingLemmas
mod Examples
mod SearchExamples
mod NeedsExamples
