-- Nears in order.
mod KeptLemmas
mod NearsLemmas
mod FoundLemmas
mod OnceLemmas
-- What waits.
mod ElementLemmas
mod OpenedLemmas
-- The search.
mod NeedsLemmas
mod SeekingLemmas
mod CostLemmas
mod SearchLemmas
mod OutsideLemmas
