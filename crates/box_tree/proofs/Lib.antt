-- Laws for callers: monotone tests, what the squares are, levels, costs, and a best-first search.
pub mod MonotoneLemmas
pub mod BridgeLemmas
pub mod TreeLemmas
pub mod CostLemmas
pub mod NearerLemmas
pub mod NodeLemmas
pub mod WalkLemmas
-- Squares, their children, and the places in them.
pub mod PlacesLemmas
mod RunLemmas
mod DigitsLemmas
mod BoxesLemmas
-- Walks.
mod BeginLemmas
mod VisitLemmas
-- Building.
mod SplitLemmas
mod MakingLemmas
mod BuildingLemmas
mod BuiltLemmas
