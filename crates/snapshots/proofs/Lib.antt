-- Laws for callers.
pub mod BlocksLemmas
pub mod NeedsLemmas
pub mod SoundLemmas
-- The parts, the blocks and the places of a period.
mod OrderLemmas
mod CellsLemmas
mod StartsLemmas
pub mod BlockFactsLemmas
mod PartLemmas
mod AbsentLemmas
mod JudgedLemmas
mod FlawlessLemmas
mod BlockLemmas
mod PlaceLemmas
mod PlacesLemmas
mod ObjectsLemmas
mod OnesLemmas
mod FoundLemmas
mod AheadLemmas
mod ChosenLemmas
pub mod LogsLemmas
pub mod ByObjectLemmas
mod JudgingLemmas
pub mod JoinLemmas
pub mod SoundPartsLemmas
pub mod ReachLemmas
pub mod TrackLemmas
pub mod LeafOrderLemmas
pub mod KeptLemmas
mod BoundedLemmas
pub mod UpgradeLemmas
pub mod UpgradeLawLemmas
pub mod TracksLemmas
pub mod NoFlawLemmas
mod Examples
pub mod GetterLemmas
