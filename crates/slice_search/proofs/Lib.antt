-- Boxes within reach, and sightings.
mod ReachLemmas
pub mod SoughtLemmas
pub mod NeedsLemmas
mod SightingLemmas
mod SliceLemmas
mod HitLemmas
mod SeekerLemmas
mod LiveLemmas
mod WalkLemmas
mod Examples
