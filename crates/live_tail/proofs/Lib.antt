pub mod CutLemmas
pub mod ObjectLemmas
pub mod RangeLemmas
pub mod JoinLemmas
pub mod TogetherLemmas
pub mod InstantLemmas
pub mod HitLemmas
mod BothLemmas
pub mod FirstLemmas
pub mod StandingLemmas
pub mod ChunkLemmas
pub mod NearLemmas
pub mod FewLemmas
pub mod FactsLemmas
mod Examples
mod CoverLemmas
pub mod SmallLemmas
pub mod PackLemmas
