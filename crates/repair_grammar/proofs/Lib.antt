pub mod BlockLemmas
mod PassLemmas
mod NewerLemmas
mod CountLemmas
mod KeyLemmas
mod FirstLemmas
pub mod ExpansionLemmas
mod UseLemmas
pub mod UsedLemmas
pub mod SoundLemmas
pub mod RoundLemmas
mod CoverLemmas
mod RunLemmas
mod ThreadLemmas
mod FrontierLemmas
mod CountedLemmas
mod RowLemmas
mod PairLemmas
mod JoinLemmas
mod PlaceLemmas
mod Examples
