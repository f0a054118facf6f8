pub mod PairLemmas
pub mod WalkedLemmas
pub mod EarliestLemmas
pub mod CountLemmas
pub mod CloseLemmas
pub mod TurnLemmas
pub mod PartyLemmas
mod NeedsLemmas
pub mod SeekingLemmas
mod Examples
