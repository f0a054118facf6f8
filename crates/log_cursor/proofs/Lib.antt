pub mod RuleLemmas
pub mod StopLemmas
pub mod WayLemmas
pub mod HullLemmas
mod OpenedLemmas
mod StackLemmas
mod WalkLemmas
pub mod TouchLemmas
pub mod NeedsLemmas
pub mod StageLemmas
pub mod HitLemmas
pub mod ExtentLemmas
mod TurnLemmas
mod InTimeLemmas
pub mod SearchLemmas
mod SeekLemmas
mod Examples
mod DescentLemmas
mod FirstLemmas
