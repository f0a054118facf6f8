pub mod LoadingLemmas
pub mod StoppingLemmas
mod ReceivingLemmas
pub mod OutcomeLemmas
pub mod EndsLemmas
pub mod UpgradingLemmas
mod WritingLemmas
pub mod SummaryLemmas
pub mod SamplingLemmas
pub mod CompletenessLemmas
pub mod FaultLemmas
pub mod BeginningLemmas
pub mod MergingLemmas
pub mod TailOpeningLemmas
pub mod TailAskingLemmas
pub mod ExtendingLemmas
mod Examples
