-- Laws for callers.
pub mod SettledPartsLemmas
-- What logs mean once their symbols have new numbers, and how deep the deepest symbol is.
mod SettledLogLemmas
mod SettledDepthLemmas
mod Examples
