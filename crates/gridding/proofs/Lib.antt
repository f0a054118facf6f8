pub mod ChartLemmas
mod BlockLemmas
mod KeptLemmas
mod GriddedLemmas
mod MergeLemmas
mod SortingLemmas
mod ObjectCountLemmas
mod SymbolLemmas
mod DivisorLemmas
mod SurveyLemmas
mod RecountingLemmas
mod LimitLemmas
mod BaseLemmas
mod Examples
