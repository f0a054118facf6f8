pub mod Magnitudes
pub mod Digits
pub mod DigitWords
pub mod BareDigits
pub mod QuantityLemmas
pub mod ExtentLemmas
pub mod ChartLemmas
pub mod TimelineLemmas
pub mod SpellingLemmas
pub mod RowLemmas
pub mod RegionLemmas
pub mod BoxLemmas
pub mod NearLemmas
pub mod WideningLemmas
pub mod AskedLemmas
pub mod LazyLemmas
mod Examples
mod NumeralExamples
mod RegionExamples
mod MeetingExamples
