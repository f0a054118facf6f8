pub mod SampleLemmas
mod Examples
