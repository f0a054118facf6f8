mod Examples
mod RingLemmas
pub mod CodeRingLemmas
mod RingPlaceLemmas
pub mod SpiralLemmas
