-- In reading order.
pub mod LogLemmas
pub mod SpeedLemmas
pub mod BoxLemmas
pub mod BoundsLemmas
mod Examples
