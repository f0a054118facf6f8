-- In reading order.
pub mod Cost
pub mod FirstHits
