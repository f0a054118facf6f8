-- In reading order.
pub mod Join
pub mod View
pub mod Facts
pub mod Hits
pub mod Cost
pub mod Counted
pub mod SmallRows
pub mod ByInstant
pub mod Walk
pub mod Chunks
pub mod Tail
