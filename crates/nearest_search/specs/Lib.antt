-- In reading order.
pub mod Cost
pub mod Needs
pub mod Kept
pub mod Vantage
pub mod Waiting
pub mod Found
pub mod Seeking
