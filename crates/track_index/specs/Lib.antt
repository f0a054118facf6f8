-- In reading order.
pub mod Facts
pub mod Listed
pub mod Cost
pub mod CheckFlaws
pub mod Judged
pub mod Opening
pub mod Path
pub mod Newest
