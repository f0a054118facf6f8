-- In reading order.
pub mod File
