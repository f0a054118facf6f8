-- In reading order.
pub mod Bounds
pub mod Packed
