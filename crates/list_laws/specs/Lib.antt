-- In reading order.
pub mod Ordered
pub mod Grown
pub mod First
