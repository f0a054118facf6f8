-- In reading order.
pub mod Met
pub mod Between
pub mod Needs
