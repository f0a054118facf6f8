-- In reading order.
pub mod Union
pub mod MergeFault
pub mod Cost
pub mod Extension
pub mod Paths
