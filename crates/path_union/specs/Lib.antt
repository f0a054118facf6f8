-- In reading order.
pub mod Union
pub mod Fault
pub mod AsBuilt
pub mod Merge
pub mod Walk
pub mod Reads
pub mod Paths
