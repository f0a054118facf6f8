pub mod Values
pub mod Logs
pub mod Blocks
