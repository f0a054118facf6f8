pub mod About
pub mod Devices
