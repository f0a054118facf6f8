pub mod Spiral
pub mod Side
