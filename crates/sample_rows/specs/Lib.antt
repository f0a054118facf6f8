pub mod Sample
pub mod Reached
