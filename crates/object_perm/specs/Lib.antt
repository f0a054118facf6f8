pub mod Permutation
pub mod Fault
pub mod Walk
pub mod Marks
pub mod Shortcuts
pub mod Settled
pub mod Cost
