-- In reading order.
pub mod RePair
pub mod GrammarOf
pub mod Blocks
pub mod Counts
pub mod Kept
pub mod Runs
pub mod Threads
pub mod Pairs
pub mod Joins
