pub mod Row
pub mod Rows
pub mod Reading
pub mod Pieces
