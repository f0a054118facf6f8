-- In reading order.
pub mod PartsOfOutline
pub mod OutlineOf
pub mod Rows
pub mod Placed
pub mod Level
pub mod Marks
pub mod Told
