-- In reading order.
pub mod Layers
pub mod Order
pub mod View
pub mod Queue
