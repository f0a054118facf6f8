-- In reading order.
pub mod Header
pub mod LeafOrder
pub mod Leaf
pub mod PartsOf
pub mod PeriodWith
pub mod Cut
