-- Laws for callers: what a look at all rows of an index's chart finds, the rows of an instant, that the chart is a table,
-- and what an object's stops cost.
pub mod ChartLemmas
pub mod InstantLemmas
pub mod TableLemmas
pub mod BetweenLemmas
-- Which reads find a cell.
pub mod NeedsLemmas
-- The periods, the blocks in them and their stops.
pub mod MetLemmas
pub mod BlockLemmas
pub mod StopsLemmas
mod PositionLemmas
