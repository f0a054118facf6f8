-- Laws for callers: cells and numbers, numbers digit by digit, ascending numbers and their prefixes, levels and groups,
-- squares, areas, walks, flaws, and how many bits.
pub mod MortonLemmas
pub mod SpreadLemmas
mod ColumnLemmas
pub mod CellLemmas
pub mod RisingLemmas
pub mod PrefixLemmas
pub mod LongerLemmas
pub mod LevelLemmas
pub mod WidthLemmas
pub mod GroupLemmas
pub mod SquareLemmas
pub mod AreaLemmas
pub mod PlaceLemmas
pub mod InsideLemmas
pub mod PruningLemmas
pub mod KeptLemmas
pub mod FewLemmas
pub mod FlawlessLemmas
pub mod FlawedLemmas
pub mod BuiltLemmas
-- A tree's bits: where squares stand in them, and what they tell.
pub mod ToldLemmas
mod ChildLemmas
mod ParentLemmas
mod OnLemmas
mod WayLemmas
mod ClimbLemmas
-- Building.
mod BuildingLemmas
mod PushingLemmas
mod GroupBitsLemmas
-- Checking.
mod CheckingLemmas
mod CountingLemmas
mod UpperLemmas
-- Squares, and walks over them.
mod StoredLemmas
mod LowestLemmas
mod WalkLemmas
mod PrunedLemmas
mod Examples
-- The squares of a level, one after another.
mod ListingLemmas
