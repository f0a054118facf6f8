-- Rows by instant.
use Rattle.std.specs.Prelude.{List}
use Rattle.std.specs.List.Sorted.{IsPermutation, IsSorted, IsStable}
use Rattle.std.specs.Ordering.{int_cmp}
use Rattle.std.specs.declared.cmp.Ordering.{Ordering}
use Rattle.track_types.specs.declared.row.Row.{Row}

-- the order of rows by instant
abbrev pub instant_order : Row → Row → Ordering
instant_order a b = int_cmp a.instant b.instant

-- `sorted` are the rows by instant, and those of one instant stand as they stood
pub record AreByInstant (rows sorted : List Row) : Type 0 where
  pub moved : IsPermutation rows sorted
  pub order : IsSorted instant_order sorted
  pub stable : IsStable instant_order rows sorted
