-- The order of rows, and the test for a row.
use Rattle.std.specs.Prelude.{ℕ, ℤ, Bool, ◌&&◌, ◌==◌, List}
use Rattle.std.specs.List.Sorted.{IsStrictlySortedBy}
use Rattle.std.specs.Ordering.{int_cmp, int_eq, nat_cmp, ordering_then}
use Rattle.std.specs.declared.cmp.Ordering.{Ordering}
use Rattle.track_types.specs.declared.row.Row.{Row}

-- the order of objects and instants: by object, then by instant
abbrev pub place_order : ℕ × ℤ → ℕ × ℤ → Ordering
place_order a b = ordering_then (nat_cmp a.0 b.0) (int_cmp a.1 b.1)

-- the object and the instant of a row: a chart has each such pair at most once
abbrev pub place_of : Row → ℕ × ℤ
place_of row = (row.object, row.instant)

-- the order of rows: by object, then by instant
abbrev pub row_order : Row → Row → Ordering
row_order a b = place_order (place_of a) (place_of b)

-- whether a row is that of an object and an instant
abbrev pub is_row_of : ℕ → ℤ → Row → Bool
is_row_of object instant row = (object == row.object) && int_eq instant row.instant

-- whether two rows are of one object and one instant
abbrev pub is_same_place : Row → Row → Bool
is_same_place a b = is_row_of a.object a.instant b

-- rows ascend by object, then by instant, and no pair of these stands twice
abbrev pub IsAscending : List Row → Type 0
IsAscending rows = IsStrictlySortedBy row_order rows
