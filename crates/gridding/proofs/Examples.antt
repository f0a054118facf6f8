-- The definitions, run on rows that were worked out by hand.
use Rattle.std.proofs.Common.{◌≡◌, ℕ, ℤ, pos, negsuc, List, [], ◌∷◌, Some, None, refl}
use Rattle.track_types.specs.Quantities.{anchors_of, distinct, symbol_count}
use Rattle.track_types.specs.declared.limit.LimitKind.TheVariants.{Base, Span, Extent, Blocks}
use Rattle.track_types.specs.declared.raw_row.RawRow.{RawRow}
use Rattle.track_types.specs.declared.row.Row.{Row}
use Rattle.list_laws.specs.Ordered.{ordered, insert_in_order}
use Rattle.gridding.specs.ChartOf.{chart_rows, last_of_each_instant}
use Rattle.gridding.specs.Floor.{floor_div}
use Rattle.gridding.specs.GridLimit.{chart_fault, grid_limit}
use Rattle.gridding.specs.declared.fault.GridFault.TheVariants.{Empty, Limit}

raw : ℕ → ℤ → ℤ → ℤ → RawRow
raw object time x y = record { object = object; time = time; x = x; y = y }

row : ℕ → ℤ → ℤ → ℤ → Row
row object instant x y = record { object = object; instant = instant; cell = record { x = x; y = y } }

-- with divisor 10: 10, 9, 0, -1, -10 and -11
floors : floor_div (pos 10) 10 ∷ floor_div (pos 9) 10 ∷ floor_div (pos 0) 10 ∷ floor_div (negsuc 0) 10 ∷ floor_div (negsuc 9) 10 ∷ floor_div (negsuc 10) 10 ∷ []
    ≡ pos 1 ∷ pos 0 ∷ pos 0 ∷ negsuc 0 ∷ negsuc 0 ∷ negsuc 1 ∷ []
floors = refl

negative_floors : chart_rows (raw 1 (negsuc 0) (negsuc 0) (negsuc 9) ∷ []) 10 60 ≡ row 1 (negsuc 0) (negsuc 0) (negsuc 0) ∷ []
unfolding chart_rows last_of_each_instant ordered insert_in_order raw row
negative_floors = refl

-- the last of two rows of one object in one instant counts; another object's row in it stays
last_counts :
    chart_rows (raw 7 (pos 20) (pos 1) (pos 1) ∷ raw 7 (pos 10) (pos 2) (pos 2) ∷ raw 3 (pos 29) (pos 3) (pos 3) ∷ raw 7 (pos 29) (pos 4) (pos 4) ∷ []) 1 10
    ≡ row 3 (pos 2) (pos 3) (pos 3) ∷ row 7 (pos 1) (pos 2) (pos 2) ∷ row 7 (pos 2) (pos 4) (pos 4) ∷ []
unfolding chart_rows last_of_each_instant ordered insert_in_order raw row
last_counts = refl

late_anchor : symbol_count (chart_rows (raw 1 (pos 0) (pos 0) (pos 0) ∷ raw 1 (pos 3) (pos 3) (pos 0) ∷ raw 2 (pos 3) (pos 1) (pos 1) ∷ []) 1 1) 4 ≡ 3
unfolding chart_rows last_of_each_instant ordered insert_in_order raw anchors_of
late_anchor = refl

-- an extent of 2^24 cells, and one cell more
widest : grid_limit (raw 1 (pos 0) (pos 0) (pos 0) ∷ raw 1 (pos 1) (pos 16777215) (pos 0) ∷ []) 1 1 4 ≡ None
unfolding chart_rows last_of_each_instant ordered insert_in_order raw distinct anchors_of
widest = refl

too_wide : grid_limit (raw 1 (pos 0) (pos 0) (pos 0) ∷ raw 1 (pos 1) (pos 16777216) (pos 0) ∷ []) 1 1 4 ≡ Some (Extent, 16777217)
unfolding chart_rows last_of_each_instant ordered insert_in_order raw distinct anchors_of
too_wide = refl

-- objects 1 to 5, the first of which has a second row 4194303 instants later
fleet : List RawRow
unfolding raw
fleet = raw 1 (pos 0) (pos 0) (pos 0) ∷ raw 2 (pos 0) (pos 0) (pos 0) ∷ raw 3 (pos 0) (pos 0) (pos 0) ∷ raw 4 (pos 0) (pos 0) (pos 0)
    ∷ raw 5 (pos 0) (pos 0) (pos 0) ∷ raw 1 (pos 4194303) (pos 0) (pos 0) ∷ []

too_many_blocks : grid_limit fleet 1 1 1 ≡ Some (Blocks, 20971520)
unfolding chart_rows last_of_each_instant ordered insert_in_order raw fleet distinct anchors_of
too_many_blocks = refl

-- in one period five logs have 4194303 terminals each
blocks_in_limit : grid_limit fleet 1 1 4194304 ≡ None
unfolding chart_rows last_of_each_instant ordered insert_in_order raw fleet distinct anchors_of
blocks_in_limit = refl

too_long : grid_limit (raw 1 (pos 0) (pos 0) (pos 0) ∷ raw 1 (pos 4194304) (pos 16777216) (pos 0) ∷ []) 1 1 1 ≡ Some (Span, 4194305)
unfolding chart_rows last_of_each_instant ordered insert_in_order raw distinct anchors_of
too_long = refl

-- rows that are gridded already: none, one that is too far away and also too late, and one that is as far as it may be
no_rows : chart_fault [] 4 ≡ Some Empty
unfolding chart_fault
no_rows = refl

too_far : chart_fault (row 1 (pos 0) (pos 0) (negsuc 1099511627776) ∷ row 1 (pos 4194304) (pos 5) (pos 0) ∷ []) 4 ≡ Some (Limit Base 1099511627777)
unfolding chart_fault row
too_far = refl

farthest : chart_fault (row 1 (pos 0) (negsuc 1099511627775) (pos 0) ∷ []) 4 ≡ None
unfolding chart_fault row distinct anchors_of
farthest = refl
