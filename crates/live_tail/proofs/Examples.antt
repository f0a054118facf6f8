-- The chart of an index and a tail, on small rows.
use Rattle.std.proofs.Common.{◌≡◌, ℕ, List, [], ◌∷◌, None, Some, pos, refl}
use Rattle.list_laws.specs.Ordered.{ordered, insert_in_order}
use Rattle.track_types.specs.Chart.{chart_with}
use Rattle.track_types.specs.Quantities.{distinct}
use Rattle.track_types.specs.declared.cell.Cell.{Cell}
use Rattle.track_types.specs.declared.row.Row.{Row}
use Rattle.live_tail.specs.Cost.{objects_between, raised_count}
use Rattle.live_tail.specs.Facts.{joint_object_count}
use Rattle.live_tail.specs.Join.{joint_chart, rows_of_both}

-- a cell by its coordinates
abbrev at : ℕ → ℕ → Cell
at x y = record { x = pos x; y = pos y }

-- a row of an object and an instant
abbrev row : ℕ → ℕ → Cell → Row
row object instant cell = record { object = object; instant = pos instant; cell = cell }

-- object 7 at three instants, and the rows that came later: one of them in place of its last
abbrev rows : List Row
rows = row 7 0 (at 10 10) ∷ row 7 1 (at 11 10) ∷ row 7 2 (at 12 11) ∷ []

abbrev tail : List Row
tail = row 7 2 (at 9 9) ∷ row 7 5 (at 10 10) ∷ row 8 1 (at 11 10) ∷ []

-- all by object, then instant; the later row counts
joins : rows_of_both rows tail ≡ row 7 0 (at 10 10) ∷ row 7 1 (at 11 10) ∷ row 7 2 (at 9 9) ∷ row 7 5 (at 10 10) ∷ row 8 1 (at 11 10) ∷ []
unfolding rows_of_both ordered insert_in_order
joins = refl

-- from the lesser first to the greater last
ends_late : (joint_chart (chart_with rows 1 1 4) (Some (chart_with tail 1 1 4))).last ≡ pos 5
ends_late = refl

begins_early : (joint_chart (chart_with rows 1 1 4) (Some (chart_with tail 1 1 4))).first ≡ pos 0
begins_early = refl

-- without a tail it is the chart
stays : joint_chart (chart_with rows 1 1 4) None ≡ chart_with rows 1 1 4
stays = refl

-- one object is listed, and one is the tail's alone
counts : joint_object_count (7 ∷ []) tail ≡ 2
unfolding joint_object_count distinct
counts = refl

counts_none : joint_object_count (7 ∷ 9 ∷ []) [] ≡ 2
unfolding joint_object_count distinct
counts_none = refl

-- only object 7 has a later row from instant 2 on
between : objects_between tail (pos 2) (pos 9) ≡ 7 ∷ []
unfolding distinct
between = refl

-- one row of the instant raises the count by one, which is held at the greatest word
raises : raised_count tail 3 (pos 1) ≡ 4
raises = refl

holds : raised_count tail 4294967295 (pos 1) ≡ 4294967295
holds = refl
