-- The definitions, run on worked logs.
use Rattle.std.proofs.Common.{◌≡◌, ℕ, ℤ, pos, List, [], ◌∷◌, refl}
use Rattle.spiral_code.specs.Spiral.{move_of}
use Rattle.list_laws.specs.Grown.{table_of_rules}
use Rattle.track_types.specs.declared.cell.Cell.{Cell}
use Rattle.rule_store.specs.View.{RulesView, rules_with}
use Rattle.rule_store.specs.Boxes.{bounding_box_of, box_round}
use Rattle.rule_store.specs.Cells.{cell_with, cells_along, displacement_of}
use Rattle.rule_store.specs.Entry.{duration_of, entry_of}
use Rattle.rule_store.specs.Expansion.{expansion_of, values_of}
use Rattle.log_bounds.specs.Bounds.{bounds_of, cell_after, duration_of_log, log_box, log_speed}
use Rattle.log_bounds.specs.declared.bounds.LogBounds.{LogBounds}

-- the absence, and the movements by (1, 0) and by (5, 5); the rule 3 is one cell to the right, twice
abbrev walker : RulesView
walker = rules_with (0 ∷ 2 ∷ 91 ∷ []) ((1, 1) ∷ []) [] 6 9

abbrev anchor : Cell
anchor = cell_with (pos 10) (pos 20)

-- two cells to the right, absent, and five to the right and up
abbrev walk : List ℕ
walk = 3 ∷ 0 ∷ 2 ∷ []

-- bounds as numbers
abbrev numbers : LogBounds → ℕ × List ℤ
numbers bounds = (bounds.speed, bounds.area.x1 ∷ bounds.area.y1 ∷ bounds.area.x2 ∷ bounds.area.y2 ∷ [])

it_ends_there : cell_after walker anchor walk ≡ cell_with (pos 17) (pos 25)
unfolding cell_after displacement_of values_of expansion_of table_of_rules move_of
it_ends_there = refl

it_takes_four_instants : duration_of_log walker walk ≡ 4
unfolding duration_of_log duration_of expansion_of table_of_rules
it_takes_four_instants = refl

-- two cells in one instant are faster than seven in four, and the box has the anchor
a_walk_has_its_bounds : numbers (bounds_of walker anchor walk) ≡ (2, pos 10 ∷ pos 20 ∷ pos 17 ∷ pos 25 ∷ [])
unfolding log_speed log_box cell_after duration_of_log entry_of bounding_box_of box_round displacement_of
    values_of expansion_of table_of_rules cells_along move_of duration_of
a_walk_has_its_bounds = refl

-- five cells in two instants
speeds_are_rounded_up : numbers (bounds_of walker anchor (0 ∷ 2 ∷ [])) ≡ (3, pos 10 ∷ pos 20 ∷ pos 15 ∷ pos 25 ∷ [])
unfolding log_speed log_box cell_after duration_of_log entry_of bounding_box_of box_round displacement_of
    values_of expansion_of table_of_rules cells_along move_of duration_of
speeds_are_rounded_up = refl

-- who is absent stays
an_absence_bounds_nothing_more : numbers (bounds_of walker anchor (0 ∷ [])) ≡ numbers (bounds_of walker anchor [])
unfolding log_speed log_box cell_after duration_of_log entry_of bounding_box_of box_round displacement_of
    values_of expansion_of table_of_rules cells_along move_of duration_of
an_absence_bounds_nothing_more = refl
