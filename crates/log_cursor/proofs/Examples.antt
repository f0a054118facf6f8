-- The definitions, run on a worked block.
use Rattle.std.proofs.Common.{◌≡◌, ℕ, ℤ, pos, Bool, true, false, List, [], ◌∷◌, map, Option, Some, None, refl, sym, arith}
use Rattle.std.proofs.lemmas.Int.{ints}
use Rattle.track_types.specs.declared.cell.Cell.{Cell}
use Rattle.track_types.specs.declared.cell_box.CellBox.{CellBox}
use Rattle.track_types.specs.declared.region.Region.{Region}
use Rattle.track_types.specs.declared.region.Region.TheVariants.{Disc, Rect}
use Rattle.rule_store.specs.View.{RulesView, rules_with}
use Rattle.rule_store.specs.Expansion.{expansion_of, values_of}
use Rattle.rule_store.specs.Cells.{cell_with, cells_along, displacement_of}
use Rattle.rule_store.specs.Log.{block_stops, in_window, log_values, stop_at, stops_after, stops_from}
use Rattle.rule_store.specs.Boxes.{bounding_box_of, box_round}
use Rattle.rule_store.specs.Nodes.{block_budget, nodes_in, opened_count, parsed}
use Rattle.list_laws.specs.Grown.{table_of_rules}
use Rattle.spiral_code.specs.Spiral.{move_of}
use Rattle.log_cursor.specs.Needs.{walk_rule}
use Rattle.log_cursor.specs.Seek.{cell_among}
use Rattle.log_cursor.specs.Start.{start_at}
use Rattle.log_cursor.specs.Touching.{first_hit_of, holding_rule, touches_at, touching_count}
use Rattle.log_cursor.specs.Turn.{has_hull}
use Rattle.log_cursor.specs.Walk.{at_rest, nodes_left, reads_to, walk_from}
use Rattle.log_cursor.specs.declared.start.Start.{Start}
use Rattle.log_cursor.proofs.WalkLemmas.{walk_from-empty}

-- an absence, and a movement to the right; rule 2 is the movement and the absence, and rule 3 is rule 2 twice
abbrev four : RulesView
four = rules_with (0 ∷ 2 ∷ []) ((1, 0) ∷ (2, 2) ∷ []) (3 ∷ 1 ∷ []) 4 9

-- the anchor is at instant 10 in the cell (5, 5), and the block has an instant for each of its five terminals
abbrev log : List ℕ
log = 3 ∷ 1 ∷ []

moves_on : cell_among (block_stops four (pos 10) (cell_with (pos 5) (pos 5)) log) (pos 13) ≡ Some (cell_with (pos 7) (pos 5))
unfolding cell_among block_stops stops_after log_values values_of expansion_of table_of_rules cells_along stops_from move_of
moves_on = refl

is_absent : cell_among (block_stops four (pos 10) (cell_with (pos 5) (pos 5)) log) (pos 14) ≡ None
unfolding cell_among block_stops stops_after log_values values_of expansion_of table_of_rules cells_along stops_from move_of
is_absent = refl

-- rule 3 and its second part meet the window: the one begins at instant 11 and the other at 13, a cell further
windowed : walk_from four (0, 2) log (start_at (pos 10) (cell_with (pos 5) (pos 5))) (pos 13) (pos 14)
    ≡ record {
      rules = four;
      places = (0, 2);
      stops = stop_at (pos 13) (cell_with (pos 7) (pos 5)) ∷ [];
      reads = 4;
      unread = 2;
      nodes = record { begin = pos 11; cell = cell_with (pos 5) (pos 5); inside = 1 ∷ 0 ∷ 1 ∷ 0 ∷ [] }
          ∷ record { begin = pos 13; cell = cell_with (pos 6) (pos 5); inside = 1 ∷ 0 ∷ [] } ∷ [];
    }
unfolding nodes_left in_window block_stops stops_after log_values values_of expansion_of table_of_rules cells_along stops_from move_of
    block_budget opened_count nodes_in parsed bounding_box_of box_round displacement_of
windowed = refl

-- the whole block is read for five reads; up to the first movement they are four, since rule 3 and its first part are
-- opened, and up to the anchor the two of its symbols
abbrev whole : ℤ → ℕ
whole = reads_to (walk_from four (0, 2) log (start_at (pos 10) (cell_with (pos 5) (pos 5))) (pos 10) (pos 20))

all_reads : whole (pos 20) ≡ 5
unfolding nodes_left nodes_in parsed table_of_rules bounding_box_of box_round cells_along move_of
all_reads = refl

reads_to_a_movement : whole (pos 11) ≡ 4
unfolding nodes_left nodes_in parsed table_of_rules bounding_box_of box_round cells_along move_of
reads_to_a_movement = refl

reads_to_the_anchor : whole (pos 10) ≡ 2
unfolding nodes_left nodes_in parsed table_of_rules bounding_box_of box_round cells_along move_of
reads_to_the_anchor = refl

-- a window that ends before it begins
backwards : walk_from four (0, 2) log (start_at (pos 10) (cell_with (pos 5) (pos 5))) (pos 14) (pos 13) ≡ at_rest four (0, 2)
backwards = sym (walk_from-empty four (0, 2) log (start_at (pos 10) (cell_with (pos 5) (pos 5))) (pos 14) (pos 13)
    (omega (arith, ints)))

abbrev anchor : Start
anchor = start_at (pos 10) (cell_with (pos 5) (pos 5))

-- the one cell to which the second movement leads
abbrev one_cell : Region
one_cell = Rect (pos 7) (pos 5) (pos 7) (pos 5)

hits : first_hit_of four log anchor (pos 10) (pos 20) one_cell ≡ Some (stop_at (pos 13) (cell_with (pos 7) (pos 5)))
unfolding first_hit_of in_window block_stops stops_after log_values values_of expansion_of table_of_rules cells_along stops_from
    move_of
hits = refl

-- rule 3 and its second part have the cell in their placed boxes
touches : touching_count four anchor log (pos 10) (pos 20) one_cell ≡ 2
unfolding touching_count nodes_in parsed table_of_rules bounding_box_of box_round cells_along displacement_of move_of
touches = refl

-- of these only rule 3 begins by instant 12
touches_in_time : touching_count four anchor log (pos 10) (pos 12) one_cell ≡ 1
unfolding touching_count nodes_in parsed table_of_rules bounding_box_of box_round cells_along displacement_of move_of
touches_in_time = refl

-- the last movement, which is in no rule, leads to the disc
needs_no_rule : touching_count four anchor log (pos 10) (pos 20) (Disc (pos 8) (pos 5) 0) ≡ 0
unfolding touching_count nodes_in parsed table_of_rules bounding_box_of box_round cells_along displacement_of move_of
needs_no_rule = refl

-- rule 2 is the movement and the absence, and rule 3 is two absences
abbrev apart : RulesView
apart = rules_with (0 ∷ 2 ∷ []) ((1, 0) ∷ (0, 0) ∷ []) (2 ∷ 3 ∷ []) 4 9

-- the rules that hold an instant of both, one after the other
abbrev holding : ℤ → List Bool
holding instant = map (holding_rule apart anchor (2 ∷ 3 ∷ []) instant) (2 ∷ 3 ∷ [])

-- none holds the anchor's, and rule 2 those of its two terminals; rule 3 has no box
holds_instants : map holding (pos 10 ∷ pos 11 ∷ pos 12 ∷ pos 13 ∷ [])
    ≡ (false ∷ false ∷ []) ∷ (true ∷ false ∷ []) ∷ (true ∷ false ∷ []) ∷ (false ∷ false ∷ []) ∷ []
unfolding holding_rule nodes_in parsed table_of_rules expansion_of bounding_box_of box_round cells_along move_of
holds_instants = refl

-- the rules that a walk over a window up to instant 14 opens of both, by a test
abbrev opening : (Cell → Option CellBox → Bool) → ℤ → List Bool
opening may from = map (walk_rule may (walk_from apart (0, 2) (2 ∷ 3 ∷ []) anchor from (pos 14))) (2 ∷ 3 ∷ [])

-- rule 2 where the window meets it; rule 3 has no box
opens_in_window : map (opening has_hull) (pos 12 ∷ pos 13 ∷ []) ≡ (true ∷ false ∷ []) ∷ (false ∷ false ∷ []) ∷ []
unfolding walk_rule nodes_left nodes_in parsed table_of_rules expansion_of bounding_box_of box_round cells_along displacement_of
    move_of
opens_in_window = refl

-- the movement leads to (6, 5): a walk for another cell opens nothing
opens_for_a_cell : map (λ x. opening (touches_at (Rect (pos x) (pos 5) (pos x) (pos 5))) (pos 11)) (6 ∷ 7 ∷ [])
    ≡ (true ∷ false ∷ []) ∷ (false ∷ false ∷ []) ∷ []
unfolding walk_rule nodes_left nodes_in parsed table_of_rules expansion_of bounding_box_of box_round cells_along displacement_of
    move_of
opens_for_a_cell = refl
