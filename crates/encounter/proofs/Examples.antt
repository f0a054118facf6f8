-- The nodes of small blocks that are close, and what a period costs.
use Rattle.std.proofs.Common.{◌≡◌, ℕ, ◌*◌, pos, true, false, [], ◌∷◌, refl}
use Rattle.rule_store.specs.View.{RulesView, rules_with}
use Rattle.rule_store.specs.Log.{block_stops, log_values, stops_after, stops_from}
use Rattle.rule_store.specs.Boxes.{box_round}
use Rattle.rule_store.specs.Expansion.{expansion_of, values_of}
use Rattle.rule_store.specs.Nodes.{nodes_in, parsed}
use Rattle.list_laws.specs.Grown.{table_of_rules}
use Rattle.spiral_code.specs.Spiral.{move_of}
use Rattle.rule_store.specs.Cells.{cell_with, cells_along, displacement_of}
use Rattle.log_cursor.specs.Start.{start_at}
use Rattle.snapshots.specs.Cost.{lookup_reads}
use Rattle.encounter.specs.Span.{BlockTree, close_count, close_rule, count_with, rule_with, spans_in, log_tree}

-- two terminals, standing still and one to the right; rule 2 is twice to the right
abbrev grammar : RulesView
grammar = rules_with (1 ∷ 2 ∷ []) ((1, 1) ∷ []) (2 ∷ []) 4 9

-- a block with its anchor at instant 10 in (5, 5), and a rule after it
abbrev moving : BlockTree
moving = log_tree grammar (start_at (pos 10) (cell_with (pos 5) (pos 5))) (2 ∷ [])

-- blocks of an anchor alone, and of an anchor and two terminals
abbrev alone : ℕ → BlockTree
alone x = log_tree grammar (start_at (pos 11) (cell_with (pos x) (pos 5))) []

abbrev standing : BlockTree
standing = log_tree grammar (start_at (pos 10) (cell_with (pos 9) (pos 5))) (0 ∷ 0 ∷ [])

-- the rule is close to the other's anchor, or to its terminals, which are no rules
by_anchor : close_count (pos 0) (pos 20) 0 moving (alone 6) ≡ 1
unfolding close_count count_with spans_in nodes_in parsed table_of_rules block_stops stops_after log_values values_of expansion_of
    cells_along displacement_of stops_from move_of box_round
by_anchor = refl

by_terminals : close_count (pos 0) (pos 20) 2 moving standing ≡ 1
unfolding close_count count_with spans_in nodes_in parsed table_of_rules block_stops stops_after log_values values_of expansion_of
    cells_along displacement_of stops_from move_of box_round
by_terminals = refl

-- it is too far, or its instants miss the window
by_none : close_count (pos 0) (pos 20) 1 moving standing ≡ 0
unfolding close_count count_with spans_in nodes_in parsed table_of_rules block_stops stops_after log_values values_of expansion_of
    cells_along displacement_of stops_from move_of box_round
by_none = refl

by_window : close_count (pos 13) (pos 20) 2 moving standing ≡ 0
unfolding close_count count_with spans_in nodes_in parsed table_of_rules block_stops stops_after log_values values_of expansion_of
    cells_along displacement_of stops_from move_of box_round
by_window = refl

-- a block with itself counts twice
by_itself : close_count (pos 0) (pos 20) 0 moving moving ≡ 2
unfolding close_count count_with spans_in nodes_in parsed table_of_rules block_stops stops_after log_values values_of expansion_of
    cells_along displacement_of stops_from move_of box_round
by_itself = refl

-- rule 2 is twice to the right, rule 3 stands still twice; a block with its anchor at instant 10 in (5, 5), and both after it
abbrev both : RulesView
both = rules_with (1 ∷ 2 ∷ []) ((1, 1) ∷ (0, 0) ∷ []) (2 ∷ 3 ∷ []) 4 9

abbrev going : BlockTree
going = log_tree both (start_at (pos 10) (cell_with (pos 5) (pos 5))) (2 ∷ 3 ∷ [])

-- another's anchor is where the first leads, so that rule 2 is close to it by its last instant, and rule 3 is too late
abbrev waiting : BlockTree
waiting = log_tree both (start_at (pos 12) (cell_with (pos 7) (pos 5))) []

first_is_close : close_rule both (pos 0) (pos 20) 0 going waiting 2 ≡ true
unfolding close_rule rule_with spans_in nodes_in parsed table_of_rules block_stops stops_after log_values values_of expansion_of
    cells_along displacement_of stops_from move_of box_round
first_is_close = refl

second_is_not : close_rule both (pos 0) (pos 20) 0 going waiting 3 ≡ false
unfolding close_rule rule_with spans_in nodes_in parsed table_of_rules block_stops stops_after log_values values_of expansion_of
    cells_along displacement_of stops_from move_of box_round
second_is_not = refl

-- with the blocks the other way round it is the same rule
first_is_close_too : close_rule both (pos 0) (pos 20) 0 waiting going 2 ≡ true
unfolding close_rule rule_with spans_in nodes_in parsed table_of_rules block_stops stops_after log_values values_of expansion_of
    cells_along displacement_of stops_from move_of box_round
first_is_close_too = refl

-- an absence, standing still and one to the right; rule 3 is an absence, then standing still
abbrev absences : RulesView
absences = rules_with (0 ∷ 1 ∷ 2 ∷ []) ((0, 1) ∷ []) (3 ∷ []) 4 9

-- the rule of one block is close to the other's terminal, though the other has no rule
abbrev pausing : BlockTree
pausing = log_tree absences (start_at (pos 10) (cell_with (pos 2) (pos 0))) (3 ∷ [])

abbrev stepping : BlockTree
stepping = log_tree absences (start_at (pos 10) (cell_with (pos 0) (pos 0))) (2 ∷ [])

by_one_terminal : close_count (pos 0) (pos 20) 1 stepping pausing ≡ 1
unfolding close_count count_with spans_in nodes_in parsed table_of_rules block_stops stops_after log_values values_of expansion_of
    cells_along displacement_of stops_from move_of box_round
by_one_terminal = refl

-- and to the other's anchor, though the other has nothing else
abbrev late : BlockTree
late = log_tree absences (start_at (pos 11) (cell_with (pos 2) (pos 0))) []

by_one_anchor : close_count (pos 0) (pos 20) 0 pausing late ≡ 1
unfolding close_count count_with spans_in nodes_in parsed table_of_rules block_stops stops_after log_values values_of expansion_of
    cells_along displacement_of stops_from move_of box_round
by_one_anchor = refl

-- looking for two blocks
two_lookups : 2 * lookup_reads ≡ 92
two_lookups = refl
