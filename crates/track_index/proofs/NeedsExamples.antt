-- Which reads questions need, run on the parts of a small chart.
use Rattle.std.proofs.Common.{◌≡◌, Bool, true, false, pos, List, [], ◌∷◌, map, refl}
use Rattle.packed_bits.specs.Bits.{ones_of}
use Rattle.bit_rank.specs.Bits.{rank_of}
use Rattle.step_count.specs.Reads.{ofPeriod, ofRule, ofSymbol}
use Rattle.track_types.specs.declared.parts.Parts.{Parts}
use Rattle.track_types.specs.declared.period_parts.PeriodParts.{PeriodParts}
use Rattle.track_types.specs.declared.question.Question.{Question}
use Rattle.track_types.specs.declared.question.Question.TheVariants.{Interval, Meet, Nearest, Path, Position, Slice}
use Rattle.track_types.specs.declared.region.Region.TheVariants.{Disc, Rect}
use Rattle.k2_tree.specs.Morton.{cell_of, morton_column, morton_row}
use Rattle.k2_tree.specs.Tree.{codes_below, codes_in, where_set}
use Rattle.k2_tree.specs.TreeBits.{children_of_prefixes, prefixes}
use Rattle.k2_tree.specs.Widths.{digits_in, levels_with}
use Rattle.list_laws.specs.Grown.{table_of_rules}
use Rattle.spiral_code.specs.Spiral.{move_of, ring_moves, ring_of_code, side_moves}
use Rattle.rule_store.specs.Boxes.{bounding_box_of, box_round}
use Rattle.rule_store.specs.Cells.{cells_along, displacement_of}
use Rattle.rule_store.specs.Expansion.{expansion_of}
use Rattle.rule_store.specs.Nodes.{nodes_in, parsed}
use Rattle.log_cursor.specs.Touching.{holding_rule, touching_rule}
use Rattle.log_cursor.specs.Turn.{opening_rule}
use Rattle.snapshots.specs.Parts.{start_in}
use Rattle.snapshots.specs.View.{all_blocks}
use Rattle.object_track.specs.Needs.{track_rule}
use Rattle.slice_search.specs.Needs.{period_rule}
use Rattle.nearest_search.specs.Needs.{near_rule}
use Rattle.track_index.specs.Cost.{needs_of}
use Rattle.track_index.proofs.Examples.{corner, halves, repeated}

-- a period in which two objects begin in one cell, and each has one symbol
abbrev side_by_side : PeriodParts
side_by_side = record {
  present = true ∷ true ∷ [];
  offsets = 0 ∷ 0 ∷ [];
  tree = corner 2;
  lasts = false ∷ true ∷ [];
  perm = 0 ∷ 1 ∷ [];
  lengths = 1 ∷ 1 ∷ [];
}

-- two objects in two such periods of two instants: the symbols of the first period stand at the places 0 and 1
abbrev pair : Parts
pair = record {
  frame = halves;
  objects = 7 ∷ 9 ∷ [];
  alphabet = 2 ∷ [];
  rules = [];
  periods = side_by_side ∷ side_by_side ∷ [];
  symbols = 0 ∷ 0 ∷ 0 ∷ 0 ∷ [];
}

-- of the reads of both periods, of a rule, and of the four symbols, those that a question needs
abbrev needed : Question → List Bool
needed question = map (needs_of pair question)
    (ofPeriod 0 ∷ ofPeriod 1 ∷ ofRule 1 ∷ ofSymbol 0 ∷ ofSymbol 1 ∷ ofSymbol 2 ∷ ofSymbol 3 ∷ [])

-- a position needs its object's log in the period of its instant
position : needed (Position 9 (pos 2)) ≡ false ∷ true ∷ false ∷ false ∷ false ∷ false ∷ true ∷ []
unfolding start_in holding_rule nodes_in parsed table_of_rules rank_of ones_of
position = refl

-- a slice needs all logs of that period
slice : needed (Slice (pos 2) (Disc (pos 0) (pos 0) 5)) ≡ false ∷ true ∷ false ∷ false ∷ false ∷ true ∷ true ∷ []
unfolding start_in period_rule all_blocks touching_rule nodes_in parsed table_of_rules rank_of ones_of
slice = refl

-- a path needs its object's logs in the periods that its window meets
path : needed (Path 7 (pos 1) (pos 2)) ≡ true ∷ true ∷ false ∷ true ∷ false ∷ true ∷ false ∷ []
unfolding start_in track_rule opening_rule nodes_in parsed table_of_rules rank_of ones_of
path = refl

-- a meeting needs nothing, since an index alone finds none
meeting : needed (Meet 7 9 (pos 0) (pos 1) 3) ≡ false ∷ false ∷ false ∷ false ∷ false ∷ false ∷ false ∷ []
meeting = refl

-- Of a rule that moves an object from (0, 0) to (2, 0), and then from there to (4, 0), the questions need what touches their region,
-- holds their instant or meets their window.
rule : map (λ question. needs_of repeated question (ofRule 1)) (
    -- a slice that has no cell of its boxes does not
    Slice (pos 1) (Rect (pos 1) (pos 1) (pos 4) (pos 4))
    -- one that has a cell of the box that is there later does not either
    ∷ Slice (pos 1) (Rect (pos 3) (pos 0) (pos 4) (pos 0))
    -- one that has a cell of the box at its instant does
    ∷ Slice (pos 1) (Rect (pos 2) (pos 0) (pos 4) (pos 0))
    -- so does an interval that comes to the later box
    ∷ Interval (pos 1) (pos 3) (Rect (pos 4) (pos 0) (pos 4) (pos 0))
    -- a position and the nearest do at an instant that it holds
    ∷ Position 1 (pos 1) ∷ Nearest 1 (pos 3) (record { x = pos 9; y = pos 9 })
    -- but not at the anchor, nor where there is no such object
    ∷ Position 1 (pos 0) ∷ Nearest 1 (pos 0) (record { x = pos 0; y = pos 0 }) ∷ Position 2 (pos 1)
    -- a path does whose window comes to its first instant, but not one that ends before
    ∷ Path 1 (pos 0) (pos 1) ∷ Path 1 (pos 0) (pos 0) ∷ [])
    ≡ false ∷ false ∷ true ∷ true ∷ true ∷ true ∷ false ∷ false ∷ false ∷ true ∷ false ∷ []
unfolding start_in period_rule near_rule track_rule all_blocks touching_rule holding_rule opening_rule nodes_in parsed table_of_rules
    expansion_of bounding_box_of box_round cells_along displacement_of move_of ring_moves ring_of_code side_moves where_set codes_below
    codes_in levels_with digits_in children_of_prefixes prefixes morton_row morton_column cell_of rank_of ones_of
rule = refl
