-- The costs of searches, run on the parts of small charts.
use Rattle.std.proofs.Common.{◌≡◌, ℕ, pos, neg_ℤ, [], ◌∷◌, refl, List, map}
use Rattle.bit_rank.specs.Bits.{rank_of}
use Rattle.k2_tree.specs.Morton.{cell_of, morton_column, interleaved, morton_of, morton_row}
use Rattle.k2_tree.specs.Squares.{squares_above, squares_from}
use Rattle.k2_tree.specs.Tree.{codes_below, codes_in, where_set}
use Rattle.k2_tree.specs.TreeBits.{children_of_prefixes, prefixes}
use Rattle.k2_tree.specs.Widths.{digits_in, levels_with}
use Rattle.list_laws.specs.Grown.{table_of_rules}
use Rattle.list_laws.specs.Ordered.{ordered, insert_in_order}
use Rattle.log_cursor.specs.Touching.{touching_count}
use Rattle.packed_bits.specs.Bits.{ones_of}
use Rattle.spiral_code.specs.Spiral.{move_of, ring_moves, ring_of_code, side_moves}
use Rattle.track_types.specs.ByFilter.{nearest_among, nears_at, nears_of}
use Rattle.track_types.specs.declared.region.Region.TheVariants.{Disc, Rect}
use Rattle.rule_store.specs.Boxes.{bounding_box_of, box_round}
use Rattle.rule_store.specs.Cells.{cells_along, displacement_of}
use Rattle.rule_store.specs.Entry.{duration_of, entry_of}
use Rattle.rule_store.specs.Expansion.{depth_in, expansion_of, values_of}
use Rattle.rule_store.specs.Log.{block_stops, log_values, stops_after, stops_from}
use Rattle.rule_store.specs.Nodes.{block_budget, nodes_in, opened_count, parsed}
use Rattle.snapshots.specs.IndexCost.{path_cost, position_cost}
use Rattle.log_bounds.specs.Bounds.{cell_after, duration_of_log}
use Rattle.snapshots.specs.Parts.{chart_in, rows_in, start_in, stops_in}
use Rattle.log_bounds.specs.Bounds.{log_speed}
use Rattle.snapshots.specs.Speed.{blocks_speed}
use Rattle.snapshots.specs.View.{all_blocks}
use Rattle.interval_search.specs.Cost.{interval_cost}
use Rattle.nearest_search.specs.Cost.{is_near_enough, nearest_cost, period_near_cost}
use Rattle.slice_search.specs.Cost.{period_search_cost, slice_cost}
use Rattle.track_index.proofs.Examples.{absent, path, repeated}

-- what searches read, at most
abbrev reads : List (ℕ × ℕ)
reads =
    -- a slice within reach
    (slice_cost path (pos 1) (Rect (pos 9) (pos 9) (pos 12) (pos 12)), 201) ∷
    -- an interval of one period, which costs what a slice of its last instant does
    (interval_cost path (pos 0) (pos 9) (Rect (pos 0) (pos 0) (pos 12) (pos 12)), 201) ∷
    -- the nearest, of fewer than are wanted: all squares and blocks
    (nearest_cost path 5 (pos 1) (record { x = pos 0; y = pos 0 }), 201) ∷
    -- none of them
    (nearest_cost path 0 (pos 1) (record { x = pos 0; y = pos 0 }), 0) ∷
    -- a slice round an absence
    (slice_cost absent (pos 2) (Rect (neg_ℤ (pos 9)) (neg_ℤ (pos 9)) (pos 20) (pos 20)), 149) ∷
    -- a slice of the grid alone: only the reach of the whole grid touches this region
    (slice_cost repeated (pos 1) (Rect (pos 9) (pos 9) (pos 12) (pos 12)), 52) ∷
    -- a slice of three squares: the reach of the anchor's cell does not touch it
    (slice_cost repeated (pos 2) (Rect (pos 5) (pos 5) (pos 6) (pos 6)), 156) ∷
    -- a slice that opens no rule
    (slice_cost repeated (pos 3) (Rect (pos 1) (pos 1) (pos 1) (pos 1)), 253) ∷
    -- a slice that opens a rule
    (slice_cost repeated (pos 1) (Disc (pos 0) (pos 0) 2), 254) ∷
    -- an interval that opens no rule
    (interval_cost repeated (pos 0) (pos 5) (Rect (pos 5) (pos 5) (pos 6) (pos 6)), 253) ∷
    -- the nearest of one, whose block's reach has the answer
    (nearest_cost repeated 1 (pos 3) (record { x = pos 100; y = pos 0 }), 254) ∷
    []

each_reads_so : map (λ row. row.0) reads ≡ map (λ row. row.1) reads
unfolding slice_cost period_search_cost touching_count blocks_speed log_speed cell_after duration_of_log duration_of entry_of
    interval_cost nearest_cost period_near_cost is_near_enough nears_of nearest_among nears_at ordered insert_in_order chart_in rows_in
    stops_in block_stops stops_after stops_from log_values position_cost path_cost depth_in table_of_rules all_blocks squares_above squares_from prefixes where_set
    codes_below codes_in levels_with digits_in children_of_prefixes morton_row morton_column cell_of morton_of interleaved rank_of ones_of start_in block_budget nodes_in opened_count parsed
    values_of expansion_of bounding_box_of box_round displacement_of cells_along move_of ring_moves ring_of_code side_moves
each_reads_so = refl
