-- The definitions, run on small charts.
use Rattle.std.proofs.Common.{◌≡◌, ℕ, ℤ, pos, true, false, [], ◌∷◌, refl}
use Rattle.track_types.specs.Chart.{ChartView, chart_with}
use Rattle.track_types.specs.Quantities.{anchors_of, distinct}
use Rattle.track_types.specs.declared.limit.TheConstants.{MAX_VERSION}
use Rattle.track_types.specs.declared.row.Row.{Row}
use Rattle.list_laws.specs.Grown.{table_of_rules}
use Rattle.list_laws.specs.Ordered.{ordered, insert_in_order}
use Rattle.spiral_code.specs.Spiral.{code_of}
use Rattle.k2_tree.specs.Morton.{interleaved, morton_of}
use Rattle.k2_tree.specs.Widths.{digits_in, levels_with}
use Rattle.k2_tree.specs.TreeBits.{level_bits, children_of_prefixes, morton_bits, prefixes}
use Rattle.movement_log.specs.Values.{value_at}
use Rattle.movement_log.specs.Logs.{alphabet_of, ascending_of, block_anchors, logged_values, logs_of}
use Rattle.repair_grammar.specs.RePair.{after_round, first_key, is_first_of, key_order, keys_of, replacement_count, pair_count, pairs_in, re_pair, block_after_pass, rounds}
use Rattle.rule_order.specs.Layers.{layer_of}
use Rattle.rule_order.specs.Order.{new_symbol, order_to, settled_rules, symbols_in_order}
use Rattle.parts_order.specs.SettledParts.{settled_parts}
use Rattle.chart_parts.specs.Header.{frame_of}
use Rattle.chart_parts.specs.LeafOrder.{distinct_codes, ends_of, leaf_codes, leaf_order}
use Rattle.chart_parts.specs.PartsOf.{anchor_codes, grammar_of, logged_anchors, compressed_parts_of, logs_in, parts_of, period_of_chart}

abbrev row : ℕ → ℤ → ℤ → ℤ → Row
row object instant x y = record { object = object; instant = instant; cell = record { x = x; y = y } }

-- one object, which moves to the right and then up to the right
abbrev path : ChartView
path = chart_with (row 7 (pos 0) (pos 10) (pos 10) ∷ row 7 (pos 1) (pos 11) (pos 10) ∷ row 7 (pos 2) (pos 12)
    (pos 11) ∷ []) 1 1 4

path_parts : parts_of path ≡ record {
  frame = record { version = MAX_VERSION; first = pos 0; span = 3; period = 4; height = 2; base = record { x = pos 10; y = pos 10 }; cell = 1; tick = 1 };
  objects = 7 ∷ [];
  alphabet = 2 ∷ 3 ∷ [];
  rules = [];
  periods = record {
    present = true ∷ [];
    offsets = 0 ∷ [];
    tree = true ∷ false ∷ false ∷ false ∷ true ∷ false ∷ false ∷ false ∷ [];
    lasts = true ∷ [];
    perm = 0 ∷ [];
    lengths = 2 ∷ [];
  } ∷ [];
  symbols = 0 ∷ 1 ∷ [];
}
unfolding parts_of settled_parts settled_rules symbols_in_order new_symbol order_to layer_of table_of_rules compressed_parts_of frame_of period_of_chart anchor_codes grammar_of logged_anchors logs_in leaf_order leaf_codes distinct_codes ends_of
    ordered insert_in_order morton_of interleaved levels_with digits_in morton_bits level_bits children_of_prefixes prefixes
    logs_of alphabet_of ascending_of block_anchors logged_values value_at code_of anchors_of distinct
    after_round first_key is_first_of key_order keys_of replacement_count pair_count pairs_in re_pair block_after_pass rounds
path_parts = refl
