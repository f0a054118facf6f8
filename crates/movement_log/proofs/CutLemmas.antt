-- What blocks, their values and the alphabet of these make together, and logs that are taken off a list one by one.
use Rattle.std.proofs.Common.{◌≡◌, ℕ, ◌+◌, ◌<◌, ◌≤◌, ◌++◌, List, [], ◌∷◌, add-one, arith, drop, get_or, length, map, refl, sym, take, ◌∙◌, ap}
use Rattle.std.specs.Prelude.{sum_by}
use Rattle.std.specs.List.{flat_map}
use Rattle.std.proofs.Math.Seq.{drop-append_seam, drop-cons, take-append_seam}
use Rattle.std.proofs.lemmas.List.{length-append, length-map}
use Rattle.std.proofs.lemmas.List.Concat.{length-flat_map}
use Rattle.std.proofs.lemmas.List.Folds.{flat_map-map}
use Rattle.std.proofs.lemmas.List.FromFn.{length-map-range_with_len}
use Rattle.std.proofs.lemmas.Simd.{map-map}
use Rattle.list_laws.proofs.FlatLemmas.{sum_by-map}
use Rattle.list_laws.proofs.MapLemmas.{map-flat_map, map_alike}
use Rattle.list_laws.proofs.SumLemmas.{sum_by-agree}
use Rattle.track_types.specs.Chart.{ChartView}
use Rattle.track_types.specs.declared.row.Row.{Row}
use Rattle.movement_log.specs.Blocks.{AreBlocks, anchor_in, log_length_of}
use Rattle.movement_log.specs.Logs.{alphabet_of, ascending_of, block_anchors, head_of, joined_logs, logged_values, logs_of, terminal_of, values_after}
use Rattle.movement_log.specs.declared.blocks.Block.{Block}
use Rattle.movement_log.specs.declared.head.Head.{Head}
use Rattle.movement_log.specs.declared.raw_logs.JoinedLogs.{JoinedLogs}

module _ (chart : ChartView) where
  -- a log has as many terminals as instants follow its anchor in its period
  pub length-values_after : (anchor : Row) → length (values_after chart anchor) ≡ log_length_of chart anchor
  length-values_after anchor = length-map-range_with_len _ 1 (log_length_of chart anchor)

  module _ (blocks : List Block) (are : AreBlocks chart (block_anchors chart) blocks) where
    -- as many terminals as the blocks' logs have together
    pub sum_by-blocks : sum_by (λ block. log_length_of chart (anchor_in chart.rows block)) blocks
        ≡ sum_by (log_length_of chart) (block_anchors chart)
    sum_by-blocks = sym (sum_by-map (log_length_of chart) (anchor_in chart.rows) blocks) ∙ ap (sum_by (log_length_of chart)) are.anchors

    pub length-values : length (flat_map (λ block. values_after chart (anchor_in chart.rows block)) blocks)
        ≡ sum_by (log_length_of chart) (block_anchors chart)
    length-values =
        length-flat_map (λ block. values_after chart (anchor_in chart.rows block)) blocks
        ∙ sum_by-agree (λ block. length (values_after chart (anchor_in chart.rows block)))
        (λ block. log_length_of chart (anchor_in chart.rows block)) (λ block. length-values_after (anchor_in chart.rows block)) blocks
        ∙ sum_by-blocks

    values_are : flat_map (λ block. values_after chart (anchor_in chart.rows block)) blocks
        ≡ flat_map (λ values. values) (logged_values chart)
    unfolding logged_values
    values_are =
        sym (flat_map-map (values_after chart) (anchor_in chart.rows) blocks)
        ∙ ap (flat_map (values_after chart)) are.anchors
        ∙ sym (flat_map-map (λ (values : List ℕ). values) (values_after chart) (block_anchors chart))

    heads_are : map (λ block. block.head) blocks ≡ map (head_of chart) (block_anchors chart)
    heads_are =
        map_alike (λ block. block.head) (λ block. head_of chart (anchor_in chart.rows block)) blocks
        (λ k d below. (are.each k d below).head)
        ∙ sym (map-map (head_of chart) (anchor_in chart.rows) blocks) ∙ ap (map (head_of chart)) are.anchors

    lengths_are : map (λ block. log_length_of chart (anchor_in chart.rows block)) blocks
        ≡ map length (logs_of chart).terminals
    unfolding logs_of logged_values
    lengths_are =
        let terminals : List ℕ → List ℕ = map (terminal_of (alphabet_of chart)) in
        sym (map-map (log_length_of chart) (anchor_in chart.rows) blocks) ∙ ap (map (log_length_of chart)) are.anchors
        ∙ sym (map_alike (λ anchor. length (terminals (values_after chart anchor))) (log_length_of chart) (block_anchors chart)
        (λ k d below. length-map (values_after chart (get_or (block_anchors chart) k d)) (terminal_of (alphabet_of chart))
        ∙ length-values_after (get_or (block_anchors chart) k d)))
        ∙ sym (map-map (λ values. length (terminals values)) (values_after chart) (block_anchors chart))
        ∙ sym (map-map length terminals (map (values_after chart) (block_anchors chart)))

    -- joined logs of these four parts
    abbrev pub logs_with : List ℕ → List Head → List ℕ → List ℕ → JoinedLogs
    logs_with alphabet heads terminals lengths =
        record { alphabet = alphabet; heads = heads; terminals = terminals; lengths = lengths }

    pub logs_are : (values alphabet : List ℕ) (heads : List Head) (terminals lengths : List ℕ) →
        values ≡ flat_map (λ block. values_after chart (anchor_in chart.rows block)) blocks →
        alphabet ≡ ascending_of values → heads ≡ map (λ block. block.head) blocks →
        terminals ≡ map (terminal_of alphabet) values →
        lengths ≡ map (λ block. log_length_of chart (anchor_in chart.rows block)) blocks →
        logs_with alphabet heads terminals lengths ≡ joined_logs (logs_of chart)
    unfolding logs_of alphabet_of
    logs_are values alphabet heads terminals lengths is_values is_alphabet is_heads is_terminals is_lengths =
        let all : values ≡ flat_map (λ log. log) (logged_values chart) = is_values ∙ values_are in
        let used : alphabet ≡ alphabet_of chart = is_alphabet ∙ ap ascending_of all in
        let placed : terminals ≡ flat_map (λ log. log) (logs_of chart).terminals =
        is_terminals ∙ ap (λ letters. map (terminal_of letters) values) used ∙ ap (map (terminal_of (alphabet_of chart))) all
        ∙ map-flat_map (terminal_of (alphabet_of chart)) (λ log. log) (logged_values chart)
        ∙ sym (flat_map-map (λ (log : List ℕ). log) (map (terminal_of (alphabet_of chart))) (logged_values chart)) in
        rw (used, is_heads ∙ heads_are, placed, is_lengths ∙ lengths_are) refl

-- logs one after the other: what is in front, and what is behind it
module _ (logs : List (List ℕ)) (place len : ℕ) (within : place < length logs)
    (long : len ≡ length (get_or logs place [])) where
  log_first : flat_map (λ log. log) (drop place logs)
      ≡ get_or logs place [] ++ flat_map (λ log. log) (drop (place + 1) logs)
  log_first =
      let parted : drop place logs ≡ get_or logs place [] ∷ drop (place + 1) logs = rw add-one (drop-cons logs place [] within) in
      ap (flat_map (λ log. log)) parted

  pub log_fits : len ≤ length (flat_map (λ log. log) (drop place logs))
  log_fits = omega (arith, long, ap length log_first, length-append (get_or logs place []) (flat_map (λ log. log) (drop (place + 1) logs)))

  pub log_front : take len (flat_map (λ log. log) (drop place logs)) ≡ get_or logs place []
  log_front = rw (long, log_first) (take-append_seam (get_or logs place []) (flat_map (λ log. log) (drop (place + 1) logs)))

  pub log_behind : drop len (flat_map (λ log. log) (drop place logs)) ≡ flat_map (λ log. log) (drop (place + 1) logs)
  log_behind = rw (long, log_first) (drop-append_seam (get_or logs place []) (flat_map (λ log. log) (drop (place + 1) logs)))
