-- Where an object is at an instant of a period: in its block, which costs a look for it and a search in its log.
use Rattle.std.proofs.Common.{◌≡◌, ℕ, ◌+◌, ◌-◌, ◌≤◌, ℤ, List, drop, length, None, Some, refl, arith}
use Rattle.std.proofs.lemmas.List.{length-take}
use Rattle.track_types.specs.declared.parts.Parts.{Parts}
use Rattle.rule_store.specs.View.{RulesView}
use Rattle.rule_store.specs.Expansion.{depth_in}
use Rattle.rule_store.specs.Log.{block_stops}
use Rattle.log_cursor.specs.Cost.{seek_reads}
use Rattle.log_cursor.specs.Seek.{cell_among}
use Rattle.log_cursor.specs.declared.start.Start.{Start}
use Rattle.log_cursor.specs.Start.{start_at}
use Rattle.snapshots.specs.Cost.{lookup_reads}
use Rattle.snapshots.specs.IndexCost.{position_cost_in}
use Rattle.snapshots.specs.Parts.{anchored_at, log_in, rules_in, snapshot_in, stops_in}
use Rattle.snapshots.specs.View.{block_of}
use Rattle.snapshots.specs.declared.anchored.Anchored.{Anchored}

module _ (parts : Parts) (index number : ℕ) (instant : ℤ) where
  -- the object has no block in the period
  pub cell_among-absent : None ≡ block_of (snapshot_in parts number) index →
      cell_among (stops_in parts index number) instant ≡ None
  unfolding stops_in cell_among
  cell_among-absent absent = rw (← absent) refl

  -- it has one, with a log of these rules and a start
  module _ (block : Anchored) (rules : RulesView) (log : List ℕ) (start : Start)
      (present : Some block ≡ block_of (snapshot_in parts number) index) (of : rules ≡ rules_in parts) (its_log : log ≡ log_in parts block)
      (its_start : start ≡ start_at (anchored_at parts.frame number block) block.cell) where
    pub cell_among-present : cell_among (block_stops rules start.instant start.cell log) instant
        ≡ cell_among (stops_in parts index number) instant
    unfolding stops_in
    cell_among-present = rw (of, its_log, its_start, ← present) refl

    pub position_cost_in-present : lookup_reads + seek_reads (length log) (depth_in rules)
        ≤ position_cost_in parts (Some index) (Some number)
    position_cost_in-present =
        let symbols : List ℕ = parts.symbols in
        let short : length (log_in parts block) ≤ block.len =
        omega (arith, length-take (block.from + block.len - block.from) (drop block.from symbols)) in
        rw (of, its_log, ← present) (omega (arith, short))
