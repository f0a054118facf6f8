-- What is known of the bounds of logs while these are read.
use Rattle.std.specs.Prelude.{◌≡◌, ℕ, ◌+◌, List, ◌++◌, length, map, Result, Ok, Err}
use Rattle.std.specs.List.{sum_by}
use Rattle.log_bounds.specs.Bounds.{bounds_of, cell_after, duration_of_log}
use Rattle.log_bounds.specs.declared.bounds.LogBounds.{LogBounds}
use Rattle.rule_store.specs.View.{RulesView}
use Rattle.rule_store.specs.declared.entry_table.EntryTable.{EntryTable}
use Rattle.track_types.specs.declared.flaw.Kind.{Kind}
use Rattle.rule_store.specs.Table.{IsWholeTable}
use Rattle.index_format.specs.IsOutline.{blocks_with_logs}
use Rattle.index_format.specs.OutlineBounds.{block_bounds}
use Rattle.index_format.specs.declared.outline.OutlineBlock.{OutlineBlock}
use Rattle.index_format.specs.declared.outline.blocks.Progress.{Progress}
use Rattle.index_format.specs.declared.outline.bounded_log.BoundedLog.{BoundedLog}
use Rattle.index_format.specs.declared.outline.entries.LogRest.{LogRest}

-- where a log has come to, or what is wrong with its last symbol
abbrev pub reached : Result BoundedLog Kind → Result LogRest Kind
reached (Ok log) = Ok log.at
reached (Err kind) = Err kind

-- of these symbols, those behind the ones before are a log's own: they lead from its start to where it has come to, and
-- have its bounds
pub record IsReadBehind (view : RulesView) (start : LogRest) (before symbols : List ℕ) (log : BoundedLog) : Type 0 where
  pub own : List ℕ
  pub joined : symbols ≡ before ++ own
  pub begins : log.whole ≡ start.rest
  pub bounded : log.bounds ≡ bounds_of view start.cell own
  pub cell : log.at.cell ≡ cell_after view start.cell own
  pub passed : duration_of_log view own + log.at.rest ≡ start.rest

-- blocks that have all symbols, and the bounds of their logs
pub record AreBounded (view : RulesView) (blocks : List OutlineBlock) (symbols : List ℕ) (bounds : List LogBounds) : Type 0 where
  pub whole : sum_by (λ (block : OutlineBlock). block.length) blocks ≡ length symbols
  pub each : bounds ≡ map (block_bounds view) (blocks_with_logs blocks symbols)

-- what was read so far has the bounds of its blocks
abbrev pub IsBounded : RulesView → Progress → Type 0
IsBounded view progress = AreBounded view progress.blocks.items progress.symbols.items progress.bounds.items

-- it still has them, if it had them before
abbrev pub StaysBounded : EntryTable → Progress → Progress → Type 0
StaysBounded table before after = (view : RulesView) → IsWholeTable view table → IsBounded view before → IsBounded view after
