-- When the parts of an index are sound, in words of their own: what is left of the format's rules where the parts
-- have the form of an index.
use Rattle.std.specs.Prelude.{◌≡◌, ℕ, ◌+◌, ◌-◌, ◌^◌, ◌<◌, ◌≤◌, ◌≤ℤ◌, ◌<ℤ◌, pos, ◌+ℤ◌, All, length, slice_index}
use Rattle.std.specs.Prelude.{ℤ, IfSome}
use Rattle.spiral_code.specs.Spiral.{ring_of}
use Rattle.track_types.specs.Frame.{periods_of}
use Rattle.track_types.specs.PartsForm.{IsShaped}
use Rattle.track_types.specs.declared.cell.Cell.{Cell}
use Rattle.track_types.specs.declared.cell_box.CellBox.{CellBox}
use Rattle.track_types.specs.declared.frame.Frame.{Frame}
use Rattle.track_types.specs.declared.parts.Parts.{Parts}
use Rattle.rule_store.specs.View.{RulesView, symbols_in}
use Rattle.rule_store.specs.Cells.{movement_of}
use Rattle.rule_store.specs.Entry.{entry_of}
use Rattle.rule_store.specs.Flaws.{reach_limit, rule_parts}
use Rattle.rule_store.specs.declared.entry.Entry.{Entry}
use Rattle.snapshots.specs.View.{SnapshotView, all_blocks}
use Rattle.snapshots.specs.Sound.{IsSoundPeriod}
use Rattle.snapshots.specs.Parts.{block_log, rules_in, snapshot_in, start_in}
use Rattle.log_bounds.specs.Bounds.{cell_before, duration_of_log}
use Rattle.snapshots.specs.JoinFlaws.{instants_after}
use Rattle.snapshots.specs.declared.anchored.Anchored.{Anchored}

-- a movement or a corner is not farther away than two cells of the grid may be
abbrev pub IsInReach : ℕ → ℤ → ℤ → Type 0
IsInReach height dx dy = ring_of dx dy ≤ reach_limit height

-- both corners of a box are in reach
abbrev pub IsBoxInReach : ℕ → CellBox → Type 0
IsBoxInReach height hull = IsInReach height hull.x1 hull.y1 × IsInReach height hull.x2 hull.y2

-- an entry lasts no longer than what follows an anchor, and its displacement and its box are in reach
pub record IsShortEntry (height period : ℕ) (entry : Entry) : Type 0 where
  pub duration : entry.duration ≤ period - 1
  pub displacement : IsInReach height entry.dx entry.dy
  pub hull : IfSome entry.hull (IsBoxInReach height)

-- the parts of rule j are below its own symbol, whose entry is short
pub record IsRule (rules : RulesView) (j : ℕ) : Type 0 where
  pub left : (rule_parts rules.rules j).0 < length rules.alphabet + j
  pub right : (rule_parts rules.rules j).1 < length rules.alphabet + j
  pub entry : IsShortEntry rules.height rules.period (entry_of rules (length rules.alphabet + j))

-- each value is a movement in reach, each rule is one, and each stored symbol is a terminal or a rule
pub record AreSoundRules (rules : RulesView) : Type 0 where
  pub codes : (i : ℕ) → i < length rules.alphabet
      → IsInReach rules.height (movement_of (slice_index rules.alphabet i)).0 (movement_of (slice_index rules.alphabet i)).1
  pub rules_are : (j : ℕ) → j < length rules.rules → IsRule rules j
  pub symbols : (i : ℕ) → i < length rules.symbols → slice_index rules.symbols i < symbols_in rules

-- a box, moved to a cell, is in the grid
pub record IsInGridAt (frame : Frame) (cell : Cell) (hull : CellBox) : Type 0 where
  pub left : frame.base.x ≤ℤ (cell.x +ℤ hull.x1)
  pub right : (cell.x +ℤ hull.x2) <ℤ (frame.base.x +ℤ pos (2 ^ frame.height))
  pub below : frame.base.y ≤ℤ (cell.y +ℤ hull.y1)
  pub above : (cell.y +ℤ hull.y2) <ℤ (frame.base.y +ℤ pos (2 ^ frame.height))

-- each placed box of a block's log is in the grid, and the log lasts to the end of the period
pub record IsSoundLog (frame : Frame) (rules : RulesView) (number : ℕ) (block : Anchored) : Type 0 where
  pub placed : (place : ℕ) → place < length (block_log rules block)
      → IfSome (entry_of rules (slice_index (block_log rules block) place)).hull
      (IsInGridAt frame (cell_before rules block.cell (block_log rules block) place))
  pub lasts : duration_of_log rules (block_log rules block) ≡ instants_after frame number block

-- each block of a snapshot has a sound log
abbrev pub AreSoundLogs : RulesView → SnapshotView → Type 0
AreSoundLogs rules view = All (IsSoundLog view.frame rules view.number) (all_blocks view)

-- the rules are sound, the lengths of all logs add up to the number of symbols, and the snapshot of each period and
-- the logs of its blocks are sound
pub record IsSound (parts : Parts) : Type 0 where
  pub rules : AreSoundRules (rules_in parts)
  pub total : start_in parts (periods_of parts.frame) ≡ length parts.symbols
  pub periods : (number : ℕ) → number < periods_of parts.frame → IsSoundPeriod (snapshot_in parts number)
  pub logs : (number : ℕ) → number < periods_of parts.frame → AreSoundLogs (rules_in parts) (snapshot_in parts number)

-- the parts are those of an index
pub record IsValid (parts : Parts) : Type 0 where
  pub shaped : IsShaped parts
  pub sound : IsSound parts
