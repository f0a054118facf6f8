-- Sound rules and sound logs have no flaw.
use Rattle.std.proofs.Common.{◌≡◌, ℕ, ◌+◌, ◌-◌, ◌^◌, ◌<◌, ℤ, pos, ◌+ℤ◌, ◌≤ℤ◌, ◌<ℤ◌, true, false, List, length, Option, None, Some, IfSome, refl, arith}
use Rattle.std.specs.Prelude.{slice_index, nat_lt}
use Rattle.std.proofs.lemmas.Bool.{le-ltb, lt-leb, lt-ltb}
use Rattle.std.proofs.lemmas.Int.{ints}
use Rattle.std.proofs.lemmas.List.Elements.{All-weaker}
use Rattle.list_laws.proofs.FindLemmas.{find_in_range-none}
use Rattle.list_laws.proofs.FirstLemmas.{first_given-none, first_of_range-none}
use Rattle.spiral_code.specs.Spiral.{ring_of}
use Rattle.track_types.specs.Frame.{periods_of}
use Rattle.track_types.specs.declared.cell.Cell.{Cell}
use Rattle.track_types.specs.declared.cell_box.CellBox.{CellBox}
use Rattle.track_types.specs.declared.frame.Frame.{Frame}
use Rattle.track_types.specs.declared.parts.Parts.{Parts}
use Rattle.rule_store.specs.View.{RulesView, symbols_in}
use Rattle.rule_store.specs.Entry.{entry_of}
use Rattle.rule_store.specs.Flaws.{box_passes, is_far, is_rule_flawed, reach_limit, rule_parts, rules_flaw}
use Rattle.rule_store.specs.declared.entry.Entry.{Entry}
use Rattle.rule_store.proofs.FlawLemmas.{code_flaw-none, rule_flaw-none, rules_flaw-none, symbol_flaw-none}
use Rattle.log_bounds.specs.Bounds.{cell_before}
use Rattle.snapshots.specs.JoinFlaws.{block_flaw, blocks_flaw, is_along, is_off_grid, log_flaw, logs_flaw, off_grid_at, passes_grid}
use Rattle.snapshots.specs.Parts.{block_log, rules_in, snapshot_in}
use Rattle.snapshots.specs.SoundParts.{AreSoundLogs, AreSoundRules, IsBoxInReach, IsInGridAt, IsRule, IsShortEntry, IsSoundLog}
use Rattle.snapshots.specs.View.{SnapshotView, all_blocks, rank_in}
use Rattle.snapshots.specs.declared.anchored.Anchored.{Anchored}
use Rattle.snapshots.proofs.LogsLemmas.{log_flaw-none}

-- a box in reach does not pass the limit
box_passes-reach : (height : ℕ) (hull : Option CellBox) → IfSome hull (IsBoxInReach height)
    → box_passes height hull ≡ false
box_passes-reach height None near = refl
box_passes-reach height (Some area) near =
    let first : nat_lt (reach_limit height) (ring_of area.x1 area.y1) ≡ false = le-ltb _ _ near.0 in
    let second : nat_lt (reach_limit height) (ring_of area.x2 area.y2) ≡ false = le-ltb _ _ near.1 in
    rw (first, second) refl

-- a short entry is not far
is_far-short : (height period : ℕ) (entry : Entry) → IsShortEntry height period entry → is_far height period entry ≡ false
is_far-short height period entry short =
    let lasts : nat_lt (period - 1) entry.duration ≡ false = le-ltb _ _ short.duration in
    let leads : nat_lt (reach_limit height) (ring_of entry.dx entry.dy) ≡ false = le-ltb _ _ short.displacement in
    rw (lasts, leads, box_passes-reach height entry.hull short.hull) refl

-- a sound rule is not flawed
is_rule_flawed-sound : (rules : RulesView) (j : ℕ) → IsRule rules j → is_rule_flawed rules j ≡ false
unfolding is_rule_flawed
is_rule_flawed-sound rules j is =
    let symbol : ℕ = length rules.alphabet + j in
    let left : nat_lt (rule_parts rules.rules j).0 symbol ≡ true = lt-ltb _ _ is.left in
    let right : nat_lt (rule_parts rules.rules j).1 symbol ≡ true = lt-ltb _ _ is.right in
    rw (left, right) (is_far-short rules.height rules.period (entry_of rules symbol) is.entry)

-- sound rules have no flaw
pub rules_flaw-sound : (rules : RulesView) → AreSoundRules rules → rules_flaw rules ≡ None
rules_flaw-sound rules are = rules_flaw-none rules (record {
  codes = code_flaw-none rules.height rules.alphabet (λ i within. le-ltb _ _ (are.codes i within));
  rules = rule_flaw-none rules (λ j within. is_rule_flawed-sound rules j (are.rules_are j within));
  symbols = symbol_flaw-none (symbols_in rules) rules.symbols (λ i within. lt-leb _ _ (are.symbols i within));
})

-- numbers between the first and the last of a side lie along it
is_along-within : (height : ℕ) (least amount first last : ℤ) → least ≤ℤ (amount +ℤ first)
    → (amount +ℤ last) <ℤ (least +ℤ pos (2 ^ height)) → is_along height least amount first last ≡ true
is_along-within height least amount first last low high = grind (arith, ints)

-- a box that is placed in the grid does not pass it
passes_grid-placed : (frame : Frame) (cell : Cell) (hull : Option CellBox) → IfSome hull (IsInGridAt frame cell)
    → passes_grid frame cell hull ≡ false
passes_grid-placed frame cell None placed = refl
passes_grid-placed frame cell (Some hull) placed =
    let columns : is_along frame.height frame.base.x cell.x hull.x1 hull.x2 ≡ true =
    is_along-within frame.height frame.base.x cell.x hull.x1 hull.x2 placed.left placed.right in
    let lines : is_along frame.height frame.base.y cell.y hull.y1 hull.y2 ≡ true =
    is_along-within frame.height frame.base.y cell.y hull.y1 hull.y2 placed.below placed.above in
    rw (columns, lines) refl

-- a sound log has no flaw
pub log_flaw-sound : (frame : Frame) (rules : RulesView) (number rank : ℕ) (block : Anchored)
    → IsSoundLog frame rules number block → log_flaw frame rules number rank block ≡ None
unfolding off_grid_at is_off_grid
log_flaw-sound frame rules number rank block is =
    let log : List ℕ = block_log rules block in
    log_flaw-none frame rules number rank block
    (find_in_range-none (is_off_grid frame rules block.cell log) 0 (length log) (λ place low within.
    passes_grid-placed frame (cell_before rules block.cell log place) (entry_of rules (slice_index log place)).hull
    (is.placed place (omega arith)))) is.lasts

-- sound logs of a snapshot have no flaw
pub blocks_flaw-sound : (rules : RulesView) (view : SnapshotView) → AreSoundLogs rules view
    → blocks_flaw rules view ≡ None
unfolding blocks_flaw
blocks_flaw-sound rules view are =
    first_given-none (block_flaw rules view) (all_blocks view)
    (All-weaker (IsSoundLog view.frame rules view.number) (λ block. block_flaw rules view block ≡ None)
    (λ block is. log_flaw-sound view.frame rules view.number (rank_in view block.index) block is) (all_blocks view) are)

-- sound logs of all periods have no flaw
pub logs_flaw-sound : (parts : Parts)
    → ((number : ℕ) → number < periods_of parts.frame → AreSoundLogs (rules_in parts) (snapshot_in parts number))
    → logs_flaw parts ≡ None
unfolding logs_flaw
logs_flaw-sound parts are =
    first_of_range-none _ 0 (periods_of parts.frame) (λ number low within.
    blocks_flaw-sound (rules_in parts) (snapshot_in parts number) (are number (omega arith)))
