-- When an outline is the outline of an index.
use Rattle.std.specs.Prelude.{◌≡◌, ℕ, ◌+◌, ◌*◌, ◌<◌, ◌≤◌, nat_lt, nat_le, true, false, ◌&&◌, ◌||◌, Bool, List, [], ◌∷◌, length, zip, take, drop, All, None, ◌==◌}
use Rattle.std.specs.List.{sum_by}
use Rattle.std.specs.List.Sorted.{IsStrictlyIncreasing}
use Rattle.rule_store.specs.Cells.{cells_along, present_in}
use Rattle.rule_store.specs.Entry.{duration_of}
use Rattle.rule_store.specs.Flaws.{code_flaw, rule_flaw, are_below, rule_parts}
use Rattle.rule_store.specs.Log.{log_values}
use Rattle.rule_store.specs.View.{RulesView, symbols_in}
use Rattle.track_types.specs.Frame.{IsFrame, periods_of, instants_in}
use Rattle.track_types.specs.Limits.{limit_of}
use Rattle.track_types.specs.PartsForm.{AreShort}
use Rattle.track_types.specs.Spelling.{holds_parts, spelling_of}
use Rattle.track_types.specs.declared.cell.Cell.{Cell}
use Rattle.track_types.specs.declared.frame.Frame.{Frame}
use Rattle.track_types.specs.declared.limit.LimitKind.TheVariants.{Objects, Blocks, Symbols}
use Rattle.index_format.specs.OutlineRules.{layers_of}
use Rattle.index_format.specs.OutlineBlocks.{is_in_grid}
use Rattle.index_format.specs.OutlineFile.{frame_rules}
use Rattle.index_format.specs.declared.outline.Outline.{Outline}
use Rattle.index_format.specs.declared.outline.OutlineBlock.{OutlineBlock}

-- a rule, known by its layer, may follow another: by layer, then left part, then right part, and equal ones side by side
abbrev pub may_follow : ℕ × (ℕ × ℕ) → ℕ × (ℕ × ℕ) → Bool
may_follow before rule = nat_lt before.0 rule.0 || (before.0 == rule.0)
    && (nat_lt before.1.0 rule.1.0 || (before.1.0 == rule.1.0) && nat_le before.1.1 rule.1.1)

-- each element may follow the one before it
unfoldable pub all_follow : {A : Type 0} → (A → A → Bool) → List A → Bool
all_follow follows [] = true
all_follow follows (first ∷ []) = true
all_follow follows (first ∷ second ∷ rest) = follows first second && all_follow follows (second ∷ rest)

-- rules over so many terminals stand in the order of the format
pub record AreInOrder (terminals : ℕ) (rules : List (ℕ × ℕ)) : Type 0 where
  pub below : (j : ℕ) → j < length rules → are_below (terminals + j) (rule_parts rules j) ≡ true
  pub sorted : all_follow may_follow (zip (layers_of terminals rules) rules) ≡ true

-- each block with the symbols of its log
unfoldable pub blocks_with_logs : List OutlineBlock → List ℕ → List (OutlineBlock × List ℕ)
blocks_with_logs [] symbols = []
blocks_with_logs (block ∷ blocks) symbols = (block, take block.length symbols) ∷ blocks_with_logs blocks (drop block.length symbols)

-- a block of an outline: inside its period and the grid, with a log that lasts from its anchor to the end of the period
pub record IsBlock (frame : Frame) (view : RulesView) (objects : ℕ) (it : OutlineBlock × List ℕ) : Type 0 where
  pub object : it.0.index < objects
  pub period : it.0.period < periods_of frame
  pub offset : it.0.offset < instants_in frame it.0.period
  pub anchor : is_in_grid frame.height it.0.cell ≡ true
  pub whole : length it.1 ≡ it.0.length
  pub known : All (λ symbol. symbol < symbols_in view) it.1
  pub fills : it.0.offset + sum_by (duration_of view) it.1 + 1 ≡ instants_in frame it.0.period
  pub inside : All (λ (cell : Cell). is_in_grid frame.height cell ≡ true) (present_in (cells_along it.0.cell (log_values view it.1)))

-- a block may follow another: by object, then period
abbrev pub comes_after : OutlineBlock → OutlineBlock → Bool
comes_after before block = nat_lt before.index block.index || (before.index == block.index) && nat_lt before.period block.period

-- an outline is that of an index
pub record IsOutline (outline : Outline) : Type 0 where
  pub spelling : holds_parts (spelling_of outline.frame.version) ≡ false
  pub header : IsFrame outline.frame
  pub some : 1 ≤ length outline.objects
  pub few : length outline.objects ≤ limit_of Objects
  pub periods : length outline.objects * periods_of outline.frame ≤ limit_of Blocks
  pub objects : IsStrictlyIncreasing outline.objects
  pub short_objects : AreShort outline.objects
  pub alphabet : IsStrictlyIncreasing outline.alphabet
  pub near_values : code_flaw outline.frame.height outline.alphabet ≡ None
  pub few_values : length outline.alphabet ≤ limit_of Symbols
  pub few_rules : length outline.rules ≤ limit_of Symbols
  pub rules : AreInOrder (length outline.alphabet) outline.rules
  pub near_rules : rule_flaw (frame_rules outline.frame outline.alphabet outline.rules) ≡ None
  pub order : all_follow comes_after outline.blocks ≡ true
  pub each : All (IsBlock outline.frame (frame_rules outline.frame outline.alphabet outline.rules) (length outline.objects))
      (blocks_with_logs outline.blocks outline.symbols)
  pub symbols : sum_by (λ (block : OutlineBlock). block.length) outline.blocks ≡ length outline.symbols
  pub few_symbols : length outline.symbols ≤ limit_of Symbols
