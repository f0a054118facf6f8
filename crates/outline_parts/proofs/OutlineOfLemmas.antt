-- The outline of valid parts, whose rules are in order, is that of an index.
use Rattle.std.proofs.Common.{All, ◌≡◌, ℕ, ◌<◌, ◌≤◌, true, false, List, [], ◌∷◌, length, map, None, Some}
use Rattle.std.proofs.Common.{refl, sym, ◌∙◌, arith, subst}
use Rattle.std.specs.List.Sorted.{IsStrictlySortedBy}
use Rattle.std.specs.declared.cmp.Ordering.TheVariants.{Less}
use Rattle.std.proofs.lemmas.Bool.{and_from}
use Rattle.std.proofs.lemmas.Bool.Decides.{nat_tests}
use Rattle.std.proofs.lemmas.List.Concat.{length-flat_map}
use Rattle.std.proofs.lemmas.List.Elements.{All-contains, All-drop, All-from_get_or, All-take}
use Rattle.list_laws.proofs.SumLemmas.{sum_by-agree}
use Rattle.track_types.specs.Frame.{instants_in, periods_of}
use Rattle.track_types.specs.declared.cell.Cell.{Cell}
use Rattle.track_types.specs.Spelling.{holds_parts, spelling_of}
use Rattle.track_types.specs.declared.parts.Parts.{Parts}
use Rattle.rule_store.specs.Cells.{cells_along, present_in}
use Rattle.rule_store.specs.Entry.{duration_of, entry_of}
use Rattle.rule_store.specs.Expansion.{expansion_of, values_of}
use Rattle.rule_store.specs.Flaws.{is_rule_flawed, rule_flaw}
use Rattle.rule_store.specs.Log.{log_values}
use Rattle.rule_store.specs.View.{RulesView, symbols_in}
use Rattle.rule_store.proofs.FlawLemmas.{no_flaws}
use Rattle.index_format.specs.IsOutline.{AreInOrder, IsBlock, IsOutline, all_follow, blocks_with_logs, comes_after}
use Rattle.index_format.specs.OutlineBlocks.{is_in_grid}
use Rattle.index_format.specs.OutlineFile.{frame_rules}
use Rattle.index_format.specs.declared.outline.OutlineBlock.{OutlineBlock}
use Rattle.log_bounds.specs.Bounds.{duration_of_log}
use Rattle.snapshots.specs.Parts.{log_in, rules_in, snapshot_in}
use Rattle.snapshots.specs.Sound.{IsBlock as IsOfSnapshot}
use Rattle.snapshots.specs.SoundParts.{IsSoundLog, IsValid}
use Rattle.snapshots.specs.View.{all_blocks, block_of}
use Rattle.snapshots.specs.declared.anchored.Anchored.{Anchored}
use Rattle.snapshots.proofs.NoFlawLemmas.{rules_flaw-sound}
use Rattle.list_laws.proofs.PieceLemmas.{Contains-filter_map}
use Rattle.outline_parts.specs.OutlineOf.{cell_in, logged_block, logged_blocks, outline_of}
use Rattle.outline_parts.proofs.GridLemmas.{IsPlaced, in-log, in-log-from, out_of_grid}
use Rattle.outline_parts.proofs.KeyBitLemmas.{Contains-range}
use Rattle.outline_parts.proofs.LoggedLemmas.{logged-again, total-logged}
use Rattle.outline_parts.proofs.OutlineLemmas.{Logged, object_in, period_in}
use Rattle.outline_parts.proofs.PairOrderLemmas.{pair_order, pair_parts}
use Rattle.outline_parts.proofs.PeriodAgainLemmas.{cell-placed}
use Rattle.outline_parts.proofs.ToldLemmas.{All-told, length-told, told-sorted, whole-block, whole-told}

-- blocks in order follow each other
follows-sorted : (its : List Logged) → IsStrictlySortedBy (pair_order object_in period_in) its →
    all_follow comes_after (map (λ it. it.0) its) ≡ true
unfolding all_follow IsStrictlySortedBy
follows-sorted [] up = refl
follows-sorted (it ∷ []) up = refl
follows-sorted (it ∷ next ∷ its) up =
    let less : pair_order object_in period_in it next ≡ Less = up.0.0 in
    let parts = pair_parts object_in period_in it next less in
    and_from (comes_after it.0 next.0) (all_follow comes_after (map (λ one. one.0) (next ∷ its)))
    (follow it.0 next.0 parts.0 parts.1) (follows-sorted (next ∷ its) up.1)
  where
    follow : (before block : OutlineBlock) → before.index ≤ block.index → (before.index ≡ block.index → before.period < block.period) →
        comes_after before block ≡ true
    follow before block low tied = grind (arith, nat_tests, low, tied)

module _ (parts : Parts) (valid : IsValid parts) where
  abbrev rules : RulesView
  rules = rules_in parts

  abbrev judged_by : RulesView
  judged_by = frame_rules parts.frame parts.alphabet parts.rules

  -- what symbols mean does not depend on those that are stored
  values-same : (log : List ℕ) → log_values judged_by log ≡ log_values rules log
  unfolding log_values values_of expansion_of
  values-same log = refl

  durations-same : (symbol : ℕ) → duration_of judged_by symbol ≡ duration_of rules symbol
  unfolding duration_of expansion_of
  durations-same symbol = refl

  no-rule_flaw : rule_flaw judged_by ≡ None
  unfolding rule_flaw is_rule_flawed entry_of values_of expansion_of
  no-rule_flaw = (no_flaws rules (rules_flaw-sound rules valid.sound.rules)).rules

  known-symbols : All (λ symbol. symbol < symbols_in rules) parts.symbols
  known-symbols = All-from_get_or (λ symbol. symbol < symbols_in rules) parts.symbols 0 valid.sound.rules.symbols

  module _ (number i : ℕ) (block : Anchored) (below : number < periods_of parts.frame) (within : i < length parts.objects)
      (has : block_of (snapshot_in parts number) i ≡ Some block)
      (is : IsOfSnapshot (snapshot_in parts number) block) (own : block.index ≡ i)
      (whole : length (log_in parts block) ≡ block.len) where
    abbrev log : List ℕ
    log = log_in parts block

    sound-log : IsSoundLog parts.frame rules number block
    unfolding all_blocks
    sound-log =
        All-contains (IsSoundLog parts.frame rules number) (all_blocks (snapshot_in parts number)) block
        (valid.sound.logs number below)
        (Contains-filter_map (block_of (snapshot_in parts number)) _ i block
        (Contains-range 0 (length parts.objects) i (omega arith) (omega arith)) has)

    in-grid : All (λ (cell : Cell). is_in_grid parts.frame.height cell ≡ true)
        (present_in (cells_along (cell_in parts.frame block.cell) (log_values judged_by log)))
    in-grid =
        in-log-from parts.frame (cell_in parts.frame block.cell) (log_values judged_by log)
        (subst (λ cell. All (IsPlaced parts.frame) (present_in (cells_along cell (log_values judged_by log)))) (sym (cell-placed parts.frame block.cell))
        (subst (λ values. All (IsPlaced parts.frame) (present_in (cells_along block.cell values))) (sym (values-same log))
        (in-log parts.frame rules log block.cell sound-log.placed)))

    -- a block that is told is one of an outline
    IsBlock-told : IsBlock parts.frame judged_by (length parts.objects) (logged_block parts number block)
    unfolding duration_of_log
    IsBlock-told = record {
      object = omega (arith, own);
      period = below;
      offset = is.offset;
      anchor = out_of_grid parts.frame (cell_in parts.frame block.cell)
          (subst (IsPlaced parts.frame) (sym (cell-placed parts.frame block.cell)) is.cell);
      whole = whole;
      known = All-take (λ symbol. symbol < symbols_in rules) _ _ (All-drop (λ symbol. symbol < symbols_in rules) block.from parts.symbols known-symbols);
      fills =
          let lasts = sound-log.lasts in
          let offset : block.offset < instants_in parts.frame number = is.offset in
          let same = sum_by-agree (duration_of judged_by) (duration_of rules) durations-same log in
          omega (arith, lasts, offset, same);
      inside = in-grid;
    }

  each-told : All (IsBlock parts.frame judged_by (length parts.objects)) (logged_blocks parts)
  each-told =
      All-told parts valid (IsBlock parts.frame judged_by (length parts.objects))
      (λ number i block below within has is own.
      IsBlock-told number i block below within has is own (whole-block parts valid number block below is))

  -- blocks and symbols are told again
  pub logged-told : blocks_with_logs (outline_of parts).blocks (outline_of parts).symbols ≡ logged_blocks parts
  unfolding outline_of
  logged-told = logged-again (logged_blocks parts) (whole-told parts valid)

  -- the outline of the parts is that of an index
  pub IsOutline-outline_of : holds_parts (spelling_of parts.frame.version) ≡ false →
      AreInOrder (length parts.alphabet) parts.rules → IsOutline (outline_of parts)
  unfolding outline_of
  IsOutline-outline_of no_parts in_order = record {
    spelling = no_parts;
    header = valid.shaped.header;
    some = valid.shaped.some;
    few = valid.shaped.few;
    periods = valid.shaped.blocks;
    objects = valid.shaped.objects;
    short_objects = valid.shaped.short_objects;
    alphabet = valid.shaped.alphabet;
    near_values = (no_flaws rules (rules_flaw-sound rules valid.sound.rules)).codes;
    few_values = valid.shaped.few_values;
    few_rules = valid.shaped.few_rules;
    rules = in_order;
    near_rules = no-rule_flaw;
    order = follows-sorted (logged_blocks parts) (told-sorted parts valid);
    each = subst (All (IsBlock parts.frame judged_by (length parts.objects))) (sym logged-told) each-told;
    symbols = total-logged (logged_blocks parts) (whole-told parts valid)
        ∙ sym (length-flat_map (λ (it : Logged). it.1) (logged_blocks parts));
    few_symbols = omega (arith, length-told parts valid, valid.shaped.few_symbols);
  }
