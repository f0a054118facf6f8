-- The logs of an outline's blocks are sound in its parts: their boxes stay in the grid, and they last to the end of the
-- period.
use Rattle.std.proofs.Common.{◌≡◌, ℕ, ◌<◌, true, List, [], length, map}
use Rattle.std.proofs.Common.{refl, sym, ap, ◌∙◌, arith, subst}
use Rattle.std.specs.Prelude.{ℤ, slice_index}
use Rattle.std.specs.List.{Contains, range_with_len, sum_by}
use Rattle.std.proofs.lemmas.List.Elements.{All-contains}
use Rattle.list_laws.proofs.MemberLemmas.{member_of_map}
use Rattle.list_laws.proofs.SumLemmas.{All-filter_map, sum_by-agree}
use Rattle.track_types.specs.Frame.{periods_of}
use Rattle.track_types.specs.declared.cell.Cell.{Cell}
use Rattle.track_types.specs.declared.frame.Frame.{Frame}
use Rattle.track_types.specs.declared.parts.Parts.{Parts}
use Rattle.rule_store.specs.Cells.{cells_along, moved, present_in}
use Rattle.rule_store.specs.Entry.{duration_of, entry_of}
use Rattle.rule_store.specs.Expansion.{expansion_of, values_of}
use Rattle.rule_store.specs.Log.{log_values}
use Rattle.rule_store.specs.View.{RulesView}
use Rattle.rule_store.proofs.CellLemmas.{present-moved}
use Rattle.index_format.specs.IsOutline.{IsOutline}
use Rattle.index_format.specs.OutlineBlocks.{is_in_grid}
use Rattle.index_format.specs.declared.outline.Outline.{Outline}
use Rattle.log_bounds.specs.Bounds.{cell_before, duration_of_log}
use Rattle.snapshots.specs.JoinFlaws.{instants_after}
use Rattle.snapshots.specs.Parts.{block_log, rules_in, snapshot_in}
use Rattle.snapshots.specs.SoundParts.{AreSoundLogs, IsSoundLog}
use Rattle.snapshots.specs.View.{all_blocks, block_of}
use Rattle.snapshots.specs.declared.anchored.Anchored.{Anchored}
use Rattle.chart_parts.proofs.AlongLemmas.{IsAlong, IsInFrame, IsInGridAt-along}
use Rattle.chart_parts.proofs.LogLemmas.{IsAlong-place}
use Rattle.outline_parts.specs.PartsOfOutline.{cell_from, parts_of_outline}
use Rattle.outline_parts.proofs.BlockLemmas.{IsTold, outline_view, snapshot-outline, told-block, told_at}
use Rattle.outline_parts.proofs.OutlineLemmas.{Logged, each-mine, in_grid, its, no_block, object_in, outline_rules, period_in}
use Rattle.outline_parts.proofs.PairOrderLemmas.{each-inner}

module _ (outline : Outline) (is : IsOutline outline) where
  abbrev frame : Frame
  frame = outline.frame

  abbrev parts : Parts
  parts = parts_of_outline outline

  abbrev rules : RulesView
  rules = rules_in parts

  -- what symbols mean does not depend on those that are stored
  pub log_values-outline : (log : List ℕ) →
      log_values (rules_in (parts_of_outline outline)) log ≡ log_values (outline_rules outline is) log
  unfolding parts_of_outline log_values values_of expansion_of
  log_values-outline log = refl

  pub duration_of-outline : (symbol : ℕ) →
      duration_of (rules_in (parts_of_outline outline)) symbol ≡ duration_of (outline_rules outline is) symbol
  unfolding parts_of_outline duration_of expansion_of
  duration_of-outline symbol = refl

  module _ (number : ℕ) (below : number < periods_of outline.frame) where
    module _ (k : ℕ) (block : Anchored) (told : IsTold outline is number below k block) where
      abbrev it : Logged
      it = told_at outline is number below k

      abbrev log : List ℕ
      log = block_log rules block

      log-is : log ≡ it.1
      log-is = told.log

      its-cell : cell_from outline.frame it.0.cell ≡ block.cell
      its-cell = sym told.cell

      values-are : log_values rules log ≡ log_values (outline_rules outline is) it.1
      values-are = log_values-outline log ∙ ap (log_values (outline_rules outline is)) log-is

      -- from the block's cell the log's values stay in the grid
      along : IsAlong (IsInFrame frame) block.cell (log_values rules log)
      along =
          let has = each-mine outline is number k (no_block, []) told.within in
          let by : ℤ × ℤ = (outline.frame.base.x, outline.frame.base.y) in
          let values : List ℕ = log_values (outline_rules outline is) it.1 in
          let placed : present_in (cells_along block.cell (log_values rules log))
          ≡ map (λ c. moved c by) (present_in (cells_along it.0.cell values)) =
          ap (λ all. present_in (cells_along block.cell all)) values-are
          ∙ ap (λ cell. present_in (cells_along cell values)) told.cell
          ∙ present-moved by it.0.cell values in
          record {
            begins = subst (IsInFrame frame) its-cell (in_grid frame it.0.cell has.anchor);
            cells = λ cell inside.
                let from = member_of_map (λ c. moved c by) (present_in (cells_along it.0.cell values)) cell
                (subst (λ all. Contains all cell) placed inside) in
                let there : Contains (present_in (cells_along it.0.cell values)) from.0 = from.1 in
                let within : is_in_grid outline.frame.height from.0 ≡ true =
                All-contains (λ (c : Cell). is_in_grid outline.frame.height c ≡ true)
                (present_in (cells_along it.0.cell values)) from.0 has.inside there in
                subst (IsInFrame frame) from.2 (in_grid frame from.0 within);
          }

      lasts-to_end : duration_of_log rules log ≡ instants_after frame number block
      unfolding duration_of_log
      lasts-to_end =
          let has = each-mine outline is number k (no_block, []) told.within in
          let period : it.0.period ≡ number = each-inner object_in period_in number (its outline is) k (no_block, []) told.within in
          let fills = rw period at has.fills in
          let same : sum_by (duration_of rules) log ≡ sum_by (duration_of (outline_rules outline is)) it.1 =
          sum_by-agree (duration_of rules) (duration_of (outline_rules outline is)) duration_of-outline log
          ∙ ap (sum_by (duration_of (outline_rules outline is))) log-is in
          omega (arith, fills, same, told.offset)

      -- the log is sound
      pub IsSoundLog-told : IsSoundLog outline.frame (rules_in (parts_of_outline outline)) number block
      unfolding entry_of
      IsSoundLog-told = record {
        placed = λ place within.
            IsInGridAt-along frame (cell_before rules block.cell log place) (values_of rules (slice_index log place))
            (IsAlong-place (IsInFrame frame) rules block.cell log place along within);
        lasts = lasts-to_end;
      }

    -- the logs of a period are sound
    pub AreSoundLogs-outline : AreSoundLogs (rules_in (parts_of_outline outline)) (snapshot_in (parts_of_outline outline) number)
    unfolding all_blocks
    AreSoundLogs-outline =
        subst (AreSoundLogs rules) (sym (snapshot-outline outline is number below))
        (All-filter_map (IsSoundLog frame rules number) (block_of (outline_view outline is number below))
        (range_with_len 0 (length outline.objects)) (λ i block has.
        let told = told-block outline is number below i block has in
        IsSoundLog-told told.0 block told.1))
