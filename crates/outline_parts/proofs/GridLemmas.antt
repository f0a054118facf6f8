-- Cells in the grid, counted from its base or not, and the cells that a sound log leads to.
use Rattle.std.proofs.Common.{All, ◌≡◌, ℕ, suc, ◌^◌, ◌<◌, ℤ, true, List, [], ◌∷◌, ◌++◌, length, None, Some, Option, IfSome}
use Rattle.std.proofs.Common.{sym, ap, ◌∙◌, arith, subst}
use Rattle.std.specs.Prelude.{slice_index}
use Rattle.std.specs.Option.{option_to_list}
use Rattle.std.proofs.lemmas.Grind.{flat_map-append}
use Rattle.std.proofs.lemmas.Int.{ints}
use Rattle.std.proofs.lemmas.Nat.{pow_pos}
use Rattle.std.proofs.lemmas.List.Elements.{All-append, All-nil, All-weaker}
use Rattle.list_laws.proofs.MapLemmas.{All-from_map}
use Rattle.track_types.specs.declared.cell.Cell.{Cell}
use Rattle.track_types.specs.declared.cell_box.CellBox.{CellBox}
use Rattle.track_types.specs.declared.frame.Frame.{Frame}
use Rattle.k2_tree.specs.Morton.{IsInGrid}
use Rattle.rule_store.specs.Boxes.{bounding_box_of}
use Rattle.rule_store.specs.Cells.{cells_along, displacement_of, moved, present_in}
use Rattle.rule_store.specs.Entry.{entry_of}
use Rattle.rule_store.specs.Expansion.{values_of}
use Rattle.rule_store.specs.Log.{log_values}
use Rattle.rule_store.specs.View.{RulesView}
use Rattle.rule_store.proofs.CellLemmas.{cells_along-append, present-moved}
use Rattle.index_format.specs.OutlineBlocks.{is_in_grid}
use Rattle.log_bounds.specs.Bounds.{cell_after, cell_before}
use Rattle.snapshots.specs.SoundParts.{IsInGridAt}
use Rattle.snapshots.proofs.ReachLemmas.{IsCovered, covered-along, hull_of-entry, present-none}
use Rattle.outline_parts.specs.PartsOfOutline.{cell_from}

module _ (frame : Frame) where
  -- a cell is in the grid
  abbrev pub IsPlaced : Cell → Type 0
  IsPlaced cell = IsInGrid frame.height frame.base cell

  -- a cell of the grid is one, counted from the base
  pub out_of_grid : (cell : Cell) → IsInGrid frame.height frame.base (cell_from frame cell) → is_in_grid frame.height cell ≡ true
  out_of_grid cell is =
      let some : 0 < 2 ^ frame.height = pow_pos frame.height in
      grind (arith, ints, is.left, is.right, is.below, is.above, some)

  -- cells of a box that is placed in the grid are in it
  in-hull : (cell : Cell) (hull : Option CellBox) (values : List ℕ) → hull ≡ bounding_box_of values →
      IfSome hull (IsInGridAt frame cell) → All IsPlaced (present_in (cells_along cell values))
  in-hull cell None values is held = subst (All IsPlaced) (sym (present-none cell values is)) (All-nil IsPlaced)
  in-hull cell (Some hull) values is held =
      All-weaker (IsCovered cell hull) IsPlaced (λ other its. record {
        left = omega (arith, ints, its.left, held.left);
        right = omega (arith, ints, its.left, its.right, held.left, held.right);
        below = omega (arith, ints, its.below, held.below);
        above = omega (arith, ints, its.below, its.above, held.below, held.above);
      }) (present_in (cells_along cell values)) (covered-along cell values hull is)

  -- and so are the cells of a log whose placed boxes are
  pub in-log : (rules : RulesView) (log : List ℕ) (cell : Cell) →
      ((place : ℕ) → place < length log → IfSome (entry_of rules (slice_index log place)).hull (IsInGridAt frame (cell_before rules cell log place))) →
      All IsPlaced (present_in (cells_along cell (log_values rules log)))
  unfolding cell_after log_values cells_along
  in-log rules [] cell held = All-nil IsPlaced
  in-log rules (symbol ∷ log) cell held =
      let values : List ℕ = values_of rules symbol in
      let next : Cell = moved cell (displacement_of values) in
      let parts : present_in (cells_along cell (values ++ log_values rules log))
      ≡ present_in (cells_along cell values) ++ present_in (cells_along next (log_values rules log)) =
      ap present_in (cells_along-append cell values (log_values rules log))
      ∙ flat_map-append option_to_list (cells_along cell values) (cells_along next (log_values rules log)) in
      subst (All IsPlaced) (sym parts)
      (All-append IsPlaced (present_in (cells_along cell values)) (present_in (cells_along next (log_values rules log)))
      (in-hull cell (entry_of rules symbol).hull values (hull_of-entry rules symbol) (held 0 (omega arith)))
      (in-log rules log next (λ place within. held (suc place) (omega arith))))

  -- counted from the base, they are in the grid too
  pub in-log-from : (cell : Cell) (values : List ℕ) → All IsPlaced (present_in (cells_along (cell_from frame cell) values)) →
      All (λ c. is_in_grid frame.height c ≡ true) (present_in (cells_along cell values))
  in-log-from cell values each =
      let by : ℤ × ℤ = (frame.base.x, frame.base.y) in
      All-weaker (λ c. IsPlaced (cell_from frame c)) (λ c. is_in_grid frame.height c ≡ true) (λ c is. out_of_grid c is)
      (present_in (cells_along cell values))
      (All-from_map IsPlaced (λ (c : Cell). moved c by) (present_in (cells_along cell values))
      (subst (All IsPlaced) (present-moved by cell values) each))
