-- What holds of the periods of an index and of the blocks in them.
use Rattle.std.proofs.Common.{ℕ, suc, ◌+◌, ◌^◌, ◌<◌, ◌≤◌, List, ◌*◌, pos, ◌+ℤ◌, ◌≤ℤ◌}
use Rattle.std.proofs.Common.{[], ◌∷◌, length, Option, None, Some, IfSome, true, refl, subst, arith}
use Rattle.std.specs.Prelude.{slice_index}
use Rattle.std.proofs.Math.Nat.{pow-le-pow_right}
use Rattle.std.proofs.lemmas.Int.{ints}
use Rattle.std.proofs.lemmas.List.Elements.{All-get_or}
use Rattle.std.proofs.lemmas.Option.{slice_get_within}
use Rattle.list_laws.proofs.RangeLemmas.{All-from_filter_map}
use Rattle.track_types.specs.Frame.{periods_of, IsFrame}
use Rattle.track_types.specs.PartsForm.{IsShapedPeriod}
use Rattle.track_types.specs.Near.{IsCellAsked}
use Rattle.track_types.specs.declared.cell.Cell.{Cell}
use Rattle.track_types.specs.declared.cell_box.CellBox.{CellBox}
use Rattle.track_types.specs.declared.frame.Frame.{Frame}
use Rattle.track_types.specs.declared.limit.TheConstants.{MAX_HEIGHT}
use Rattle.track_types.specs.declared.parts.Parts.{Parts}
use Rattle.track_types.proofs.TimelineLemmas.{period-ends}
use Rattle.k2_tree.specs.Morton.{IsInGrid}
use Rattle.rule_store.specs.View.{RulesView}
use Rattle.rule_store.specs.Cells.{displacement_of, moved}
use Rattle.rule_store.specs.Entry.{entry_of}
use Rattle.rule_store.specs.Expansion.{values_of}
use Rattle.rule_store.specs.Boxes.{bounding_box_of}
use Rattle.log_cursor.specs.Start.{start_at, AreHullsAsked, IsHullAsked, IsPlaced}
use Rattle.log_bounds.specs.Bounds.{cell_after, cell_before}
use Rattle.snapshots.specs.Parts.{anchored_at, log_in, no_period, period_at, rules_in, snapshot_in}
use Rattle.snapshots.specs.Sound.{IsBlock}
use Rattle.snapshots.specs.SoundParts.{IsInGridAt, IsSoundLog, IsValid}
use Rattle.snapshots.specs.Stores.{snapshots_in, AreOf}
use Rattle.snapshots.specs.View.{all_blocks, block_of}
use Rattle.snapshots.specs.declared.anchored.Anchored.{Anchored}
use Rattle.snapshots.proofs.JoinLemmas.{start_in-within}

-- no grid is wider than the highest
grid-width : (frame : Frame) → IsFrame frame → 2 ^ frame.height ≤ 2 ^ MAX_HEIGHT
grid-width frame header =
    let some : 0 < 2 = omega arith in
    pow-le-pow_right {n = 2} some {i = frame.height} {j = MAX_HEIGHT} header.limit

-- a box in the grid is near
IsHullAsked-placed : (frame : Frame) → IsFrame frame → (cell : Cell) (hull : Option CellBox)
    → IfSome hull (IsInGridAt frame cell)
    → IsHullAsked cell hull
IsHullAsked-placed frame header cell None inside = tt
IsHullAsked-placed frame header cell (Some hull) inside =
    let wide = grid-width frame header in
    let columns = header.columns in
    let lines = header.lines in
    record {
      x1 = record {
        low = omega (arith, ints, columns.low, inside.left);
        high = omega (arith, ints, columns.high, inside.right, wide, hull.wide);
      };
      y1 = record {
        low = omega (arith, ints, lines.low, inside.below);
        high = omega (arith, ints, lines.high, inside.above, wide, hull.high);
      };
      x2 = record {
        low = omega (arith, ints, columns.low, inside.left, hull.wide);
        high = omega (arith, ints, columns.high, inside.right, wide);
      };
      y2 = record {
        low = omega (arith, ints, lines.low, inside.below, hull.high);
        high = omega (arith, ints, lines.high, inside.above, wide);
      };
    }

-- where each box of a log is placed in the grid, each is near
AreHullsAsked-placed : (frame : Frame) → IsFrame frame → (rules : RulesView) (cell : Cell) (log : List ℕ)
    → ((place : ℕ) → place < length log
    → IfSome (entry_of rules (slice_index log place)).hull (IsInGridAt frame (cell_before rules cell log place)))
    → AreHullsAsked rules cell log
unfolding AreHullsAsked cell_after entry_of
AreHullsAsked-placed frame header rules cell [] placed = tt
AreHullsAsked-placed frame header rules cell (symbol ∷ log) placed = (
  IsHullAsked-placed frame header cell (bounding_box_of (values_of rules symbol)) (placed 0 (omega arith)),
  AreHullsAsked-placed frame header rules (moved cell (displacement_of (values_of rules symbol))) log
      (λ place within. placed (suc place) (omega arith)),
)

-- a cell of the grid is near
IsCellAsked-in_grid : (frame : Frame) → IsFrame frame → (cell : Cell) → IsInGrid frame.height frame.base cell
    → IsCellAsked cell
IsCellAsked-in_grid frame header cell inside =
    let wide = grid-width frame header in
    let columns = header.columns in
    let lines = header.lines in
    record {
      x = record {
        low = omega (arith, ints, columns.low, inside.left);
        high = omega (arith, ints, columns.high, inside.left, inside.right, wide);
      };
      y = record {
        low = omega (arith, ints, lines.low, inside.below);
        high = omega (arith, ints, lines.high, inside.below, inside.above, wide);
      };
    }

module _ (parts : Parts) (valid : IsValid parts) where
  -- valid parts are those of their own rules and snapshots
  AreOf-own : AreOf parts (rules_in parts) (snapshots_in parts)
  AreOf-own = record { shaped = valid.shaped; rules_are = refl; snaps_are = refl; total = valid.sound.total }

  module _ (number : ℕ) (within : number < periods_of parts.frame) where
    shaped_period : IsShapedPeriod (length parts.objects) (period_at parts.periods number)
    shaped_period =
        All-get_or (IsShapedPeriod (length parts.objects)) parts.periods number no_period
        (omega (arith, valid.shaped.periods, within)) valid.shaped.each

    module _ (block : Anchored) (its : IsBlock (snapshot_in parts number) block) where
      -- the object of a block is one of the index's
      pub block-known : block.index < length parts.objects
      block-known =
          omega (
            arith,
            slice_get_within (snapshot_in parts number).parts.present block.index true its.present,
            shaped_period.presence,
          )

      -- its log is within the symbols
      pub log-within : block.from + block.len ≤ length parts.symbols
      log-within =
          omega (
            arith,
            its.to,
            start_in-within parts (rules_in parts) (snapshots_in parts) AreOf-own number within,
          )

      -- and is sound
      pub IsSoundLog-block : IsSoundLog parts.frame (rules_in parts) number block
      unfolding all_blocks
      IsSoundLog-block =
          subst (λ found. IfSome found (IsSoundLog parts.frame (rules_in parts) number)) its.its
          (All-from_filter_map (IsSoundLog parts.frame (rules_in parts) number) (block_of (snapshot_in parts number)) 0
          (length parts.objects) (valid.sound.logs number within) block.index (omega arith)
          (omega (arith, block-known)))

      -- the block may be walked
      pub IsPlaced-block : IsPlaced (rules_in parts)
          (start_at (anchored_at parts.frame number block) block.cell) (log_in parts block)
      IsPlaced-block =
          let header = valid.shaped.header in
          let ends = period-ends parts.frame.span parts.frame.period header.periods.some number within in
          let behind = its.offset in
          record {
            instant = record {
              low = omega (arith, ints, header.begins);
              high = omega (arith, ints, header.ends, ends, behind);
            };
            cell = IsCellAsked-in_grid parts.frame header block.cell its.cell;
            hulls = AreHullsAsked-placed parts.frame header (rules_in parts) block.cell (log_in parts block)
                IsSoundLog-block.placed;
          }
