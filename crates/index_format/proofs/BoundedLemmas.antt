-- The bounds of logs, found while these are read.
use Rattle.std.proofs.Common.{◌≡◌, ℕ, ◌+◌, ◌-◌, ◌^◌, ◌<◌, ◌≤◌, ℤ, pos, ◌≤ℤ◌, true, List, [], ◌∷◌, ◌++◌, length, take, map, Option, None, Some, refl, sym, ap, subst, ◌∙◌, arith, append_assoc, append-nil, take_all, length-append}
use Rattle.std.specs.Prelude.{max}
use Rattle.std.specs.Int.{int_max, int_min}
use Rattle.std.proofs.Math.Nat.{div-le_self}
use Rattle.std.proofs.lemmas.Bool.{and_parts}
use Rattle.std.proofs.lemmas.Int.{clamps, ints}
use Rattle.std.proofs.lemmas.List.{map-append}
use Rattle.std.proofs.lemmas.List.Sums.{sum_by_push}
use Rattle.track_types.specs.Boxes.{cell_box}
use Rattle.track_types.specs.Near.{IsCellWithin}
use Rattle.track_types.specs.declared.cell.Cell.{Cell}
use Rattle.track_types.specs.declared.cell_box.CellBox.{CellBox}
use Rattle.track_types.specs.declared.limit.TheConstants.{MAX_HEIGHT}
use Rattle.rule_store.specs.Cells.{displacement_of, moved}
use Rattle.rule_store.specs.Entry.{entry_of}
use Rattle.rule_store.specs.Expansion.{values_of}
use Rattle.rule_store.specs.View.{RulesView}
use Rattle.rule_store.specs.declared.entry.Entry.{Entry}
use Rattle.rule_store.proofs.FlawLemmas.{reach_limit-high}
use Rattle.log_bounds.specs.Bounds.{IsPackable, IsReachable, IsWord, bounds_of, cell_after, duration_of_log, far_of, hull_speed, with_hull}
use Rattle.log_bounds.specs.declared.bounds.LogBounds.{LogBounds}
use Rattle.log_bounds.proofs.BoundsLemmas.{bounds-more, bounds-none, same_bounds}
use Rattle.log_bounds.proofs.LogLemmas.{cell_after-more, duration_of_log-more, moved-entry}
use Rattle.index_format.specs.IsOutline.{blocks_with_logs}
use Rattle.index_format.specs.OutlineBlocks.{is_in_grid, stays_in}
use Rattle.index_format.specs.OutlineBounds.{block_bounds}
use Rattle.index_format.specs.BlockSteps.{log_moved}
use Rattle.index_format.specs.LogReading.{AreBounded, IsReadBehind}
use Rattle.index_format.specs.declared.outline.OutlineBlock.{OutlineBlock}
use Rattle.index_format.specs.declared.outline.bounded_log.BoundedLog.{BoundedLog}
use Rattle.index_format.specs.declared.outline.entries.LogRest.{LogRest}
use Rattle.index_format.proofs.GridLemmas.{in_grid-bounds, in_grid-from}
use Rattle.index_format.proofs.BlockOrderLemmas.{logs-joined}

-- a cell of a grid is one of the widest grid
pub in_grid-widest : (height : ℕ) (cell : Cell) → height ≤ MAX_HEIGHT → is_in_grid height cell ≡ true
    → is_in_grid MAX_HEIGHT cell ≡ true
in_grid-widest height cell fits inside =
    let is = in_grid-bounds height cell inside in
    let high = reach_limit-high height fits in
    in_grid-from MAX_HEIGHT cell (record {
      left = is.left;
      right = omega (arith, ints, is.left, is.right, high);
      below = is.below;
      above = omega (arith, ints, is.below, is.above, high);
    })

-- it is within what may be compared
pub in_grid-within : (cell : Cell) → is_in_grid MAX_HEIGHT cell ≡ true → IsCellWithin cell
in_grid-within cell inside =
    let is = in_grid-bounds MAX_HEIGHT cell inside in
    record {
      x = record { low = omega (arith, ints, is.left); high = omega (arith, ints, is.right) };
      y = record { low = omega (arith, ints, is.below); high = omega (arith, ints, is.above) };
    }

-- and may be reached
pub in_grid-reachable : (height : ℕ) (cell : Cell) → height ≤ MAX_HEIGHT → is_in_grid height cell ≡ true
    → IsReachable cell.x × IsReachable cell.y
in_grid-reachable height cell fits inside =
    let is = in_grid-bounds MAX_HEIGHT cell (in_grid-widest height cell fits inside) in (
      record { low = omega (arith, ints, is.left); high = omega (arith, ints, is.right) },
      record { low = omega (arith, ints, is.below); high = omega (arith, ints, is.above) },
    )

-- the lesser of a number that a word holds and one of a grid, and the greater
least_word : (z a b : ℤ) → IsWord a → pos 0 ≤ℤ b → b ≤ℤ pos (2 ^ MAX_HEIGHT - 1) → z ≡ int_min a b → IsWord z
least_word z a b is low high made = subst IsWord (sym made) (record {
  low = omega (arith, ints, clamps, is.low, low);
  high = omega (arith, ints, clamps, is.high);
})

greatest_word : (z a b : ℤ) → IsWord a → pos 0 ≤ℤ b → b ≤ℤ pos (2 ^ MAX_HEIGHT - 1) → z ≡ int_max a b → IsWord z
greatest_word z a b is low high made = subst IsWord (sym made) (record {
  low = omega (arith, ints, clamps, is.low, low);
  high = omega (arith, ints, clamps, is.high, high);
})

-- the bounds of a log that begins can be packed
pub packable-none : (cell : Cell) (bounds : LogBounds) → is_in_grid MAX_HEIGHT cell ≡ true → bounds.from ≡ cell
    → bounds.speed ≡ 0 → bounds.area ≡ cell_box cell → IsPackable bounds
packable-none cell bounds inside begins slow small =
    let is = in_grid-bounds MAX_HEIGHT cell inside in
    subst IsPackable (sym (same_bounds bounds.from cell bounds.speed 0 bounds.area (cell_box cell) begins slow small)) (record {
      column = record { low = is.left; high = omega (arith, ints, is.right) };
      line = record { low = is.below; high = omega (arith, ints, is.above) };
      speed = omega arith;
      x1 = record { low = is.left; high = omega (arith, ints, is.right) };
      y1 = record { low = is.below; high = omega (arith, ints, is.above) };
      x2 = record { low = omega (arith, ints, is.left); high = omega (arith, ints, is.right) };
      y2 = record { low = omega (arith, ints, is.below); high = omega (arith, ints, is.above) };
    })

-- and so can those with one symbol more, whose box stays in the grid
module _ (height : ℕ) (fits : height ≤ MAX_HEIGHT) (cell : Cell) (before : ℕ) (bounds next : LogBounds)
    (begins : is_in_grid MAX_HEIGHT bounds.from ≡ true) (small : IsPackable bounds) (same : next.from ≡ bounds.from) where
  column_of : IsWord next.from.x
  column_of = subst (λ (from : Cell). IsWord from.x) (sym same) small.column

  line_of : IsWord next.from.y
  line_of = subst (λ (from : Cell). IsWord from.y) (sym same) small.line

  pub packable-more : (hull : Option CellBox) → stays_in height cell hull ≡ true
      → next.speed ≡ max bounds.speed (hull_speed bounds.from cell before hull) → next.area ≡ with_hull bounds.area cell hull
      → IsPackable next
  packable-more None stays faster wider = record {
    column = column_of;
    line = line_of;
    speed = omega (arith, faster, small.speed);
    x1 = subst (λ (area : CellBox). IsWord area.x1) (sym wider) small.x1;
    y1 = subst (λ (area : CellBox). IsWord area.y1) (sym wider) small.y1;
    x2 = subst (λ (area : CellBox). IsWord area.x2) (sym wider) small.x2;
    y2 = subst (λ (area : CellBox). IsWord area.y2) (sym wider) small.y2;
  }
  packable-more (Some hull) stays faster wider =
      let first = moved cell (hull.x1, hull.y1) in
      let last = moved cell (hull.x2, hull.y2) in
      let corners = and_parts (is_in_grid height first) (is_in_grid height last) stays in
      let low = in_grid-bounds MAX_HEIGHT first (in_grid-widest height first fits corners.0) in
      let high = in_grid-bounds MAX_HEIGHT last (in_grid-widest height last fits corners.1) in
      let from = in_grid-bounds MAX_HEIGHT bounds.from begins in
      let far : far_of bounds.from cell hull < 2 ^ MAX_HEIGHT = omega (
        arith,
        ints,
        from.left,
        from.right,
        from.below,
        from.above,
        low.left,
        low.right,
        low.below,
        low.above,
        high.left,
        high.right,
        high.below,
        high.above,
      ) in
      let slow = div-le_self (far_of bounds.from cell hull) (before + 1) in
      record {
        column = column_of;
        line = line_of;
        speed = omega (arith, faster, small.speed, far, slow);
        x1 = least_word next.area.x1 bounds.area.x1 first.x small.x1 low.left low.right (ap (λ (area : CellBox). area.x1) wider);
        y1 = least_word next.area.y1 bounds.area.y1 first.y small.y1 low.below low.above (ap (λ (area : CellBox). area.y1) wider);
        x2 = greatest_word next.area.x2 bounds.area.x2 last.x small.x2 high.left high.right (ap (λ (area : CellBox). area.x2) wider);
        y2 = greatest_word next.area.y2 bounds.area.y2 last.y small.y2 high.below high.above (ap (λ (area : CellBox). area.y2) wider);
      }

module _ (view : RulesView) (start : LogRest) (before : List ℕ) where
  -- a log of which no symbol was read
  pub behind-none : (log : BoundedLog) → log.whole ≡ start.rest → log.at ≡ start → log.bounds.from ≡ start.cell → log.bounds.speed ≡ 0
      → log.bounds.area ≡ cell_box start.cell → IsReadBehind view start before before log
  unfolding cell_after duration_of_log
  behind-none log begins stands from slow small = record {
    own = [];
    joined = sym (append-nil before);
    begins = begins;
    bounded = same_bounds log.bounds.from start.cell log.bounds.speed 0 log.bounds.area (cell_box start.cell) from slow small ∙ bounds-none view start.cell;
    cell = ap (λ (at : LogRest). at.cell) stands;
    passed = omega (arith, ap (λ (at : LogRest). at.rest) stands);
  }

  -- one symbol more
  pub behind-more : (symbols : List ℕ) (symbol : ℕ) (entry : Entry) (log next : BoundedLog)
      → IsReadBehind view start before symbols log → entry ≡ entry_of view symbol → entry.duration ≤ log.at.rest
      → next.whole ≡ log.whole → next.at ≡ log_moved log.at entry → next.bounds.from ≡ log.bounds.from
      → next.bounds.speed ≡ max log.bounds.speed (hull_speed log.bounds.from log.at.cell (log.whole - log.at.rest) entry.hull)
      → next.bounds.area ≡ with_hull log.bounds.area log.at.cell entry.hull
      → IsReadBehind view start before (symbols ++ symbol ∷ []) next
  behind-more symbols symbol entry log next is its fits begins leads from faster wider =
      let own = is.own in
      let passed : start.rest - log.at.rest ≡ duration_of_log view own = omega (arith, is.passed) in
      let lasts = duration_of_log-more view own symbol in
      record {
        own = own ++ symbol ∷ [];
        joined = ap (λ symbols. symbols ++ symbol ∷ []) is.joined ∙ append_assoc before own (symbol ∷ []);
        begins = begins ∙ is.begins;
        bounded = bounds-more view start.cell own symbol log.bounds next.bounds log.at.cell (start.rest - log.at.rest) entry
            is.bounded is.cell passed its from
            (faster ∙ ap (λ whole. max log.bounds.speed
            (hull_speed log.bounds.from log.at.cell (whole - log.at.rest) entry.hull)) is.begins)
            wider;
        cell = ap (λ (at : LogRest). at.cell) leads ∙ ap (λ (entry : Entry). moved log.at.cell (entry.dx, entry.dy)) its
            ∙ moved-entry view log.at.cell symbol
            ∙ ap (λ (cell : Cell). moved cell (displacement_of (values_of view symbol))) is.cell
            ∙ sym (cell_after-more view start.cell own symbol);
        passed = omega (
          arith,
          is.passed,
          lasts,
          fits,
          ap (λ (entry : Entry). entry.duration) its,
          ap (λ (at : LogRest). at.rest) leads,
        );
      }

-- no blocks
pub bounded-none : (view : RulesView) → AreBounded view [] [] []
unfolding blocks_with_logs
bounded-none view = record { whole = refl; each = refl }

-- one block more, with its log
pub bounded-more : (view : RulesView) (blocks : List OutlineBlock) (symbols : List ℕ) (bounds : List LogBounds) (block : OutlineBlock) (own : List ℕ)
    (more : LogBounds) → AreBounded view blocks symbols bounds → block.length ≡ length own → more ≡ bounds_of view block.cell own
    → AreBounded view (blocks ++ block ∷ []) (symbols ++ own) (bounds ++ more ∷ [])
unfolding blocks_with_logs
bounded-more view blocks symbols bounds block own more are long its =
    let whole : take block.length own ≡ own = take_all block.length own (omega (arith, long)) in
    let last : map (block_bounds view) (blocks_with_logs (block ∷ []) own) ≡ more ∷ [] =
    ap (λ own. bounds_of view block.cell own ∷ []) whole ∙ ap (λ more. more ∷ []) (sym its) in
    record {
      whole = omega (arith, are.whole, long, sum_by_push (λ (block : OutlineBlock). block.length) blocks block, length-append symbols own);
      each = ap (λ bounds. bounds ++ more ∷ []) are.each
          ∙ ap (λ last. map (block_bounds view) (blocks_with_logs blocks symbols) ++ last) (sym last)
          ∙ sym (map-append (block_bounds view) (blocks_with_logs blocks symbols) (blocks_with_logs (block ∷ []) own))
          ∙ ap (map (block_bounds view)) (sym (logs-joined blocks (block ∷ []) symbols own are.whole));
    }
