-- Parts of an index that are in the newest version already stay as they are.
use Rattle.std.proofs.Common.{◌≡◌, Bool, List, length, get_or, refl, ap, ◌∙◌, arith}
use Rattle.std.proofs.lemmas.List.Elements.{All-from_get_or}
use Rattle.std.proofs.lemmas.List.Folds.{map_fixed}
use Rattle.list_laws.proofs.MapLemmas.{map-fixed}
use Rattle.track_types.specs.Frame.{periods_of, wide_of}
use Rattle.track_types.specs.declared.frame.Frame.{Frame}
use Rattle.track_types.specs.declared.limit.TheConstants.{MAX_VERSION}
use Rattle.track_types.specs.declared.parts.Parts.{Parts}
use Rattle.track_types.specs.declared.period_parts.PeriodParts.{PeriodParts}
use Rattle.k2_tree.specs.Flaws.{StandsFor}
use Rattle.k2_tree.specs.Tree.{tree_bits, tree_of, tree_with}
use Rattle.rule_order.specs.Order.{new_symbol}
use Rattle.rule_order.proofs.SettledLemmas.{new_symbol-settled, settled_rules-same}
use Rattle.snapshots.specs.Parts.{no_period, period_at, snapshot_in}
use Rattle.snapshots.specs.SoundParts.{IsValid}
use Rattle.snapshots.specs.Upgrade.{newest, newest_tree, upgrade_of, upgraded_period}
use Rattle.parts_order.specs.SettledParts.{settled_parts}
use Rattle.index_file.specs.File.{IsNewest, IsOrdered}
use Rattle.track_index.specs.Newest.{newest_of}

-- so do its trees, which are spelt from their cells
period-newest : (frame : Frame) (period : PeriodParts) → newest frame ≡ frame
    → tree_bits (tree_of frame.height (wide_of frame) frame.base period.tree) ≡ period.tree
    → upgraded_period frame period ≡ period
period-newest frame period same spelt =
    let cells = (tree_of frame.height (wide_of frame) frame.base period.tree).cells in
    let tree : tree_bits (newest_tree frame period.tree) ≡ period.tree =
    ap (λ wide. tree_bits (tree_with frame.height wide frame.base cells)) (ap wide_of same) ∙ spelt in
    ap with_tree tree
  where
    with_tree : List Bool → PeriodParts
    with_tree bits = record {
      present = period.present;
      offsets = period.offsets;
      tree = bits;
      lasts = period.lasts;
      perm = period.perm;
      lengths = period.lengths;
    }

module _ (parts : Parts) (is : IsNewest parts) where
  frame-newest : newest parts.frame ≡ parts.frame
  frame-newest = rw (← is.newest) refl

  upgrade_of-newest : upgrade_of parts ≡ parts
  unfolding upgrade_of
  upgrade_of-newest =
      let sound = is.ordered.valid.sound in
      let periods = map_fixed (upgraded_period parts.frame) parts.periods
      (All-from_get_or (λ period. upgraded_period parts.frame period ≡ period) parts.periods no_period (λ k within.
      period-newest parts.frame (period_at parts.periods k) frame-newest
      (sound.periods k (omega (arith, within, is.ordered.valid.shaped.periods))).tree.same)) in
      rw (periods, frame-newest) refl

  settled_parts-ordered : settled_parts parts ≡ parts
  unfolding settled_parts
  settled_parts-ordered =
      let alphabet = length parts.alphabet in
      let sound = is.ordered.valid.sound.rules in
      let symbols = map_fixed (new_symbol alphabet parts.rules) parts.symbols
      (All-from_get_or (λ symbol. new_symbol alphabet parts.rules symbol ≡ symbol) parts.symbols 0 (λ k within.
      new_symbol-settled alphabet parts.rules is.ordered.order (get_or parts.symbols k 0) (sound.symbols k within))) in
      rw (symbols, settled_rules-same alphabet parts.rules is.ordered.order) refl

  pub newest_of-newest : newest_of parts ≡ parts
  unfolding newest_of
  newest_of-newest = rw (upgrade_of-newest) settled_parts-ordered
