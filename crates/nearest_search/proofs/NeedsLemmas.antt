-- Which reads find the cells at an instant where those of the nearest may be made.
use Rattle.std.proofs.Common.{◌≡◌, ℕ, ◌<◌, ℤ, Bool, true, IsTrue, Option, Some, ap, arith, get_or, length, subst, sym, ◌∙◌}
use Rattle.std.specs.List.{range_with_len}
use Rattle.std.proofs.lemmas.List.Folds.{list_any_at}
use Rattle.std.proofs.lemmas.List.FromFn.{get_or-range_with_len, length-range_with_len}
use Rattle.step_count.specs.Reads.{Read, ReadsWithin, ofPeriod, ofRule, ofSymbol}
use Rattle.track_types.specs.Frame.{period_in, periods_of}
use Rattle.track_types.specs.declared.parts.Parts.{Parts}
use Rattle.log_cursor.specs.Needs.{RulesWithin}
use Rattle.log_cursor.proofs.NeedsLemmas.{search-within}
use Rattle.snapshots.specs.Needs.{block_places, is_found, is_of_logs, log_places}
use Rattle.snapshots.specs.Parts.{snapshot_in}
use Rattle.snapshots.specs.Sound.{IsBlock}
use Rattle.snapshots.specs.SoundParts.{IsValid}
use Rattle.snapshots.specs.View.{SnapshotView}
use Rattle.snapshots.specs.declared.anchored.Anchored.{Anchored}
use Rattle.snapshots.proofs.NeedsLemmas.{is_found-same, needs_in-symbol, places-within}
use Rattle.object_track.specs.Needs.{position_rule, seek_needs, seek_rule}
use Rattle.object_track.proofs.BlockLemmas.{block-known}
use Rattle.nearest_search.specs.Needs.{near_rule, nearest_needs, period_near_needs}

module _ (parts : Parts) (valid : IsValid parts) (number : ℕ) (within : number < periods_of parts.frame) (instant : ℤ)
    (block : Anchored) (its : IsBlock (snapshot_in parts number) block) where
  -- a rule that holds an instant in a block's log does so in one of its period's
  near_rule-within : RulesWithin (seek_rule parts number instant (Some block)) (near_rule parts (Some number) instant)
  unfolding near_rule
  near_rule-within rule holds =
      let many = length parts.objects in
      let test : ℕ → Bool = λ index. position_rule parts (Some index) (Some number) instant rule in
      let known : block.index < many = block-known parts valid number within block its in
      let here : get_or (range_with_len 0 many) block.index 0 ≡ block.index =
      omega (arith, get_or-range_with_len 0 many block.index 0 known) in
      let passes : test block.index ≡ true =
      subst (λ (found : Option Anchored). seek_rule parts number instant found rule ≡ true) (sym its.its) holds in
      list_any_at test (range_with_len 0 many) block.index 0 (omega (arith, known, length-range_with_len 0 many))
      (ap test here ∙ passes)

  -- the log of a block is one of its period's
  pub near-within : ReadsWithin (seek_needs parts number instant (Some block)) (period_near_needs parts number instant)
  near-within =
      let view : SnapshotView = snapshot_in parts number in
      search-within (block_places (Some block)) (log_places view) (seek_rule parts number instant (Some block))
      (near_rule parts (Some number) instant) (places-within view block its) near_rule-within

-- the logs of the instant's period are read where the nearest may be
module _ (may : Read → Bool) (parts : Parts) (instant : ℤ) (within : ReadsWithin (nearest_needs parts instant) may) (number : ℕ)
    (below : number < periods_of parts.frame) (when : period_in parts.frame instant ≡ Some number) where
  pub may-near : ReadsWithin (period_near_needs parts number instant) may
  may-near (ofPeriod period) none = absurd (cc none)
  may-near (ofRule rule) is =
      within (ofRule rule) (subst (λ (n : Option ℕ). IsTrue (near_rule parts n instant rule)) (sym when) is)
  may-near (ofSymbol place) is =
      within (ofSymbol place)
      (needs_in-symbol parts.frame (is_found (period_in parts.frame instant)) (is_of_logs parts) number place below
      (is_found-same (period_in parts.frame instant) number when) is)
