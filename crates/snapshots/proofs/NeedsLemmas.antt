-- Which reads may be made where others may.
use Rattle.std.proofs.Common.{◌≡◌, ℕ, ◌<◌, Bool, true, ◌&&◌, Option, Some, None, IsTrue, ap, arith, refl, subst, ◌∙◌}
use Rattle.std.specs.Prelude.{get_or}
use Rattle.std.proofs.lemmas.Bool.{and_parts}
use Rattle.std.proofs.lemmas.Bool.Decides.{nat_tests}
use Rattle.std.proofs.lemmas.List.Folds.{Any-from_list_any, list_any_at}
use Rattle.std.proofs.lemmas.List.FromFn.{get_or-range_with_len, length-range_with_len}
use Rattle.step_count.specs.Reads.{Read, ReadsWithin, ofPeriod, ofRule, ofSymbol, is_of_period}
use Rattle.track_types.specs.Frame.{periods_of}
use Rattle.track_types.specs.declared.frame.Frame.{Frame}
use Rattle.track_types.specs.declared.parts.Parts.{Parts}
use Rattle.rule_store.specs.Needs.{is_among, log_needs}
use Rattle.rule_store.proofs.NeedsLemmas.{is_among-none, is_among-within}
use Rattle.snapshots.specs.Needs.{block_places, is_found, is_of_block, is_of_logs, log_places, needs_in}
use Rattle.snapshots.specs.Parts.{numbers_in, snapshot_in}
use Rattle.snapshots.specs.Sound.{IsBlock, IsSnapshot}
use Rattle.snapshots.specs.SoundParts.{IsValid}
use Rattle.snapshots.specs.View.{SnapshotView, block_of}
use Rattle.snapshots.specs.declared.anchored.Anchored.{Anchored}
use Rattle.snapshots.proofs.BlockFactsLemmas.{IsBlock-from_block_of}
use Rattle.snapshots.proofs.ReachLemmas.{IsSnapshot-valid}

-- a period that was found is
pub is_found-same : (found : Option ℕ) (period : ℕ) → found ≡ Some period → IsTrue (is_found found period)
is_found-same found period is = rw is (grind (arith, nat_tests))

-- the log of a block is one of its period's
pub places-within : (view : SnapshotView) (block : Anchored) → IsBlock view block → (place : ℕ)
    → IsTrue (is_among (block_places (Some block)) place) → IsTrue (is_among (log_places view) place)
places-within view block is place = is_among-within (block_places (Some block)) (log_places view) place is.from is.to

module _ (frame : Frame) (periods : ℕ → Bool) (symbols : ℕ → ℕ → Bool) where
  -- the read of a symbol that passes in a period that does
  pub needs_in-symbol : (number place : ℕ) → number < periods_of frame → IsTrue (periods number)
      → IsTrue (symbols number place) → IsTrue (needs_in frame periods symbols (ofSymbol place))
  needs_in-symbol number place within period symbol =
      let test : ℕ → Bool = λ n. periods n && symbols n place in
      let here : get_or (numbers_in frame) number 0 ≡ number =
      omega (arith, get_or-range_with_len 0 (periods_of frame) number 0 within) in
      let passes : test number ≡ true = rw (period, symbol) refl in
      list_any_at test (numbers_in frame) number 0 (omega (arith, within, length-range_with_len 0 (periods_of frame)))
      (ap test here ∙ passes)

  -- such reads, where more are needed
  pub needs_in-within : (more : ℕ → Bool) (wider : ℕ → ℕ → Bool) → ((number : ℕ) → IsTrue (periods number) → IsTrue (more number))
      → ((number place : ℕ) → number < periods_of frame → IsTrue (periods number) → IsTrue (symbols number place)
      → IsTrue (wider number place)) → ReadsWithin (needs_in frame periods symbols) (needs_in frame more wider)
  needs_in-within more wider all each (ofPeriod period) is = all period is
  needs_in-within more wider all each (ofRule rule) is = is
  needs_in-within more wider all each (ofSymbol place) is =
      let test : ℕ → Bool = λ n. more n && wider n place in
      let any = Any-from_list_any (λ n. periods n && symbols n place) (numbers_in frame) is in
      let number : ℕ = any.1 in
      let within : any.0 < periods_of frame = omega (arith, any.2, length-range_with_len 0 (periods_of frame)) in
      let same : number ≡ any.0 = omega (arith, get_or-range_with_len 0 (periods_of frame) any.0 number within, any.3) in
      let both = and_parts (periods number) (symbols number place) any.4 in
      let passes : test number ≡ true =
      rw (all number both.0, each number place (omega (arith, same, within)) both.0 both.1) refl in
      list_any_at test (numbers_in frame) any.0 number any.2 (ap test any.3 ∙ passes)

module _ (may : Read → Bool) where
  -- all reads of a period, where one may be made
  pub within-period : (number : ℕ) → IsTrue (may (ofPeriod number)) → ReadsWithin (is_of_period number) may
  within-period number allowed (ofPeriod period) same =
      let is : number ≡ period = grind (arith, nat_tests, same) in subst (λ n. IsTrue (may (ofPeriod n))) is allowed
  within-period number allowed (ofRule rule) none = absurd (cc none)
  within-period number allowed (ofSymbol place) none = absurd (cc none)

  module _ (frame : Frame) (periods : ℕ → Bool) (symbols : ℕ → ℕ → Bool)
      (within : ReadsWithin (needs_in frame periods symbols) may) (number : ℕ) (known : number < periods_of frame)
      (passes : IsTrue (periods number)) where
    -- a log, all of whose symbols pass in it
    pub may-log : (places : ℕ × ℕ) → ((place : ℕ) → IsTrue (is_among places place) → IsTrue (symbols number place))
        → ReadsWithin (log_needs places) may
    may-log places all (ofPeriod period) none = absurd (cc none)
    may-log places all (ofRule rule) is = within (ofRule rule) is
    may-log places all (ofSymbol place) is =
        within (ofSymbol place) (needs_in-symbol frame periods symbols number place known passes (all place is))

-- a symbol of the log of an object's block, if it has one, is one of the period's
block-symbol : (view : SnapshotView) → IsSnapshot view → (index : ℕ) (found : Option Anchored) → block_of view index ≡ found
    → (place : ℕ) → IsTrue (is_among (block_places found) place) → IsTrue (is_among (log_places view) place)
block-symbol view snapshot index None same place none = is_among-none place none (IsTrue (is_among (log_places view) place))
block-symbol view snapshot index (Some block) same place is =
    places-within view block (IsBlock-from_block_of view snapshot index block same) place is

-- what an object needs of some periods, where all of their logs are needed
pub object-within : (parts : Parts) → IsValid parts → (found : Option ℕ) (periods : ℕ → Bool)
    → ReadsWithin (needs_in parts.frame periods (is_of_block parts found)) (needs_in parts.frame periods (is_of_logs parts))
object-within parts valid None periods =
    needs_in-within parts.frame periods (is_of_block parts None) periods (is_of_logs parts) (λ number is. is)
    (λ number place known passes none. absurd (cc none))
object-within parts valid (Some index) periods =
    needs_in-within parts.frame periods (is_of_block parts (Some index)) periods (is_of_logs parts) (λ number is. is)
    (λ number place known passes is. block-symbol (snapshot_in parts number) (IsSnapshot-valid parts valid number known) index
    (block_of (snapshot_in parts number) index) refl place is)
