-- Which reads find a cell where those of its block's log may be made, or those of a position.
use Rattle.std.proofs.Common.{◌≡◌, ℕ, ◌<◌, ℤ, Bool, IsTrue, List, Option, Some, subst, sym}
use Rattle.step_count.specs.Reads.{Read, ReadsWithin, ofPeriod, ofRule, ofSymbol}
use Rattle.track_types.specs.Frame.{period_in, periods_of}
use Rattle.track_types.specs.declared.parts.Parts.{Parts}
use Rattle.rule_store.specs.View.{RulesView}
use Rattle.log_cursor.specs.Needs.{RulesWithin, search_needs}
use Rattle.log_cursor.specs.Start.{start_at}
use Rattle.log_cursor.specs.Touching.{holding_rule}
use Rattle.log_cursor.specs.declared.start.Start.{Start}
use Rattle.log_cursor.proofs.NeedsLemmas.{search-same}
use Rattle.snapshots.specs.Needs.{block_places, is_found, is_of_block}
use Rattle.snapshots.specs.Parts.{anchored_at, index_in, log_in, rules_in, snapshot_in}
use Rattle.snapshots.specs.View.{block_of}
use Rattle.snapshots.specs.declared.anchored.Anchored.{Anchored}
use Rattle.snapshots.proofs.NeedsLemmas.{is_found-same, needs_in-symbol}
use Rattle.object_track.specs.Needs.{position_needs, position_rule, seek_needs, seek_rule}

-- a log that was placed is a block's
module _ (parts : Parts) (number : ℕ) (instant here : ℤ) (is_here : here ≡ instant) (block : Anchored) (rules : RulesView)
    (log : List ℕ) (start : Start) (of : rules ≡ rules_in parts) (its_log : log ≡ log_in parts block)
    (its_start : start ≡ start_at (anchored_at parts.frame number block) block.cell) where
  seek_rule-found : RulesWithin (holding_rule rules start log here) (seek_rule parts number instant (Some block))
  seek_rule-found = rw (of, its_log, its_start, is_here) (λ rule holds. holds)

  pub seek_needs-found : (places : ℕ × ℕ) → places ≡ block_places (Some block) →
      ReadsWithin (search_needs places (holding_rule rules start log here)) (seek_needs parts number instant (Some block))
  seek_needs-found places same =
      search-same places (block_places (Some block)) (holding_rule rules start log here)
      (seek_rule parts number instant (Some block)) same seek_rule-found

-- the log of an object's block is read where its position may be
module _ (may : Read → Bool) (parts : Parts) (object : ℕ) (instant : ℤ)
    (within : ReadsWithin (position_needs parts object instant) may) (index number : ℕ) (below : number < periods_of parts.frame)
    (known : index_in parts.objects object ≡ Some index) (when : period_in parts.frame instant ≡ Some number) where
  pub may-position : ReadsWithin (seek_needs parts number instant (block_of (snapshot_in parts number) index)) may
  may-position (ofPeriod period) none = absurd (cc none)
  may-position (ofRule rule) is =
      within (ofRule rule)
      (subst (λ (o : Option ℕ). IsTrue (position_rule parts o (period_in parts.frame instant) instant rule)) (sym known)
      (subst (λ (n : Option ℕ). IsTrue (position_rule parts (Some index) n instant rule)) (sym when) is))
  may-position (ofSymbol place) is =
      within (ofSymbol place)
      (needs_in-symbol parts.frame (is_found (period_in parts.frame instant)) (is_of_block parts (index_in parts.objects object))
      number place below (is_found-same (period_in parts.frame instant) number when)
      (subst (λ (o : Option ℕ). IsTrue (is_of_block parts o number place)) (sym known) is))
