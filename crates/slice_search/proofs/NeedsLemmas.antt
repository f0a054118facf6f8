-- Which reads a search of a region makes where those of its periods may be made.
use Rattle.std.proofs.Common.{◌≡◌, ℕ, ◌<◌, ℤ, Bool, false, IsTrue, Some, refl, subst}
use Rattle.std.proofs.lemmas.List.Folds.{list_any_at}
use Rattle.step_count.specs.Reads.{Read, ReadsWithin, ofPeriod, ofRule, ofSymbol}
use Rattle.track_types.specs.Frame.{periods_of}
use Rattle.track_types.specs.declared.parts.Parts.{Parts}
use Rattle.track_types.specs.declared.region.Region.{Region}
use Rattle.rule_store.specs.Needs.{is_among}
use Rattle.log_cursor.specs.Needs.{RulesWithin, search_needs, symbol_needs}
use Rattle.log_cursor.proofs.NeedsLemmas.{search-within}
use Rattle.snapshots.specs.Needs.{block_places, is_of_logs, log_places, needs_in}
use Rattle.snapshots.specs.Parts.{snapshot_in}
use Rattle.snapshots.specs.Sound.{IsBlock}
use Rattle.snapshots.specs.SoundParts.{IsValid}
use Rattle.snapshots.specs.View.{SnapshotView, all_blocks}
use Rattle.snapshots.specs.declared.anchored.Anchored.{Anchored}
use Rattle.snapshots.proofs.NeedsLemmas.{needs_in-symbol, places-within}
use Rattle.slice_search.specs.Needs.{block_rule, period_needs, period_rule, region_needs}
use Rattle.slice_search.proofs.SoughtLemmas.{All-block}

-- a rule of a block is one of its period
pub block_rule-within : (parts : Parts) → IsValid parts → (number : ℕ) → number < periods_of parts.frame → (from to : ℤ)
    → (region : Region) (block : Anchored) → IsBlock (snapshot_in parts number) block
    → RulesWithin (block_rule parts number from to region block) (period_rule parts number from to region)
unfolding period_rule
block_rule-within parts valid number within from to region block its rule touches =
    let test : Anchored → Bool = λ b. block_rule parts number from to region b rule in
    let blocks = all_blocks (snapshot_in parts number) in
    All-block parts valid number within (λ b. IsTrue (test b) → IsTrue (period_rule parts number from to region rule))
    (λ k d below holds. list_any_at test blocks k d below holds) block its touches

-- the log of a block is one of its period's
module _ (view : SnapshotView) (block : Anchored) (its : IsBlock view block) (places : ℕ × ℕ)
    (same : places ≡ block_places (Some block)) where
  place-in : (place : ℕ) → IsTrue (is_among places place) → IsTrue (is_among (log_places view) place)
  place-in place is = places-within view block its place (subst (λ (p : ℕ × ℕ). IsTrue (is_among p place)) same is)

  pub block-within : (these those : ℕ → Bool) → RulesWithin these those
      → ReadsWithin (search_needs places these) (search_needs (log_places view) those)
  block-within these those = search-within places (log_places view) these those place-in

  pub symbols-within : (rules : ℕ → Bool) → ReadsWithin (symbol_needs places) (search_needs (log_places view) rules)
  symbols-within rules = block-within (λ rule. false) rules (λ rule none. absurd (cc none))

-- the logs of a period are read where those of the periods may be
pub may-search : (may : Read → Bool) (parts : Parts) (periods : ℕ → Bool) (from to : ℤ) (region : Region)
    → ReadsWithin (region_needs parts periods from to region) may → (number : ℕ) → number < periods_of parts.frame
    → IsTrue (periods number) → ReadsWithin (period_needs parts number from to region) may
may-search may parts periods from to region within number known passes (ofPeriod period) none = absurd (cc none)
may-search may parts periods from to region within number known passes (ofRule rule) is =
    within (ofRule rule) (needs_in-symbol parts.frame periods (λ n r. period_rule parts n from to region r) number rule known
    passes is)
may-search may parts periods from to region within number known passes (ofSymbol place) is =
    within (ofSymbol place) (needs_in-symbol parts.frame periods (is_of_logs parts) number place known passes is)

-- a search of a region reads no more than what any other question may read of the same periods
pub region-within : (parts : Parts) (periods : ℕ → Bool) (from to : ℤ) (region : Region)
    → ReadsWithin (region_needs parts periods from to region) (needs_in parts.frame periods (is_of_logs parts))
region-within parts periods from to region (ofPeriod period) is = is
region-within parts periods from to region (ofRule rule) is = refl
region-within parts periods from to region (ofSymbol place) is = is
