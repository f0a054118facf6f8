-- The first hit of a block's log is its first stop.
use Rattle.std.proofs.Common.{◌≡◌, ℕ, ◌+◌, ◌-◌, ◌<◌, ◌≤◌, ℤ, List, Option, None, drop, get_or, length, map, pos, refl, ap, ◌∙◌, arith}
use Rattle.std.specs.Prelude.{slice_index}
use Rattle.std.specs.Option.{option_map}
use Rattle.std.proofs.lemmas.List.{get_or-map, length-take}
use Rattle.track_types.specs.declared.parts.Parts.{Parts}
use Rattle.track_types.specs.declared.region.Region.{Region}
use Rattle.track_types.specs.declared.stop.Stop.{Stop}
use Rattle.rule_store.specs.View.{RulesView}
use Rattle.log_cursor.specs.Descent.{first_needed}
use Rattle.log_cursor.specs.Start.{start_at}
use Rattle.log_cursor.specs.Needs.{RulesWithin}
use Rattle.log_cursor.specs.Touching.{first_hit_of, touching_count, touching_rule}
use Rattle.log_cursor.specs.declared.start.Start.{Start}
use Rattle.snapshots.specs.Parts.{anchored_at, log_in, rules_in}
use Rattle.snapshots.specs.declared.anchored.Anchored.{Anchored}
use Rattle.slice_search.specs.Needs.{block_rule}
use Rattle.slice_search.specs.Seekers.{first_in}
use Rattle.slice_search.specs.Sightings.{seen_at, sighting_in}
use Rattle.slice_search.specs.Sought.{first_stop_in, log_reads}

module _ (parts : Parts) (number : ℕ) (from to low high : ℤ) (is_from : low ≡ from) (is_to : high ≡ to) (region : Region)
    (block : Anchored) (rules : RulesView) (log : List ℕ) (start : Start) (of : rules ≡ rules_in parts)
    (its_log : log ≡ log_in parts block) (its_start : start ≡ start_at (anchored_at parts.frame number block) block.cell) where
  pub first_stop-found : first_hit_of rules log start low high region ≡ first_stop_in parts number from to region block
  unfolding first_stop_in
  first_stop-found = rw (of, its_log, its_start, is_from, is_to) refl

  pub log_reads-found : length log + touching_count rules start log low high region
      ≤ log_reads parts number from to region block
  unfolding log_reads
  log_reads-found =
      let symbols : List ℕ = parts.symbols in
      let short : length (log_in parts block) ≤ block.len =
      omega (arith, length-take (block.from + block.len - block.from) (drop block.from symbols)) in
      rw (of, its_log, its_start, is_from, is_to) (omega (arith, short))

  pub touching_rule-found : RulesWithin (touching_rule rules start log low high region)
      (block_rule parts number from to region block)
  touching_rule-found = rw (of, its_log, its_start, is_from, is_to) (λ rule touches. touches)

-- a block's first stop is its sighting
pub sighting_in-is : (parts : Parts) (number : ℕ) (from to : ℤ) (region : Region) (block : Anchored) (found : Option Stop)
    → found ≡ first_stop_in parts number from to region block
    → option_map (seen_at (slice_index parts.objects block.index)) found ≡ sighting_in parts number from to region block
unfolding sighting_in
sighting_in-is parts number from to region block found is =
    ap (option_map (seen_at (slice_index parts.objects block.index))) is

-- the symbol with which the search in a block's log begins
pub first_in-found : (parts : Parts) (number : ℕ) (instant : ℤ) (block : Anchored) (log : List ℕ) (start : Start)
    → log ≡ log_in parts block → start ≡ start_at (anchored_at parts.frame number block) block.cell
    → first_in parts number instant block ≡ first_needed log start instant
unfolding first_in
first_in-found parts number instant block log start its_log its_start = rw (its_log, its_start) refl

-- what stands where there is no block
abbrev pub no_block : Anchored
no_block = record { index = 0; offset = 0; cell = record { x = pos 0; y = pos 0 }; from = 0; len = 0 }

-- of the symbols with which the searches in some blocks begin, the one at a block's place is the block's
pub first_in-at : (parts : Parts) (number : ℕ) (instant : ℤ) (blocks : List Anchored) (firsts : List (Option ℕ)) (i : ℕ)
    → firsts ≡ map (first_in parts number instant) blocks → i < length blocks
    → get_or firsts i None ≡ first_in parts number instant (get_or blocks i no_block)
first_in-at parts number instant blocks firsts i are within =
    ap (λ symbols. get_or symbols i None) are ∙ get_or-map (first_in parts number instant) blocks i no_block None within
