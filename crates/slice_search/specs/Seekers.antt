-- Searches of one instant, side by side.
use Rattle.std.specs.Prelude.{◌≡◌, ℕ, ℤ, Bool, List, All, map, Option}
use Rattle.std.specs.Option.{option_map}
use Rattle.track_types.specs.declared.parts.Parts.{Parts}
use Rattle.track_types.specs.declared.region.Region.{Region}
use Rattle.track_types.specs.declared.sighting.Sighting.{Sighting}
use Rattle.rule_store.specs.View.{RulesView}
use Rattle.log_cursor.specs.Descent.{IsDescent, first_needed, first_reads, hit_of, next_rule, parted_of, reads_of, rest_of}
use Rattle.log_cursor.specs.Descent.{rules_of, turning_of, weight_of}
use Rattle.log_cursor.specs.Needs.{RulesWithin}
use Rattle.log_cursor.specs.Start.{start_at}
use Rattle.snapshots.specs.Parts.{anchored_at, log_in}
use Rattle.snapshots.specs.declared.anchored.Anchored.{Anchored}
use Rattle.slice_search.specs.Sightings.{seen_at}
use Rattle.slice_search.specs.declared.seekers.Seeker.{Seeker}

-- the symbol with which the search for the object of a block begins
unfoldable pub first_in : Parts → ℕ → ℤ → Anchored → Option ℕ
first_in parts number instant block =
    first_needed (log_in parts block) (start_at (anchored_at parts.frame number block) block.cell) instant

-- how many reads it takes
abbrev pub first_reads_in : Parts → ℕ → ℤ → Anchored → ℕ
first_reads_in parts number instant block = first_reads (first_in parts number instant block)

-- a search stands where it says to be
abbrev pub IsSeeker : RulesView → ℤ → Seeker → Type 0
IsSeeker rules instant seeker = IsDescent rules instant seeker.descent

-- the sighting that a search will come to
abbrev pub seen_by : RulesView → ℤ → Region → Seeker → Option Sighting
seen_by rules instant region seeker = option_map (seen_at seeker.object) (hit_of rules instant region seeker.descent)

-- how many rules it still opens at most
abbrev pub reads_in : RulesView → ℤ → Region → Seeker → ℕ
reads_in rules instant region seeker = reads_of rules instant region seeker.descent

-- it opens no rules but those that pass a test
abbrev pub OpensWithin : RulesView → ℤ → Region → (ℕ → Bool) → Seeker → Type 0
OpensWithin rules instant region may seeker = RulesWithin (rules_of rules instant region seeker.descent) may

-- it opens no other rule next
abbrev pub OpensNext : (ℕ → Bool) → Seeker → Type 0
OpensNext may seeker = RulesWithin (next_rule seeker.descent) may

-- 1 where it is not over
abbrev pub rest_in : Seeker → ℕ
rest_in seeker = rest_of seeker.descent

-- 1 where it has opened a rule
abbrev pub parted_in : Seeker → ℕ
parted_in seeker = parted_of seeker.descent

-- 1 where it is to open a rule, or has opened it
abbrev pub turning_in : Seeker → ℕ
turning_in seeker = turning_of seeker.descent

-- what gets less with each turn
abbrev pub weight_in : Seeker → ℕ
weight_in seeker = weight_of seeker.descent

-- Searches went on: each will come to the sighting that it would have come to, and they open no other rules.
pub record AreTurned (rules : RulesView) (instant : ℤ) (region : Region) (before now : List Seeker) : Type 0 where
  pub sound : All (IsSeeker rules instant) now
  pub seen : map (seen_by rules instant region) now ≡ map (seen_by rules instant region) before
  pub opens : (may : ℕ → Bool) → All (OpensWithin rules instant region may) before
      → All (OpensWithin rules instant region may) now
