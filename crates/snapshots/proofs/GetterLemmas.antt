-- What the getters of an index's stores find: an object's place, and an instant's period.
use Rattle.std.proofs.Common.{◌≡◌, ℕ, ◌<◌, eqb, List, length, get_or, map, None, Some, Result, Ok, Err, MatchResult, inl, inr, ap, sym, ◌∙◌, arith}
use Rattle.std.specs.Ordering.{nat_cmp}
use Rattle.std.specs.List.Sorted.{IsBinarySearchResult}
use Rattle.std.specs.List.Sorted.{IsStrictlyIncreasing}
use Rattle.std.proofs.lemmas.Bool.{cases_lt, ne_eqb}
use Rattle.std.proofs.lemmas.Bool.Decides.{nat_tests}
use Rattle.std.proofs.lemmas.List.FromFn.{get_or-map-range_with_len}
use Rattle.std.proofs.lemmas.List.Sorted.{searched}
use Rattle.list_laws.proofs.FindLemmas.{find_in_range-first, find_in_range-none}
use Rattle.list_laws.proofs.IncreasingLemmas.{increasing-at_most, increasing-below}
use Rattle.track_types.specs.Frame.{periods_of}
use Rattle.track_types.specs.declared.parts.Parts.{Parts}
use Rattle.snapshots.specs.Parts.{index_in, numbers_in, snapshot_in}
use Rattle.snapshots.specs.Speed.{speed_of}
use Rattle.snapshots.specs.Stores.{snapshots_in}
use Rattle.snapshots.specs.View.{SnapshotView}

-- a binary search finds the place of an object, or that there is none
pub index_in-searched : (objects : List ℕ) (object : ℕ) (r : Result ℕ ℕ) → IsStrictlyIncreasing objects
    → IsBinarySearchResult (λ y. nat_cmp y object) objects r
    → MatchResult r (λ i. Some i ≡ index_in objects object) (λ i. None ≡ index_in objects object)
index_in-searched objects object (Ok i) rising answer =
    let stands = searched objects object (Ok i) answer (increasing-at_most objects rising) in
    sym (find_in_range-first (λ j. eqb (get_or objects j 0) object) 0 (length objects) i (omega arith)
    (omega (arith, stands.0))
    (λ j low below.
    let less = increasing-below objects rising j i below stands.0 in
    ne_eqb (get_or objects j 0) object (λ e. omega (arith, less, stands.1, e)))
    (grind (arith, nat_tests, stands.1)))
index_in-searched objects object (Err i) rising answer =
    let stands = searched objects object (Err i) answer (increasing-at_most objects rising) in
    sym (find_in_range-none (λ j. eqb (get_or objects j 0) object) 0 (length objects)
    (λ j low within. elim (cases_lt j i) [
      | inl before ↦ ne_eqb (get_or objects j 0) object (λ e. omega (arith, stands.1 j before, e))
      | inr after ↦ ne_eqb (get_or objects j 0) object (λ e. omega (arith, stands.2 j after (omega arith), e))
    ]))

-- the snapshot at a place
pub snapshot-at : (parts : Parts) (snaps : List SnapshotView) (number : ℕ) (d : SnapshotView)
    → snaps ≡ snapshots_in parts → number < periods_of parts.frame → get_or snaps number d ≡ snapshot_in parts number
snapshot-at parts snaps number d are within =
    ap (λ (xs : List SnapshotView). get_or xs number d) are
    ∙ get_or-map-range_with_len (snapshot_in parts) 0 (periods_of parts.frame) number number d within (omega arith)

-- the speed at a place
pub speed-at : (parts : Parts) (speeds : List ℕ) (number d : ℕ)
    → speeds ≡ map (speed_of parts) (numbers_in parts.frame) → number < periods_of parts.frame
    → get_or speeds number d ≡ speed_of parts number
speed-at parts speeds number d are within =
    ap (λ xs. get_or xs number d) are
    ∙ get_or-map-range_with_len (speed_of parts) 0 (periods_of parts.frame) number number d within (omega arith)
