-- What a search through all periods has found, put in order by object, is the answer.
use Rattle.std.proofs.Common.{◌≡◌, ℕ, ◌+◌, ◌-◌, ◌<◌, ℤ, Bool, false, List, [], ◌∷◌, All, length, map, filter}
use Rattle.std.proofs.Common.{Option, None, Some, inl, inr, refl, ap, sym, subst, ◌∙◌, zero-add, arith}
use Rattle.std.specs.Prelude.{replicate, slice_index}
use Rattle.std.specs.List.{filter_map, range_with_len, sum_by}
use Rattle.std.specs.List.Sorted.{IsNonDecreasingBy, IsPermutation, IsStrictlySortedBy}
use Rattle.std.specs.Option.{option_map}
use Rattle.std.proofs.lemmas.Bool.{cases_Bool, cases_order}
use Rattle.std.proofs.lemmas.List.FromFn.{get_or-range_with_len, length-range_with_len}
use Rattle.std.proofs.lemmas.List.Kept.{IsStrictlySortedBy-filter}
use Rattle.std.proofs.lemmas.List.Sorted.{All-permutation, sum_by-IsPermutation}
use Rattle.std.proofs.lemmas.List.Sums.{sum_by-cons}
use Rattle.std.proofs.lemmas.Map.Keys.{sorted_head, sorted_tail}
use Rattle.std.proofs.lemmas.Option.{none-some, same_Some}
use Rattle.list_laws.proofs.IncreasingLemmas.{increasing-below}
use Rattle.list_laws.proofs.OptionLemmas.{All-made}
use Rattle.list_laws.proofs.SumLemmas.{made_weight, sum_by-filter_map, sum_by-range_agree}
use Rattle.list_laws.proofs.WeightLemmas.{same_from_weights, IsRising, IsRising-from_order}
use Rattle.track_types.specs.ByFilter.{hit_of, hits_of, is_first_among, is_hit}
use Rattle.track_types.specs.Frame.{periods_of}
use Rattle.track_types.specs.Region.{intersects_region}
use Rattle.track_types.specs.Row.{row_order}
use Rattle.track_types.specs.declared.hit.Hit.{Hit}
use Rattle.track_types.specs.declared.parts.Parts.{Parts}
use Rattle.track_types.specs.declared.region.Region.{Region}
use Rattle.track_types.specs.declared.row.Row.{Row}
use Rattle.track_types.specs.declared.stop.Stop.{Stop}
use Rattle.track_types.proofs.RowLemmas.{object_le}
use Rattle.log_cursor.specs.Touching.{first_among}
use Rattle.snapshots.specs.Parts.{chart_in}
use Rattle.snapshots.specs.SoundParts.{IsValid}
use Rattle.object_track.specs.Met.{AreMet, IsMissed}
use Rattle.object_track.proofs.ChartLemmas.{in_window-missed}
use Rattle.object_track.proofs.TableLemmas.{IsTable-chart_in}
use Rattle.track_types.specs.Frame.{grid_of}
use Rattle.interval_search.specs.FirstHits.{first_here, first_hit, hit_at, is_known, AreFirst, IsFirstHit}
use Rattle.interval_search.proofs.FirstLemmas.{counted, first-begins, first-through, here-beside, hit-before, known-weigh}
use Rattle.interval_search.proofs.ListingLemmas.{hits-listed}

-- the object of a hit
abbrev pub object_of : Hit → ℕ
object_of hit = hit.object

-- rows in order have their objects in order
hits-rise : (rows : List Row) → IsStrictlySortedBy row_order rows → IsRising object_of (map hit_of rows)
hits-rise [] up = tt
hits-rise (row ∷ []) up = tt
hits-rise (row ∷ other ∷ rows) up = (
  object_le row other (sorted_head row_order row (other ∷ rows) up).0,
  hits-rise (other ∷ rows) (sorted_tail row_order row (other ∷ rows) up),
)

-- the object of the hit that a stop is
object-made : (object : ℕ) (found : Option Stop) (hit : Hit) → option_map (hit_at object) found ≡ Some hit
    → object ≡ hit.object
object-made object None hit is = absurd (none-some hit is)
object-made object (Some stop) hit is = ap object_of (same_Some (hit_at object stop) hit is)

module _ (parts : Parts) (valid : IsValid parts) (from to : ℤ) (region : Region) where
  abbrev hit : ℕ → Option Hit
  hit = first_hit parts from to region

  abbrev places : List ℕ
  places = range_with_len 0 (length parts.objects)

  -- the object of a first hit is that at its place
  object-first : (one : Hit) (is : IsFirstHit parts from to region one) → slice_index parts.objects is.place ≡ one.object
  object-first one is =
      object-made (slice_index parts.objects is.place) _ one is.is

  -- two first hits of one object are the same
  first-one : (a b : Hit) → IsFirstHit parts from to region a → IsFirstHit parts from to region b → a.object ≡ b.object
      → a ≡ b
  first-one a b one two same =
      let i : ℕ = one.place in
      let j : ℕ = two.place in
      let first = object-first a one in
      let second = object-first b two in
      let at : i ≡ j = elim (cases_order i j) [
        | inl equal ↦ equal
        | inr differ ↦ elim differ [
          | inl less ↦
              let below = increasing-below parts.objects valid.shaped.objects i j less two.within in
              absurd (omega (arith, below, first, second, same))
          | inr more ↦
              let below = increasing-below parts.objects valid.shaped.objects j i more one.within in
              absurd (omega (arith, below, first, second, same))
        ]
      ] in
      same_Some a b (sym one.is ∙ ap hit at ∙ two.is)

  -- the answer has first hits
  All-hits : All (IsFirstHit parts from to region) (filter_map hit places)
  All-hits =
      All-made hit (λ place. place < length parts.objects) (IsFirstHit parts from to region)
      (λ place one within is. record { place = place; within = within; is = is }) places
      (λ k d below.
      let inside : k < length parts.objects = omega (arith, below, length-range_with_len 0 (length parts.objects)) in
      subst (λ p. p < length parts.objects) (sym (get_or-range_with_len 0 (length parts.objects) k d inside)) (omega arith))

  -- once all periods are through, the known objects have all hits
  known-all : (known : List Bool) (found : List Hit) → AreFirst parts from to region (periods_of parts.frame) known found
      → (weight : Hit → ℕ) → sum_by weight found ≡ sum_by weight (filter_map hit places)
  known-all known found is weight =
      let m : ℕ → ℕ = λ place. made_weight weight (hit place) in
      is.weigh weight ∙ known-weigh parts from to region weight known
      ∙ sum_by-range_agree (counted m known) m 0 (length parts.objects)
      (λ place low high. each place (omega arith)) ∙ sym (sum_by-filter_map weight hit places)
    where
      each : (place : ℕ) → place < length parts.objects
          → counted (λ p. made_weight weight (hit p)) known place ≡ made_weight weight (hit place)
      each place within = elim (cases_Bool (is_known known place)) [
        | inl old ↦ rw old refl
        | inr gone ↦
            let none : hit place ≡ None = hit-before parts from to region valid place within
            ∙ ap (option_map (hit_at (slice_index parts.objects place))) (is.none place within gone) in
            rw (gone, none) refl
      ]

  -- in order they are the answer
  pub hits-sorted : (known : List Bool) (found sorted : List Hit)
      → AreFirst parts from to region (periods_of parts.frame) known found → IsPermutation found sorted
      → IsNonDecreasingBy object_of sorted → sorted ≡ hits_of (chart_in parts).rows from to region
  unfolding hits_of
  hits-sorted known found sorted is moved up =
      let rows : List Row = (chart_in parts).rows in
      let kept : List Row = filter (is_hit from to region) rows in
      let answer = hits-listed parts valid region from to in
      let ascends = (IsTable-chart_in parts valid).ascending in
      same_from_weights object_of (IsFirstHit parts from to region) first-one sorted
      (map hit_of (filter (is_first_among kept) kept))
      (All-permutation (IsFirstHit parts from to region) found sorted moved is.are)
      (subst (All (IsFirstHit parts from to region)) (sym answer) All-hits)
      (IsRising-from_order object_of sorted up)
      (hits-rise (filter (is_first_among kept) kept)
      (IsStrictlySortedBy-filter row_order (is_first_among kept) kept
      (IsStrictlySortedBy-filter row_order (is_hit from to region) rows ascends)))
      (λ weight. sum_by-IsPermutation weight found sorted moved ∙ known-all known found is weight
      ∙ ap (sum_by weight) (sym answer))

  -- a region that has no cell of the grid has no hits
  pub hits-beside : intersects_region region (grid_of parts.frame) ≡ false
      → [] ≡ hits_of (chart_in parts).rows from to region
  hits-beside beside =
      let known : List Bool = replicate (length parts.objects) false in
      let is : AreFirst parts from to region (periods_of parts.frame) known [] =
      subst (λ n. AreFirst parts from to region n known []) (zero-add (periods_of parts.frame))
      (first-through parts from to region (periods_of parts.frame) 0 known [] (first-begins parts from to region)
      (λ j low high. here-beside parts from to region valid j (omega arith) beside)) in
      empty (filter_map hit places) (known-all known [] is (λ _. 1)) ∙ sym (hits-listed parts valid region from to)
    where
      empty : (hits : List Hit) → sum_by {X = Hit} (λ _. 1) [] ≡ sum_by {X = Hit} (λ _. 1) hits → [] ≡ hits
      empty [] same = refl
      empty (one ∷ hits) same = absurd (omega (arith, same, sum_by-cons (λ _. 1) one hits))

  module _ (next behind : ℕ) (met : AreMet parts.frame from to next behind) where
    -- no object has a hit in a period that the window misses
    here-missed : (number : ℕ) → number < periods_of parts.frame → IsMissed parts.frame from to number → (place : ℕ)
        → first_here parts from to region number place ≡ None
    here-missed number within missed place =
        ap (first_among region) (in_window-missed parts valid place number from to within missed)

    -- so a search begins with the first period that the window meets
    pub first-at : AreFirst parts from to region next (replicate (length parts.objects) false) []
    first-at =
        subst (λ n. AreFirst parts from to region n (replicate (length parts.objects) false) []) (zero-add next)
        (first-through parts from to region next 0 (replicate (length parts.objects) false) []
        (first-begins parts from to region)
        (λ j low high. here-missed j (omega (arith, high, met.ordered, met.within)) (met.early j (omega arith))))

    -- and is done after the last one
    pub hits-met : (known : List Bool) (found sorted : List Hit) → AreFirst parts from to region behind known found
        → IsPermutation found sorted → IsNonDecreasingBy object_of sorted
        → sorted ≡ hits_of (chart_in parts).rows from to region
    hits-met known found sorted is moved up =
        let all : behind + (periods_of parts.frame - behind) ≡ periods_of parts.frame = omega (arith, met.within) in
        hits-sorted known found sorted (subst (λ n. AreFirst parts from to region n known found) all
        (first-through parts from to region (periods_of parts.frame - behind) behind known found is
        (λ j low high. here-missed j (omega (arith, high, met.within))
        (met.late j low (omega (arith, high, met.within)))))) moved up
