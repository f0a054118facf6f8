-- A search for first hits: from one block to the next, and from one period to the next.
use Rattle.std.proofs.Common.{◌≡◌, ℕ, zero, suc, ◌+◌, ◌<◌, ◌≤◌, ℤ, Bool, true, false, List, [], ◌∷◌, ◌++◌, length, ◌-◌}
use Rattle.std.proofs.Common.{filter, Option, None, Some, inl, inr, refl, ap, sym, subst, ◌∙◌, arith}
use Rattle.std.specs.Prelude.{◌==◌, if◌then◌else◌, is_some, replicate, slice_index, slice_set}
use Rattle.std.specs.List.{flat_map, list_any, range_with_len, sum_by}
use Rattle.std.specs.Option.{option_map, option_or, option_to_list}
use Rattle.std.proofs.lemmas.Bool.{cases_Bool, eq-eqb}
use Rattle.std.proofs.lemmas.Bool.Decides.{nat_tests}
use Rattle.std.proofs.lemmas.List.{append-nil, get_or-replicate, get_or-set_other, get_or-set_same, length-replicate, length-set}
use Rattle.std.proofs.lemmas.List.Elements.{All-append, All-cons, All-nil, All-tail, All-head}
use Rattle.std.proofs.lemmas.List.Folds.{find-append}
use Rattle.std.proofs.lemmas.List.Sums.{sum_by-append, sum_by-cons}
use Rattle.list_laws.proofs.FilterLemmas.{sum_by-filter}
use Rattle.list_laws.proofs.RangeLemmas.{flat_map-range_next}
use Rattle.list_laws.proofs.SumLemmas.{made_weight, sum_by-filter_map, sum_by-range_agree}
use Rattle.track_types.specs.Frame.{periods_of}
use Rattle.track_types.specs.Region.{in_region, intersects_region}
use Rattle.track_types.specs.declared.hit.Hit.{Hit}
use Rattle.track_types.specs.declared.parts.Parts.{Parts}
use Rattle.track_types.specs.declared.region.Region.{Region}
use Rattle.track_types.specs.declared.stop.Stop.{Stop}
use Rattle.rule_store.specs.Log.{in_window}
use Rattle.log_cursor.specs.Touching.{first_among, first_hit_of}
use Rattle.snapshots.specs.Parts.{snapshot_in, stops_in, stops_in_block}
use Rattle.snapshots.specs.Sound.{IsBlock}
use Rattle.snapshots.specs.SoundParts.{IsValid}
use Rattle.snapshots.specs.View.{SnapshotView, block_of}
use Rattle.snapshots.specs.declared.anchored.Anchored.{Anchored}
use Rattle.snapshots.proofs.BlockFactsLemmas.{IsBlock-from_block_of}
use Rattle.snapshots.proofs.ByObjectLemmas.{index-from_block_of}
use Rattle.snapshots.proofs.ReachLemmas.{within-reach, IsSnapshot-valid}
use Rattle.object_track.proofs.BlockLemmas.{block-known}
use Rattle.object_track.proofs.ChartLemmas.{path_of-known}
use Rattle.object_track.proofs.TableLemmas.{index_in-own}
use Rattle.slice_search.specs.Sought.{first_stop_in, has_stop_in, AreSought}
use Rattle.track_types.specs.Frame.{grid_of}
use Rattle.slice_search.proofs.SoughtLemmas.{first_stop-beside, sought-each}
use Rattle.interval_search.specs.FirstHits.{first_before, first_here, first_hit, hit_at, is_block_at, is_known, known_after, known_hits}
use Rattle.interval_search.specs.FirstHits.{AreFirst, IsFirstHit, IsLooking}

-- so much for each known object
abbrev pub counted : (ℕ → ℕ) → List Bool → ℕ → ℕ
counted f known place = if is_known known place then f place else 0

-- another object becomes known
module _ (known : List Bool) (place : ℕ) (within : place < length known) where
  abbrev more : List Bool
  more = slice_set known place true

  is_known-own : is_known more place ≡ true
  is_known-own = get_or-set_same known place true false within

  is_known-other : (other : ℕ) → (other ≡ place → ⊥) → is_known more other ≡ is_known known other
  is_known-other other apart = get_or-set_other known place other true false apart

  -- one that is not known then is another one, and was not known before
  unknown-before : (other : ℕ) → is_known more other ≡ false → (other ≡ place → ⊥) × (is_known known other ≡ false)
  unknown-before other gone =
      let apart : other ≡ place → ⊥ = λ is.
      (let own : is_known more other ≡ true = subst (λ p. is_known more p ≡ true) (sym is) is_known-own in absurd (cc)) in
      (apart, sym (is_known-other other apart) ∙ gone)

  -- a sum over the known objects has one term more
  counted-other : (f : ℕ → ℕ) (other : ℕ) → (other ≡ place → ⊥) → counted f more other ≡ counted f known other
  counted-other f other apart = ap (λ b. if b then f other else 0) (is_known-other other apart)

  sum-known : (f : ℕ → ℕ) → is_known known place ≡ false → (from n : ℕ) → from ≤ place → place < from + n
      → sum_by (counted f more) (range_with_len from n) ≡ sum_by (counted f known) (range_with_len from n) + f place
  sum-known f gone from zero low high = absurd (omega arith)
  sum-known f gone from (suc n) low high = elim (cases_Bool (from == place)) [
    | inl same ↦
        let is : from ≡ place = grind (arith, nat_tests) in
        let one : counted f more from ≡ f place = rw (is, is_known-own) refl in
        let none : counted f known from ≡ 0 = rw (is, gone) refl in
        let rest = sum_by-range_agree (counted f more) (counted f known) (from + 1) n
        (λ i least most. counted-other f i (λ e. omega arith)) in
        omega (
          arith,
          sum_by-cons (counted f more) from (range_with_len (from + 1) n),
          sum_by-cons (counted f known) from (range_with_len (from + 1) n),
          one,
          none,
          rest,
        )
    | inr differ ↦
        let apart : from < place = grind (arith, nat_tests) in
        let first = counted-other f from (λ e. omega arith) in
        let rest = sum-known f gone (from + 1) n (omega arith) (omega arith) in
        omega (
          arith,
          sum_by-cons (counted f more) from (range_with_len (from + 1) n),
          sum_by-cons (counted f known) from (range_with_len (from + 1) n),
          first,
          rest,
        )
  ]

module _ (parts : Parts) (from to : ℤ) (region : Region) where
  abbrev before : ℕ → ℕ → Option Stop
  before number place = first_before parts from to region number place

  abbrev here : ℕ → ℕ → Option Stop
  here number place = first_here parts from to region number place

  abbrev hit : ℕ → Option Hit
  hit = first_hit parts from to region

  -- what is known weighs so much
  pub known-weigh : (weight : Hit → ℕ) (known : List Bool) → sum_by weight (known_hits parts from to region known)
      ≡ sum_by (counted (λ place. made_weight weight (hit place)) known) (range_with_len 0 (length parts.objects))
  unfolding known_hits
  known-weigh weight known =
      let places : List ℕ = range_with_len 0 (length parts.objects) in
      sum_by-filter_map weight hit (filter (is_known known) places)
      ∙ sum_by-filter (λ place. made_weight weight (hit place)) (is_known known) places

  -- the first stop before the next period
  before-next : (number place : ℕ) → before (number + 1) place ≡ option_or (before number place) (here number place)
  unfolding first_before
  before-next number place =
      let stops : ℕ → List Stop = λ j. in_window from to (stops_in parts place j) in
      ap (first_among region) (flat_map-range_next stops number)
      ∙ find-append (λ (stop : Stop). in_region region stop.cell) (flat_map stops (range_with_len 0 number)) (stops number)

  -- it stays the first one
  before-stays : (number place : ℕ) (stop : Stop) → before number place ≡ Some stop → (k : ℕ)
      → before (number + k) place ≡ Some stop
  before-stays number place stop is zero =
      let same : number + 0 ≡ number = omega arith in ap (λ n. before n place) same ∙ is
  before-stays number place stop is (suc k) =
      let rest : before (number + k) place ≡ Some stop = before-stays number place stop is k in
      let next : number + suc k ≡ number + k + 1 = omega arith in
      ap (λ n. before n place) next ∙ before-next (number + k) place
      ∙ ap (λ found. option_or found (here (number + k) place)) rest

  -- before the first period nothing is known, and nothing is found
  pub first-begins : AreFirst parts from to region 0 (replicate (length parts.objects) false) []
  unfolding first_before
  first-begins = record {
    size = length-replicate (length parts.objects) false;
    are = All-nil (IsFirstHit parts from to region);
    weigh = λ weight. sym (known-weigh weight (replicate (length parts.objects) false)
        ∙ sum_by-range_agree (counted (λ place. made_weight weight (hit place)) (replicate (length parts.objects) false))
        (λ _. 0) 0 (length parts.objects)
        (λ i low high.
        let gone : is_known (replicate (length parts.objects) false) i ≡ false =
        get_or-replicate (length parts.objects) i false false (omega arith) in rw gone refl)
        ∙ sum-zeros (length parts.objects) 0);
    none = λ place within gone. refl;
  }
    where
      sum-zeros : (n first : ℕ) → sum_by (λ _. 0) (range_with_len first n) ≡ 0
      sum-zeros zero first = refl
      sum-zeros (suc n) first =
          omega (arith, sum_by-cons (λ _. 0) first (range_with_len (first + 1) n), sum-zeros n (first + 1))

  -- a period in which no other object has a hit
  pub first-next : (number : ℕ) (known : List Bool) (found : List Hit) → AreFirst parts from to region number known found
      → ((place : ℕ) → place < length parts.objects → is_known known place ≡ false → here number place ≡ None)
      → AreFirst parts from to region (number + 1) known found
  first-next number known found is none = record {
    size = is.size;
    are = is.are;
    weigh = is.weigh;
    none = λ place within gone.
        before-next number place ∙ ap (λ s. option_or s (here number place)) (is.none place within gone)
        ∙ none place within gone;
  }

  -- so many such periods
  pub first-through : (k number : ℕ) (known : List Bool) (found : List Hit) → AreFirst parts from to region number known found
      → ((j : ℕ) → number ≤ j → j < number + k → (place : ℕ) → here j place ≡ None)
      → AreFirst parts from to region (number + k) known found
  first-through zero number known found is none =
      let same : number ≡ number + 0 = omega arith in
      subst (λ n. AreFirst parts from to region n known found) same is
  first-through (suc k) number known found is none =
      let next : number + k + 1 ≡ number + suc k = omega arith in
      subst (λ n. AreFirst parts from to region n known found) next
      (first-next (number + k) known found (first-through k number known found is (λ j low high. none j low (omega arith)))
      (λ place within gone. none (number + k) (omega arith) (omega arith) place))

  module _ (valid : IsValid parts) where
    -- the first hit is that before the last period
    pub hit-before : (place : ℕ) → place < length parts.objects
        → hit place ≡ option_map (hit_at (slice_index parts.objects place)) (before (periods_of parts.frame) place)
    unfolding first_before
    hit-before place within =
        ap (λ stops. option_map (hit_at (slice_index parts.objects place)) (first_among region stops))
        (path_of-known parts valid (slice_index parts.objects place) place (index_in-own parts valid place within) from to)

    module _ (number : ℕ) (inside : number < periods_of parts.frame) where
      abbrev view : SnapshotView
      view = snapshot_in parts number

      -- the first stop of an object in a period is that of its block
      here-block : (block : Anchored) → IsBlock view block
          → here number block.index ≡ first_stop_in parts number from to region block
      unfolding stops_in first_stop_in first_hit_of
      here-block block its = ap (λ found. first_among region (in_window from to (stops_in_block parts number found))) its.its

      here-absent : (place : ℕ) → block_of view place ≡ None → here number place ≡ None
      unfolding stops_in in_window
      here-absent place none = rw none refl

      -- it is none where the object's block has none
      here-none : (place : ℕ) → ((block : Anchored) → IsBlock view block → block.index ≡ place
          → first_stop_in parts number from to region block ≡ None) → here number place ≡ None
      here-none place none = by_block (block_of view place) refl
        where
          by_block : (block : Option Anchored) → block_of view place ≡ block → here number place ≡ None
          by_block None is_block = here-absent place is_block
          by_block (Some block) is_block =
              let its = IsBlock-from_block_of view (IsSnapshot-valid parts valid number inside) place block is_block in
              let at : block.index ≡ place = index-from_block_of view place block is_block in
              ap (here number) (sym at) ∙ here-block block its ∙ none block its at

      -- so in each period, where the region has no cell of the grid
      pub here-beside : intersects_region region (grid_of parts.frame) ≡ false → (place : ℕ) → here number place ≡ None
      here-beside beside place =
          here-none place
          (λ block its at. first_stop-beside parts valid number inside from to region (within-reach parts valid) beside block its)

      -- the blocks of a period are looked into
      pub looking-begins : (blocks : List Anchored) (known : List Bool) (found : List Hit)
          → AreFirst parts from to region number known found → AreSought parts number from to region blocks
          → IsLooking parts from to region number blocks known found
      looking-begins blocks known found is sought = record {
        first = is;
        left_are = sought.are;
        here = λ place within gone none.
            here-none place (λ block its at. by_stop block its (first_stop_in parts number from to region block) refl
            (ap (λ p. list_any (is_block_at p) blocks) at ∙ none));
      }
        where
          by_stop : (block : Anchored) → IsBlock view block → (stop : Option Stop)
              → first_stop_in parts number from to region block ≡ stop → list_any (is_block_at block.index) blocks ≡ false
              → stop ≡ None
          by_stop block its None is_stop none = refl
          by_stop block its (Some stop) is_stop none =
              let has : has_stop_in parts number from to region block ≡ true = ap is_some is_stop in
              let among : list_any (is_block_at block.index) blocks ≡ true =
              sought-each parts valid number inside from to region blocks sought block its has in
              absurd (cc)

      -- none is left
      pub looking-ends : (known : List Bool) (found : List Hit) → IsLooking parts from to region number [] known found
          → AreFirst parts from to region (number + 1) known found
      looking-ends known found is =
          first-next number known found is.first (λ place within gone. is.here place within gone refl)

      module _ (block : Anchored) (left : List Anchored) (known : List Bool) (found : List Hit)
          (is : IsLooking parts from to region number (block ∷ left) known found) where
        its : IsBlock view block
        its = All-head (IsBlock view) block left is.left_are

        -- the next block's object is one of the index's
        pub next-within : block.index < length known
        next-within = omega (arith, is.first.size, block-known parts valid number inside block its)

        -- another object is not that of the block
        others : (place : ℕ) → (place ≡ block.index → ⊥) → list_any (is_block_at place) left ≡ false
            → list_any (is_block_at place) (block ∷ left) ≡ false
        others place apart none =
            let differs : is_block_at place block ≡ false = grind (arith, nat_tests) in
            rw (differs, none) refl

        -- its object is known
        pub looking-skips : is_known known block.index ≡ true → IsLooking parts from to region number left known found
        looking-skips old = record {
          first = is.first;
          left_are = All-tail (IsBlock view) block left is.left_are;
          here = λ place within gone none.
              is.here place within gone (others place (λ e.
              let old_too : is_known known place ≡ true = ap (is_known known) e ∙ old in absurd (cc)) none);
        }

        -- it is not, and the block is looked into
        pub looking-into : is_known known block.index ≡ false → (stop : Option Stop)
            → stop ≡ first_stop_in parts number from to region block
            → IsLooking parts from to region number left (known_after stop block.index known)
            (found ++ option_to_list (option_map (hit_at (slice_index parts.objects block.index)) stop))
        looking-into gone None its_stop = record {
          first = subst (AreFirst parts from to region number known) (sym (append-nil found)) is.first;
          left_are = All-tail (IsBlock view) block left is.left_are;
          here = λ place within away none. elim (cases_Bool (place == block.index)) [
            | inl same ↦
                let at : place ≡ block.index = grind (arith, nat_tests) in
                ap (here number) at ∙ here-block block its ∙ sym its_stop
            | inr differ ↦
                is.here place within away (others place (λ e.
                let same : (place == block.index) ≡ true = eq-eqb place block.index e in absurd (cc)) none)
          ];
        }
        looking-into gone (Some stop) its_stop =
            let object : ℕ = slice_index parts.objects block.index in
            let one : Hit = hit_at object stop in
            let within : block.index < length parts.objects = block-known parts valid number inside block its in
            let first : before (number + 1) block.index ≡ Some stop = before-next number block.index
            ∙ ap (λ s. option_or s (here number block.index)) (is.first.none block.index within gone)
            ∙ here-block block its ∙ sym its_stop in
            let all : number + 1 + (periods_of parts.frame - (number + 1)) ≡ periods_of parts.frame = omega arith in
            let last : before (periods_of parts.frame) block.index ≡ Some stop = ap (λ n. before n block.index) (sym all)
            ∙ before-stays (number + 1) block.index stop first (periods_of parts.frame - (number + 1)) in
            let made : hit block.index ≡ Some one =
            hit-before block.index within ∙ ap (option_map (hit_at object)) last in
            record {
              first = record {
                size = length-set known block.index true ∙ is.first.size;
                are = All-append (IsFirstHit parts from to region) found (one ∷ []) is.first.are
                    (All-cons (IsFirstHit parts from to region) one []
                    (record { place = block.index; within = within; is = made })
                    (All-nil (IsFirstHit parts from to region)));
                weigh = λ weight.
                    let m : ℕ → ℕ = λ place. made_weight weight (hit place) in
                    let its_weight : m block.index ≡ weight one = ap (made_weight weight) made in
                    omega (
                      arith,
                      sum_by-append weight found (one ∷ []),
                      sum_by-cons weight one [],
                      is.first.weigh weight,
                      known-weigh weight known,
                      known-weigh weight (slice_set known block.index true),
                      sum-known known block.index next-within m gone 0 (length parts.objects) (omega arith)
                          (omega (arith, within)),
                      its_weight,
                    );
                none = λ place inner away.
                    is.first.none place inner (unknown-before known block.index next-within place away).1;
              };
              left_are = All-tail (IsBlock view) block left is.left_are;
              here = λ place inner away none.
                  let apart = unknown-before known block.index next-within place away in
                  is.here place inner apart.1 (others place apart.0 none);
            }
