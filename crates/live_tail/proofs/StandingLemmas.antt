-- What stands of an index's hits, and the hits of a tail: the first of each object in both are among them. And what it costs.
use Rattle.std.proofs.Common.{◌≡◌, ◌≤◌, ℕ, ℤ, Bool, true, false, List, [], ◌∷◌, ◌++◌, filter, map, Option, Some, eqb, refl, sym, subst, ◌∙◌, ap, arith, inl, inr}
use Rattle.std.specs.Prelude.{not, ◌==◌, ◌&&◌, ◌||◌}
use Rattle.std.specs.List.{AllByRecursion, Contains, filter_map, list_any, sum_by}
use Rattle.std.specs.List.Sorted.{IsStrictlySortedBy}
use Rattle.std.specs.Ordering.{int_eq, nat_cmp}
use Rattle.std.specs.declared.cmp.Ordering.TheVariants.{Less}
use Rattle.std.proofs.lemmas.Bool.{and_parts, cases_Bool, eqb-true}
use Rattle.std.proofs.lemmas.Bool.Decides.{nat_tests}
use Rattle.std.proofs.lemmas.Cmp.{nat_cmp_total}
use Rattle.std.proofs.lemmas.Int.{ints}
use Rattle.std.proofs.lemmas.List.Elements.{All-contains, Contains-append_cases, Contains-append_left, Contains-append_right}
use Rattle.std.proofs.lemmas.List.Filters.{sum_by-filter_both}
use Rattle.std.proofs.lemmas.List.Folds.{list_any-append}
use Rattle.std.proofs.lemmas.List.Kept.{IsStrictlySortedBy-filter}
use Rattle.std.proofs.lemmas.List.Sorted.{Contains-permutation}
use Rattle.std.proofs.lemmas.Map.Views.{Contains-from_any}
use Rattle.list_laws.specs.Ordered.{ordered}
use Rattle.list_laws.proofs.AscendingLemmas.{same_from_members}
use Rattle.list_laws.proofs.FilterLemmas.{sum_by-filter}
use Rattle.list_laws.proofs.FlatLemmas.{sum_by-map}
use Rattle.list_laws.proofs.MemberLemmas.{Contains-filter, member_of_filter, member_of_map}
use Rattle.list_laws.proofs.OptionLemmas.{All-made}
use Rattle.list_laws.proofs.OrderedLemmas.{IsPermutation-ordered}
use Rattle.track_types.specs.ByFilter.{hits_of, is_hit}
use Rattle.track_types.specs.Region.{in_region, is_between}
use Rattle.track_types.specs.Row.{IsAscending, is_row_of, row_order}
use Rattle.track_types.specs.declared.hit.Hit.{Hit}
use Rattle.track_types.specs.declared.question.Question.{Question}
use Rattle.track_types.specs.declared.question.Question.TheVariants as question
use Rattle.track_types.specs.declared.region.Region.{Region}
use Rattle.track_types.specs.declared.row.Row.{Row}
use Rattle.interval_search.specs.FirstHits.{hit_in}
use Rattle.live_tail.specs.Cost.{objects_between, rows_between, standing_cost}
use Rattle.live_tail.specs.Hits.{HaveFirst, IsHitOf, is_no_later, is_overridden, standing}
use Rattle.live_tail.specs.Join.{has_place, rows_beside, rows_of_both}
use Rattle.live_tail.proofs.CutLemmas.{All-by_members}
use Rattle.live_tail.proofs.FirstLemmas.{HaveFirst-hits_of, any-made, hit_in-first, hit_in-is, hit_order, hits_of-rise, its_object, some_of}
use Rattle.live_tail.proofs.HitLemmas.{has_object-own}
use Rattle.live_tail.proofs.JoinLemmas.{IsAscending-rows_of_both, member_of_rows_with}
use Rattle.live_tail.proofs.ObjectLemmas.{any-member, objects_of-rise}

-- the objects of hits in strict order are in strict order
all-objects : (hit : Hit) (hits : List Hit) → AllByRecursion (λ other. hit_order hit other ≡ Less) hits →
    AllByRecursion (λ object. nat_cmp hit.object object ≡ Less) (map (λ (other : Hit). other.object) hits)
all-objects hit [] all = tt
all-objects hit (other ∷ hits) all = (all.0, all-objects hit hits all.1)

objects-rise : (hits : List Hit) → IsStrictlySortedBy hit_order hits → IsStrictlySortedBy nat_cmp (map (λ (hit : Hit). hit.object) hits)
unfolding IsStrictlySortedBy
objects-rise [] up = tt
objects-rise (hit ∷ hits) up = (all-objects hit hits up.0, objects-rise hits up.1)

own_test : (z : ℕ) → (z == z) ≡ true
own_test z = grind (arith, nat_tests)

-- a sum over numbers among others is at most that over all of these
sum_among : (f : ℕ → ℕ) (xs ys : List ℕ) → IsStrictlySortedBy nat_cmp xs → IsStrictlySortedBy nat_cmp ys →
    ((z : ℕ) → Contains xs z → Contains ys z) → sum_by f xs ≤ sum_by f ys
sum_among f xs ys up also inside =
    let is_in : ℕ → Bool = λ y. list_any (λ x. y == x) xs in
    let kept : filter is_in ys ≡ xs = same_from_members nat_cmp_total (filter is_in ys) xs
    (IsStrictlySortedBy-filter nat_cmp is_in ys also) up
    (λ z there. Contains-from_any {eq = eqb} eqb-true z xs (member_of_filter is_in ys z there).1)
    (λ z there. Contains-filter is_in ys z (any-member (λ x. z == x) xs z there (own_test z)) (inside z there)) in
    omega (arith, ap (sum_by f) kept, sum_by-filter_both is_in (λ y. not (is_in y)) (λ y. refl) f ys)

module _ (rows tail : List Row) where
  abbrev both : List Row
  both = rows_of_both rows tail

  joined : (row : Row) → Contains (tail ++ rows_beside tail rows) row → Contains both row
  unfolding rows_of_both
  joined row inside =
      let all : List Row = tail ++ rows_beside tail rows in
      Contains-permutation all (ordered row_order all) row (IsPermutation-ordered row_order all) inside

  -- a tail's row is one of both, and so is one of the rows that has none in its place
  later : (row : Row) → Contains tail row → Contains both row
  later row inside = joined row (Contains-append_left tail (rows_beside tail rows) row inside)

  beside : (row : Row) → has_place tail row ≡ false → Contains rows row → Contains both row
  beside row none inside =
      joined row (Contains-append_right tail (rows_beside tail rows) row
      (Contains-filter (λ z. not (has_place tail z)) rows row (ap not none) inside))

  module _ (up : IsAscending rows) (also : IsAscending tail) (from to : ℤ) (region : Region) where
    abbrev hits : List Hit
    hits = hits_of rows from to region

    abbrev stands : Hit → Option Hit
    stands = standing rows tail from to region

    up_both : IsAscending both
    up_both = IsAscending-rows_of_both rows tail up also

    some_is : (a b : Hit) → Some a ≡ Some b → a ≡ b
    some_is a b same = grind (arith)

    -- what stands of a hit is one of both
    stands-is : (hit now : Hit) → IsHitOf rows from to region hit → stands hit ≡ Some now → IsHitOf both from to region now
    stands-is hit now of made = elim (cases_Bool (is_overridden tail hit)) [
      | inl over ↦ hit_in-is both up_both from to region hit.object now (rw over at made)
      | inr free ↦
          let same : hit ≡ now = some_is hit now (rw free at made) in
          let none : has_place tail of.row ≡ false = ap (is_overridden tail) of.is ∙ free in
          record { row = of.row; inside = beside of.row none of.inside; meets = of.meets; is = of.is ∙ same }
    ]

    -- and where it is no later than a row of both that is a hit, so is what stands of it
    stands-no_later : (hit : Hit) (row : Row) → Contains both row → is_hit from to region row ≡ true → is_no_later row hit ≡ true →
        (now : Hit) × (stands hit ≡ Some now) × (is_no_later row now ≡ true)
    stands-no_later hit row inside meets before = elim (cases_Bool (is_overridden tail hit)) [
      | inl over ↦
          let first = hit_in-first both up_both from to region row inside meets in
          (first.0, rw over (ap (hit_in both from to region) (sym (its_object row hit before)) ∙ first.1), first.2)
      | inr free ↦ (hit, rw free refl, before)
    ]

    -- so the tail's hits and what stands of the others are enough
    pub HaveFirst-standing : (own : List Hit) → HaveFirst tail from to region own →
        HaveFirst both from to region (own ++ filter_map stands hits)
    HaveFirst-standing own have =
        let first = HaveFirst-hits_of rows up from to region in
        record {
          are = λ hit inside. elim (Contains-append_cases own (filter_map stands hits) hit inside) [
            | inl here ↦
                let of = have.are hit here in
                record { row = of.row; inside = later of.row of.inside; meets = of.meets; is = of.is }
            | inr there ↦ All-contains (IsHitOf both from to region) (filter_map stands hits) hit
                (All-made stands (IsHitOf rows from to region) (IsHitOf both from to region) (λ x y of made. stands-is x y of made) hits
                (All-by_members (IsHitOf rows from to region) hits first.are)) there
          ];
          first = λ row inside meets. list_any-append (is_no_later row) own (filter_map stands hits)
              ∙ elim (member_of_rows_with rows tail row inside) [
                | inl late ↦ rw (have.first row late meets) refl
                | inr early ↦
                    let found = some_of (is_no_later row) hits (first.first row early meets) in
                    let now = stands-no_later found.0 row inside meets found.2 in
                    or_true (list_any (is_no_later row) own) (list_any (is_no_later row) (filter_map stands hits))
                    (any-made (is_no_later row) stands hits found.0 now.0 found.1 now.1 now.2)
              ];
        }
      where
        or_true : (a b : Bool) → b ≡ true → (a || b) ≡ true
        or_true a b is = grind (arith)

    -- the cost
    module _ (cost : Question → ℕ) where
      abbrev path_cost : ℕ → ℕ
      path_cost object = cost (question.Path object from to)

      abbrev own_objects : List ℕ
      own_objects = objects_between tail from to

      abbrev overridden : List Hit
      overridden = filter (is_overridden tail) hits

      row_tests : (object own : ℕ) (instant at : ℤ) → ((object == own) && int_eq instant at) ≡ true → (own ≡ object) × (at ≡ instant)
      row_tests object own instant at is = (grind (arith, nat_tests, ints), grind (arith, nat_tests, ints))

      -- the tail has a row of an overridden hit's object in the window
      own-member : (hit : Hit) → IsHitOf rows from to region hit → is_overridden tail hit ≡ true → Contains own_objects hit.object
      own-member hit of over =
          let found = some_of (is_row_of hit.object hit.instant) tail over in
          let row : Row = found.0 in
          let tests = row_tests hit.object row.object hit.instant row.instant found.2 in
          let within : is_between from to row.instant ≡ true =
          ap (is_between from to) (tests.1 ∙ sym (ap (λ (h : Hit). h.instant) of.is))
          ∙ (and_parts (is_between from to of.row.instant) (in_region region of.row.cell) of.meets).0 in
          subst (Contains own_objects) tests.0
          (has_object-own (rows_between tail from to) row
          (Contains-filter (λ (row : Row). is_between from to row.instant) tail row within found.1))

      pub standing-cost : sum_by (standing_cost cost tail from to) hits ≤ sum_by path_cost own_objects
      standing-cost =
          let objects : List ℕ = map (λ (hit : Hit). hit.object) overridden in
          let all : sum_by (standing_cost cost tail from to) hits ≡ sum_by path_cost objects =
          sym (sum_by-filter (λ (hit : Hit). path_cost hit.object) (is_overridden tail) hits)
          ∙ sym (sum_by-map path_cost (λ (hit : Hit). hit.object) overridden) in
          let rise : IsStrictlySortedBy nat_cmp objects =
          objects-rise overridden (IsStrictlySortedBy-filter hit_order (is_overridden tail) hits (hits_of-rise rows up from to region)) in
          let inside : (object : ℕ) → Contains objects object → Contains own_objects object =
          λ object there.
          let from_hit = member_of_map (λ (hit : Hit). hit.object) overridden object there in
          let member = member_of_filter (is_overridden tail) hits from_hit.0 from_hit.1 in
          subst (Contains own_objects) from_hit.2
          (own-member from_hit.0 ((HaveFirst-hits_of rows up from to region).are from_hit.0 member.0) member.1) in
          omega (
            arith,
            all,
            sum_among path_cost objects own_objects rise
                (objects_of-rise (rows_between tail from to) (IsStrictlySortedBy-filter row_order (λ (row : Row). is_between from to row.instant) tail also)) inside,
          )
