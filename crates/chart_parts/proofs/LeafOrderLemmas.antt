-- Leaf order: a permutation of places that goes by number, then by place, and what a sort of leaves leaves.
use Rattle.std.proofs.Common.{◌≡◌, ℕ, zero, suc, ◌+◌, ◌<◌, ◌≤◌, List, [], ◌∷◌, length, get_or, inl, inr, sym, ap, ◌∙◌, arith, map, subst, refl}
use Rattle.std.specs.Prelude.{All, slice_index}
use Rattle.std.specs.List.{AllByRecursion, Contains, range_with_len}
use Rattle.std.specs.List.Sorted.{IsPermutation, IsSorted, IsSortedByKey, IsStrictlySortedBy}
use Rattle.std.specs.Ordering.{is_lt, nat_cmp, on, then_cmp}
use Rattle.std.specs.declared.cmp.Ordering.TheVariants.{Less}
use Rattle.std.proofs.lemmas.Bool.{cases_Bool, cases_order, cases_lt}
use Rattle.std.proofs.lemmas.Bool.Decides.{nat_tests}
use Rattle.std.proofs.lemmas.List.{get_or-map, get_or_default, length-map}
use Rattle.std.proofs.lemmas.List.Elements.{All-from_recursion, recursion_from_All}
use Rattle.std.proofs.lemmas.List.FromFn.{get_or-range_with_len, length-range_with_len}
use Rattle.std.proofs.lemmas.List.Sorted.{All-permutation, length_permutation, IsPermutation-map, IsPermutation-sym, IsPermutation-trans}
use Rattle.std.proofs.lemmas.Cmp.{nat_cmp_total, on_total, then_total}
use Rattle.std.proofs.lemmas.Map.Keys.{sorted_from_all_adjacent, Less-from_sorted}
use Rattle.list_laws.specs.Ordered.{ordered, insert_in_order}
use Rattle.list_laws.proofs.OrderedLemmas.{IsPermutation-ordered, all-ordered, all-insert_in_order}
use Rattle.list_laws.proofs.ApartLemmas.{ordered-permutation, same_from_sorted}
use Rattle.object_perm.specs.Permutation.{PermutesPlaces}
use Rattle.track_types.specs.declared.frame.Frame.{Frame}
use Rattle.track_types.specs.declared.limit.TheConstants.{MAX_OBJECTS}
use Rattle.movement_log.specs.declared.head.Head.{Head}
use Rattle.k2_tree.specs.Morton.{morton_of}
use Rattle.k2_tree.proofs.ToldLemmas.{morton_bits-none}
use Rattle.snapshots.specs.View.{widths_in}
use Rattle.chart_parts.proofs.DealtLemmas.{permutation_from_strict}
use Rattle.chart_parts.specs.LeafOrder.{by_code, leaf_codes, leaf_order, distinct_codes, ends_of}
use Rattle.chart_parts.specs.Leaf.{LeafView, number_of}
use Rattle.chart_parts.specs.PeriodWith.{codes_of_heads, block_leaf, no_head, period_with, presence_of, without_blocks}
use Rattle.list_laws.proofs.MapLemmas.{map-back, map_alike}
use Rattle.std.proofs.lemmas.Simd.{map-map}
use Rattle.std.specs.Cmp.{IsTotalOrder}
use Rattle.std.specs.declared.cmp.Ordering.{Ordering}

module _ (codes : List ℕ) where
  -- a place comes before another: its number is not greater, and where the two are one, it is the earlier place
  pub record IsBefore (a b : ℕ) : Type 0 where
    pub low : slice_index codes a ≤ slice_index codes b
    pub tied : slice_index codes a ≡ slice_index codes b → a < b

  abbrev place_cmp : ℕ → ℕ → Ordering
  place_cmp = then_cmp (by_code codes) nat_cmp

  place_total : IsTotalOrder place_cmp
  place_total = then_total (on_total (slice_index codes) nat_cmp_total) nat_cmp_total

  -- an earlier place than all others is put in its place
  strict-insert_in_order : (a : ℕ) (rest : List ℕ) → AllByRecursion (λ b. a < b) rest →
      IsStrictlySortedBy place_cmp rest →
      IsStrictlySortedBy place_cmp (insert_in_order (by_code codes) a rest)
  unfolding insert_in_order IsStrictlySortedBy
  strict-insert_in_order a [] earlier up = (tt, tt)
  strict-insert_in_order a (b ∷ rest) earlier up = elim (cases_Bool (is_lt (by_code codes b a))) [
    | inl less ↦
        let first : place_cmp b a ≡ Less = grind (arith, nat_tests) in
        rw less (
          all-insert_in_order (by_code codes)
              (λ z. place_cmp b z ≡ Less) a rest first up.0,
          strict-insert_in_order a rest earlier.1 up.1,
        )
    | inr not ↦
        let low : a < b = earlier.0 in
        let first : place_cmp a b ≡ Less = grind (arith, nat_tests) in
        let all = recursion_from_All (λ z. place_cmp a z ≡ Less) rest (λ k d within.
        place_total.trans a b _ first (All-from_recursion (λ z. place_cmp b z ≡ Less) rest up.0 k d within)) in
        rw not ((first, all), up)
  ]

  later_range : (a from n : ℕ) → a < from → AllByRecursion (λ b. a < b) (range_with_len from n)
  later_range a from zero below = tt
  later_range a from (suc n) below = (below, later_range a (from + 1) n (omega arith))

  strict-ordered : (from n : ℕ) → IsStrictlySortedBy place_cmp (ordered (by_code codes) (range_with_len from n))
  unfolding ordered IsStrictlySortedBy
  strict-ordered from zero = tt
  strict-ordered from (suc n) =
      strict-insert_in_order from (ordered (by_code codes) (range_with_len (from + 1) n))
      (all-ordered (by_code codes) (λ b. from < b) (range_with_len (from + 1) n)
      (later_range from (from + 1) n (omega arith)))
      (strict-ordered (from + 1) n)

  -- leaf order is a permutation of the places
  pub IsPermutation-leaf_order : IsPermutation (range_with_len 0 (length codes)) (leaf_order codes)
  unfolding leaf_order
  IsPermutation-leaf_order = IsPermutation-ordered (by_code codes) (range_with_len 0 (length codes))

  -- there are as many places in leaf order as there are numbers
  pub length-leaf_order : length (leaf_order codes) ≡ length codes
  length-leaf_order =
      length_permutation (range_with_len 0 (length codes)) (leaf_order codes) IsPermutation-leaf_order
      ∙ length-range_with_len 0 (length codes)

  -- and as many numbers
  pub length-leaf_codes : length (leaf_codes codes) ≡ length codes
  unfolding leaf_codes
  length-leaf_codes = length-map (leaf_order codes) (slice_index codes) ∙ length-leaf_order

  -- the number at a place in leaf order
  pub leaf_codes-at : (p : ℕ) → p < length codes →
      slice_index (leaf_codes codes) p ≡ slice_index codes (slice_index (leaf_order codes) p)
  unfolding leaf_codes
  leaf_codes-at p within = get_or-map (slice_index codes) (leaf_order codes) p 0 0 (omega (arith, length-leaf_order))

  -- each place comes before all that follow in leaf order
  pub leaf_order-before : (p q : ℕ) → p < q → q < length codes →
      IsBefore (slice_index (leaf_order codes) p) (slice_index (leaf_order codes) q)
  unfolding leaf_order
  leaf_order-before p q less within =
      let order = Less-from_sorted place_cmp (leaf_order codes) p q 0 (strict-ordered 0 (length codes)) less
      (omega (arith, length-leaf_order)) in
      record { low = grind (arith, nat_tests); tied = λ same. grind (arith, nat_tests) }

  -- a place in leaf order is a place of a number
  pub leaf_order-within : All (λ place. place < length codes) (leaf_order codes)
  leaf_order-within =
      All-permutation (λ place. place < length codes) (range_with_len 0 (length codes))
      (leaf_order codes) IsPermutation-leaf_order
      (λ i d within.
      let long = length-range_with_len 0 (length codes) in
      omega (arith, long, get_or-range_with_len 0 (length codes) i d (omega arith)))

  -- each place stands in leaf order once
  pub PermutesPlaces-leaf_order : PermutesPlaces (leaf_order codes)
  PermutesPlaces-leaf_order = record {
    within = λ i within. let low = leaf_order-within i 0 within in omega (arith, length-leaf_order);
    apart = λ i j within within' same. elim (cases_order i j) [
      | inl is ↦ is
      | inr other ↦ elim other [
        | inl less ↦
            let before = leaf_order-before i j less (omega (arith, length-leaf_order)) in
            absurd (let never = before.tied (ap (slice_index codes) same) in omega arith)
        | inr more ↦
            let before = leaf_order-before j i more (omega (arith, length-leaf_order)) in
            absurd (let never = before.tied (ap (slice_index codes) (sym same)) in omega arith)
      ]
    ];
  }

  -- the numbers in leaf order ascend
  pub IsSorted-leaf_codes : IsSorted nat_cmp (leaf_codes codes)
  IsSorted-leaf_codes i d low high =
      let before = leaf_order-before i (i + 1) (omega arith) (omega (arith, length-leaf_codes)) in
      let rises : slice_index (leaf_codes codes) i ≤ slice_index (leaf_codes codes) (i + 1) =
      omega (
        arith,
        before.low,
        leaf_codes-at i (omega (arith, length-leaf_codes)),
        leaf_codes-at (i + 1) (omega (arith, length-leaf_codes)),
      ) in
      let here = get_or_default (leaf_codes codes) i d 0 (omega arith) in
      let next = get_or_default (leaf_codes codes) (i + 1) d 0 high in
      grind (arith, nat_tests)

module _ (frame : Frame) (heads : List Head) where
  abbrev codes : List ℕ
  codes = codes_of_heads frame heads

  -- the leaves by object, and in leaf order
  abbrev pub leaves_from : List LeafView
  leaves_from = map (block_leaf frame heads) (range_with_len 0 (length heads))

  abbrev in_order : List LeafView
  in_order = map (block_leaf frame heads) (leaf_order codes)

  many : length codes ≡ length heads
  many = length-map heads (λ head. morton_of frame.height frame.base head.cell)

  -- the number of the leaf at a place
  pub code-at : (place : ℕ) → place < length heads → slice_index codes place ≡ (block_leaf frame heads place).code
  code-at place within = get_or-map (λ head. morton_of frame.height frame.base head.cell) heads place no_head 0 within

  -- in leaf order each number is below the next
  rising-leaves : length heads ≤ MAX_OBJECTS → IsStrictlySortedBy (on number_of nat_cmp) in_order
  rising-leaves few =
      sorted_from_all_adjacent (on_total number_of nat_cmp_total) in_order (block_leaf frame heads 0) (λ k within.
      let long = length-map (leaf_order codes) (block_leaf frame heads) in
      let inside : k + 1 < length codes = omega (arith, length-leaf_order codes) in
      let a : ℕ = slice_index (leaf_order codes) k in
      let b : ℕ = slice_index (leaf_order codes) (k + 1) in
      let before = leaf_order-before codes k (k + 1) (omega arith) inside in
      let low : a < length codes = leaf_order-within codes k 0 (omega (arith, length-leaf_order codes)) in
      let high : b < length codes = leaf_order-within codes (k + 1) 0 (omega (arith, length-leaf_order codes)) in
      let here = code-at a (omega (arith, many)) in
      let next = code-at b (omega (arith, many)) in
      let less : number_of (block_leaf frame heads a) < number_of (block_leaf frame heads b) =
      elim (cases_lt (slice_index codes a) (slice_index codes b)) [
        | inl lower ↦ omega (arith, many)
        | inr not ↦ let later : a < b = before.tied (omega (arith, before.low)) in omega (arith, before.low)
      ] in
      rw (
        get_or-map (block_leaf frame heads) (leaf_order codes) k 0 (block_leaf frame heads 0) (omega arith),
        get_or-map (block_leaf frame heads) (leaf_order codes) (k + 1) 0 (block_leaf frame heads 0) (omega arith),
      ) (grind (arith, nat_tests)))

  placed : IsPermutation leaves_from in_order
  placed =
      subst (λ n. IsPermutation (map (block_leaf frame heads) (range_with_len 0 n)) in_order) many
      (IsPermutation-map (block_leaf frame heads) (range_with_len 0 (length codes)) (leaf_order codes)
      (IsPermutation-leaf_order codes))

  -- leaves that are sorted by their numbers are those of the places in leaf order
  pub sorted_leaves : length heads ≤ MAX_OBJECTS → (sorted : List LeafView) → IsPermutation leaves_from sorted →
      IsSortedByKey number_of nat_cmp sorted → sorted ≡ in_order
  sorted_leaves few sorted moved up =
      same_from_sorted (on_total number_of nat_cmp_total) in_order sorted (rising-leaves few)
      (IsPermutation-trans in_order leaves_from sorted (IsPermutation-sym leaves_from in_order placed) moved) up

  -- so are as many of them, of which each has a greater number than the one before
  pub rising-order : length heads ≤ MAX_OBJECTS → (leaves : List LeafView) → All (Contains leaves_from) leaves →
      length leaves ≡ length leaves_from → IsStrictlySortedBy (on number_of nat_cmp) leaves → leaves ≡ in_order
  rising-order few leaves among same up =
      let o = on_total number_of nat_cmp_total in
      let moved =
      permutation_from_strict o leaves_from leaves up (recursion_from_All (Contains leaves_from) leaves among) same in
      ordered-permutation o leaves leaves_from up (IsPermutation-sym leaves_from leaves moved)
      ∙ sym (ordered-permutation o in_order leaves_from (rising-leaves few) (IsPermutation-sym leaves_from in_order placed))

  -- the places of leaves, and their numbers in leaf order
  pub places-leaves : (places : List ℕ) → map (λ leaf. leaf.place) (map (block_leaf frame heads) places) ≡ places
  places-leaves places = map-back (block_leaf frame heads) (λ leaf. leaf.place) places (λ k d within. refl)

  pub codes-leaves : map (λ leaf. leaf.code) in_order ≡ leaf_codes codes
  unfolding leaf_codes
  codes-leaves =
      map-map (λ (leaf : LeafView). leaf.code) (block_leaf frame heads) (leaf_order codes)
      ∙ map_alike (λ place. (block_leaf frame heads place).code) (slice_index codes) (leaf_order codes) (λ k d within.
      let low : get_or (leaf_order codes) k d < length codes = leaf_order-within codes k d within in
      sym (code-at (get_or (leaf_order codes) k d) (omega (arith, many))))

-- a period without a header has presence bits alone
pub period_with-none : (frame : Frame) (objects : ℕ) (heads : List Head) (lengths : List ℕ) → length heads ≡ 0 →
    length lengths ≡ length heads → without_blocks (presence_of objects heads) ≡ period_with frame objects heads lengths
unfolding leaf_order leaf_codes distinct_codes ends_of ordered
period_with-none frame objects [] [] none same = rw (morton_bits-none (widths_in frame)) refl
period_with-none frame objects [] (long ∷ lengths) none same = absurd (omega arith)
period_with-none frame objects (head ∷ heads) lengths none same = absurd (omega arith)
