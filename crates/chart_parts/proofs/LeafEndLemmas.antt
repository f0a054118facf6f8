-- The ends of equal numbers that stand together: there are as many as distinct numbers, and the ends before a place
-- tell which of these stands there.
use Rattle.std.proofs.Common.{◌≡◌, ℕ, zero, suc, ◌+◌, List, [], ◌∷◌, length, map, add-one, refl, sym, ◌∙◌, ap, arith, ◌-◌, ◌<◌, ◌==◌, true, false, inl, inr, Bool, cond, Some}
use Rattle.std.specs.Prelude.{not, slice_index, All, slice_get, slice_index_or}
use Rattle.std.specs.List.{range_with_len, dedup, dedup_from}
use Rattle.std.proofs.lemmas.Bool.Decides.{nat_tests}
use Rattle.std.proofs.lemmas.Bool.{eq-eqb, ne_eqb}
use Rattle.std.proofs.lemmas.List.Elements.{All-map, All-weaker}
use Rattle.std.proofs.lemmas.List.Filters.{All-dedup}
use Rattle.std.proofs.lemmas.Map.Keys.{IsStrictlyIncreasing-dedup}
use Rattle.std.proofs.lemmas.Option.{get_or_from_slice_get}
use Rattle.packed_bits.specs.Bits.{ones_of}
use Rattle.bit_rank.specs.Bits.{rank_of}
use Rattle.bit_rank.proofs.RankLemmas.{ones_of-cons, ones_of-nil, rank_of-all, rank_of-cons, rank_of-le, rank_of-step, rank_of-zero}
use Rattle.k2_tree.specs.TreeBits.{Rises}
use Rattle.k2_tree.proofs.PrefixLemmas.{by_test}
use Rattle.k2_tree.proofs.RisingLemmas.{rises}
use Rattle.chart_parts.specs.LeafOrder.{ends_of, distinct_codes, leaf_codes, leaf_order}
use Rattle.chart_parts.specs.PeriodWith.{is_end}
use Rattle.chart_parts.proofs.LeafOrderLemmas.{IsSorted-leaf_codes, leaf_codes-at, leaf_order-within, length-leaf_codes}

is_end-suc : (code : ℕ) (codes : List ℕ) (place : ℕ) → is_end (code ∷ codes) (place + 1) ≡ is_end codes place
is_end-suc code codes place =
    let next : place + 1 + 1 ≡ suc (place + 1) = omega arith in
    let there : slice_index (code ∷ codes) (place + 1 + 1) ≡ slice_index codes (place + 1) = rw next refl in
    grind (arith, nat_tests, add-one place, there)

is_end-later : (code : ℕ) (codes : List ℕ) (from n : ℕ) →
    map (is_end (code ∷ codes)) (range_with_len (from + 1) n) ≡ map (is_end codes) (range_with_len from n)
is_end-later code codes from zero = refl
is_end-later code codes from (suc n) =
    rw (is_end-suc code codes from) (ap (λ bits. is_end codes from ∷ bits) (is_end-later code codes (from + 1) n))

first_end : (code next : ℕ) (codes : List ℕ) → is_end (code ∷ next ∷ codes) 0 ≡ not (code == next)
first_end code next codes = grind (arith, nat_tests)

-- the ends are the places after which no number is the same
pub ends_of-map : (codes : List ℕ) → ends_of codes ≡ map (is_end codes) (range_with_len 0 (length codes))
unfolding ends_of
ends_of-map [] = refl
ends_of-map (code ∷ []) = refl
ends_of-map (code ∷ next ∷ codes) =
    rw (first_end code next codes)
    (ap (λ bits. not (code == next) ∷ bits)
    (ends_of-map (next ∷ codes) ∙ sym (is_end-later code (next ∷ codes) 0 (length (next ∷ codes)))))

-- numbers without those that are the same as the one before
abbrev once : List ℕ → List ℕ
once = dedup (λ a b. a == b)

-- each number has its bit
pub length-ends_of : (codes : List ℕ) → length (ends_of codes) ≡ length codes
unfolding ends_of
length-ends_of [] = refl
length-ends_of (code ∷ []) = refl
length-ends_of (code ∷ next ∷ codes) = ap suc (length-ends_of (next ∷ codes))

-- there are as many ends as numbers, where those that stand together count once
pub ones_of-ends_of : (codes : List ℕ) → ones_of (ends_of codes) ≡ length (once codes)
unfolding ends_of
ones_of-ends_of [] = ones_of-nil
ones_of-ends_of (code ∷ []) = omega (arith, ones_of-cons true [], ones_of-nil)
ones_of-ends_of (code ∷ next ∷ codes) =
    grind (arith, nat_tests, ones_of-ends_of (next ∷ codes), ones_of-cons (not (code == next)) (ends_of (next ∷ codes)))

-- the last number is an end
pub ends_of-last : (codes : List ℕ) → 0 < length (ends_of codes) →
    slice_get (ends_of codes) (length (ends_of codes) - 1) ≡ Some true
unfolding ends_of
ends_of-last [] some = absurd (omega arith)
ends_of-last (code ∷ []) some = refl
ends_of-last (code ∷ next ∷ codes) some =
    let long = length-ends_of (next ∷ codes) in
    let back : length (ends_of (code ∷ next ∷ codes)) - 1 ≡ suc (length (ends_of (next ∷ codes)) - 1) = omega arith in
    rw back (ends_of-last (next ∷ codes) (omega arith))

-- a number is the one that as many ends are before as before it
pub once-at_rank : (codes : List ℕ) (p : ℕ) → p < length codes →
    slice_index (once codes) (rank_of (ends_of codes) p) ≡ slice_index codes p
unfolding ends_of
once-at_rank [] p within = absurd (omega arith)
once-at_rank (code ∷ []) (suc p) within = absurd (omega arith)
once-at_rank (code ∷ []) zero within = rw (rank_of-zero (true ∷ [])) refl
once-at_rank (code ∷ next ∷ codes) zero within =
    let first = once-at_rank (next ∷ codes) 0 (omega arith) in
    let none = rank_of-zero (ends_of (next ∷ codes)) in
    grind (arith, nat_tests, first, rank_of-zero (not (code == next) ∷ ends_of (next ∷ codes)), none)
once-at_rank (code ∷ next ∷ codes) (suc p) within =
    let rest = once-at_rank (next ∷ codes) p (omega arith) in
    let before : ℕ = rank_of (ends_of (next ∷ codes)) p in
    rw (rank_of-cons (not (code == next)) (ends_of (next ∷ codes)) p) (elim (by_test next code) [
      | inl same ↦
          let alike : (code == next) ≡ true = eq-eqb code next (sym same.0) in
          let list = ap (λ c. slice_index (dedup_from (λ a b. a == b) c codes) before) same.0 in
          let none : 0 + before ≡ before = omega arith in
          rw (same.1, alike, none) (sym list ∙ rest)
      | inr differ ↦
          let apart : (code == next) ≡ false = ne_eqb code next (λ e. differ.0 (sym e)) in
          let one : 1 + before ≡ suc before = omega arith in
          rw (differ.1, apart, one) rest
    ])

-- before a bit stand fewer ones than there are, where the last bit is one
rank_of-lt : (lasts : List Bool) (p : ℕ) → p < length lasts → slice_get lasts (length lasts - 1) ≡ Some true →
    rank_of lasts p < ones_of lasts
rank_of-lt lasts p within last =
    let q : ℕ = length lasts - 1 in
    let on : slice_index_or lasts q false ≡ true = get_or_from_slice_get lasts q true false last in
    let step = rank_of-step lasts q (omega arith) ∙ ap (λ b. rank_of lasts q + cond b 1 0) on in
    let all = rank_of-all lasts (q + 1) (omega arith) in
    omega (arith, rank_of-le lasts p q (omega arith))

module _ (codes : List ℕ) where
  -- the distinct numbers rise
  pub Rises-distinct_codes : Rises 0 (distinct_codes codes)
  unfolding distinct_codes
  Rises-distinct_codes =
      rises (distinct_codes codes) (IsStrictlyIncreasing-dedup (leaf_codes codes) (IsSorted-leaf_codes codes))

  -- there is an end for each of them
  pub ones_of-leaf_ends : ones_of (ends_of (leaf_codes codes)) ≡ length (distinct_codes codes)
  unfolding distinct_codes
  ones_of-leaf_ends = ones_of-ends_of (leaf_codes codes)

  -- the number at a place in leaf order is that of its leaf
  pub distinct_codes-at_rank : (p : ℕ) → p < length codes →
      slice_index (distinct_codes codes) (rank_of (ends_of (leaf_codes codes)) p)
      ≡ slice_index codes (slice_index (leaf_order codes) p)
  unfolding distinct_codes
  distinct_codes-at_rank p within =
      once-at_rank (leaf_codes codes) p (omega (arith, length-leaf_codes codes)) ∙ leaf_codes-at codes p within

  -- a place in leaf order has one of the leaves
  pub rank_of-leaf_ends : (p : ℕ) → p < length codes →
      rank_of (ends_of (leaf_codes codes)) p < length (distinct_codes codes)
  rank_of-leaf_ends p within =
      let long = length-ends_of (leaf_codes codes) in
      let all = length-leaf_codes codes in
      let last = ends_of-last (leaf_codes codes) (omega arith) in
      omega (arith, rank_of-lt (ends_of (leaf_codes codes)) p (omega arith) last, ones_of-leaf_ends)

  -- what holds of each number holds of each distinct one
  pub All-distinct_codes : (P : ℕ → Type 0) → All P codes → All P (distinct_codes codes)
  unfolding distinct_codes leaf_codes
  All-distinct_codes P each =
      All-dedup (λ a b. a == b) P (leaf_codes codes) (All-map P (slice_index codes) (leaf_order codes)
      (All-weaker (λ place. place < length codes) (λ place. P (slice_index codes place))
      (λ place within. each place 0 within) (leaf_order codes) (leaf_order-within codes)))
