-- The places of a leaf in leaf order: the first of them, and the one after another.
use Rattle.std.proofs.Common.{◌≡◌, ℕ, zero, suc, ◌+◌, ◌-◌, ◌<◌, ◌≤◌, Bool, true, false, List, [], ◌∷◌, length}
use Rattle.std.proofs.Common.{get_or, filter, refl, sym, ap, ◌∙◌, arith, cond, inl, inr}
use Rattle.std.specs.List.{range_with_len}
use Rattle.std.specs.Prelude.{◌==◌}
use Rattle.std.proofs.lemmas.Bool.{cases_lt, eq-eqb, ne_eqb}
use Rattle.std.proofs.lemmas.Option.{get_or_from_slice_get, slice_get_within}
use Rattle.packed_bits.specs.Bits.{ones_of}
use Rattle.bit_rank.specs.Bits.{rank_of, IsSelected}
use Rattle.bit_rank.proofs.RankLemmas.{rank_of-step, rank_of-le, rank_of-zero, lt-length-from_rank_of}

-- the places of a leaf among so many, from one on
abbrev kept_from : List Bool → ℕ → ℕ → ℕ → List ℕ
kept_from lasts leaf first count = filter (λ place. rank_of lasts place == leaf) (range_with_len first count)

-- places of earlier leaves are passed over
skipped : (lasts : List Bool) (leaf first k count : ℕ) → ((p : ℕ) → first ≤ p → p < first + k → rank_of lasts p < leaf)
    → kept_from lasts leaf first (k + count) ≡ kept_from lasts leaf (first + k) count
skipped lasts leaf first zero count early =
    let a : 0 + count ≡ count = omega arith in
    let b : first ≡ first + 0 = omega arith in
    ap (kept_from lasts leaf first) a ∙ ap (λ f. kept_from lasts leaf f count) b
skipped lasts leaf first (suc k) count early =
    let more : suc k + count ≡ suc (k + count) = omega arith in
    let low : rank_of lasts first < leaf = early first (omega arith) (omega arith) in
    let off : (rank_of lasts first == leaf) ≡ false = ne_eqb (rank_of lasts first) leaf (λ e. omega arith) in
    let next : first + 1 + k ≡ first + suc k = omega arith in
    let rest = skipped lasts leaf (first + 1) k count (λ p from to. early p (omega arith) (omega arith)) in
    ap (kept_from lasts leaf first) more ∙ (rw off (rest ∙ ap (λ f. kept_from lasts leaf f count) next))

-- after the last place of a leaf there is none
none_behind : (lasts : List Bool) (leaf first count : ℕ) → ((p : ℕ) → first ≤ p → leaf < rank_of lasts p)
    → kept_from lasts leaf first count ≡ []
none_behind lasts leaf first zero late = refl
none_behind lasts leaf first (suc count) late =
    let high : leaf < rank_of lasts first = late first (omega arith) in
    let off : (rank_of lasts first == leaf) ≡ false = ne_eqb (rank_of lasts first) leaf (λ e. omega arith) in
    rw off (none_behind lasts leaf (first + 1) count (λ p from. late p (omega arith)))

-- the place after the last one of the leaf before
pub record IsFirst (lasts : List Bool) (leaf first : ℕ) : Type 0 where
  pub within : first < length lasts
  pub here : rank_of lasts first ≡ leaf
  pub places : kept_from lasts leaf 0 (length lasts) ≡ kept_from lasts leaf first (length lasts - first)

pub first_zero : (lasts : List Bool) → 0 < ones_of lasts → IsFirst lasts 0 0
first_zero lasts some =
    let zero : rank_of lasts 0 ≡ 0 = rank_of-zero lasts in
    let all : length lasts ≡ length lasts - 0 = omega arith in
    record {
      within = lt-length-from_rank_of lasts 0 (omega arith);
      here = zero;
      places = ap (kept_from lasts 0 0) all;
    }

pub first_behind : (lasts : List Bool) (leaf place : ℕ) → leaf < ones_of lasts → IsSelected lasts leaf place
    → IsFirst lasts leaf (place + 1)
first_behind lasts leaf place some selected =
    let inside : place < length lasts = slice_get_within lasts place true selected.one in
    let on : get_or lasts place false ≡ true = get_or_from_slice_get lasts place true false selected.one in
    let step = rank_of-step lasts place inside ∙ ap (λ b. rank_of lasts place + cond b 1 0) on in
    let here : rank_of lasts (place + 1) ≡ leaf = omega (arith, selected.rank) in
    let within : place + 1 < length lasts = lt-length-from_rank_of lasts (place + 1) (omega arith) in
    let parted : length lasts ≡ place + 1 + (length lasts - (place + 1)) = omega arith in
    let from : 0 + (place + 1) ≡ place + 1 = omega arith in
    record {
      within = within;
      here = here;
      places = ap (kept_from lasts leaf 0) parted
          ∙ skipped lasts leaf 0 (place + 1) (length lasts - (place + 1))
          (λ p low high. let le = rank_of-le lasts p place (omega arith) in omega (arith, selected.rank))
          ∙ ap (λ f. kept_from lasts leaf f (length lasts - (place + 1))) from;
    }

-- a place, and what is after it
pub place_first : (lasts : List Bool) (place : ℕ) → place < length lasts
    → kept_from lasts (rank_of lasts place) place (length lasts - place)
    ≡ place ∷ kept_from lasts (rank_of lasts place) (place + 1) (length lasts - (place + 1))
place_first lasts place within =
    let more : length lasts - place ≡ suc (length lasts - (place + 1)) = omega arith in
    let on : (rank_of lasts place == rank_of lasts place) ≡ true =
    eq-eqb (rank_of lasts place) (rank_of lasts place) refl in
    ap (kept_from lasts (rank_of lasts place) place) more ∙ (rw on refl)

-- after the last object of a cell the leaf has no place
pub last_ends : (lasts : List Bool) (place : ℕ) → place < length lasts → get_or lasts place false ≡ true
    → kept_from lasts (rank_of lasts place) (place + 1) (length lasts - (place + 1)) ≡ []
last_ends lasts place within last =
    let step = rank_of-step lasts place within ∙ ap (λ b. rank_of lasts place + cond b 1 0) last in
    none_behind lasts (rank_of lasts place) (place + 1) (length lasts - (place + 1))
    (λ p from. let le = rank_of-le lasts (place + 1) p from in omega arith)

-- after another object the leaf goes on
pub goes_on : (lasts : List Bool) (place : ℕ) → place < length lasts → get_or lasts place false ≡ false
    → get_or lasts (length lasts - 1) false ≡ true
    → (place + 1 < length lasts) × (rank_of lasts (place + 1) ≡ rank_of lasts place)
goes_on lasts place within other last =
    let step = rank_of-step lasts place within ∙ ap (λ b. rank_of lasts place + cond b 1 0) other in
    (more (place + 1) refl, omega arith)
  where
    more : (next : ℕ) → next ≡ place + 1 → place + 1 < length lasts
    more next e = elim (cases_lt (place + 1) (length lasts)) [
      | inl less ↦ less
      | inr end ↦
          let here : place ≡ length lasts - 1 = omega arith in
          let clash : false ≡ true = sym other ∙ ap (λ p. get_or lasts p false) here ∙ last in absurd (cc)
    ]
