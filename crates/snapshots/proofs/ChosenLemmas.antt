-- Numbers of a range that pass a test, and what is made of each.
use Rattle.std.proofs.Common.{◌≡◌, ℕ, zero, suc, ◌+◌, ◌<◌, ◌≤◌, Bool, true, false, map, filter, refl, sym}
use Rattle.std.proofs.Common.{ap, ◌∙◌, arith, inl, inr}
use Rattle.std.specs.List.{range_with_len}
use Rattle.std.specs.Prelude.{◌==◌, ◌||◌}
use Rattle.std.proofs.lemmas.Bool.{cases_Bool, cases_order, eqb-true, or_cases}
use Rattle.k2_tree.specs.TreeBits.{is_in, Rises}
use Rattle.k2_tree.proofs.RisingLemmas.{is_in-first}

-- what is made rises where each is greater than the one before
pub Rises-made : (k : ℕ → ℕ) (test : ℕ → Bool) (first count low : ℕ)
    → ((p : ℕ) → first ≤ p → p < first + count → test p ≡ true → low ≤ k p)
    → ((p q : ℕ) → p < q → q < first + count → test p ≡ true → test q ≡ true → k p < k q)
    → Rises low (map k (filter test (range_with_len first count)))
Rises-made k test first zero low above grows = tt
Rises-made k test first (suc count) low above grows = elim (cases_Bool (test first)) [
  | inl on ↦
      let rest = Rises-made k test (first + 1) count (suc (k first))
      (λ p from to is. let more = grows first p (omega arith) (omega arith) on is in omega arith)
      (λ p q less to. grows p q less (omega arith)) in
      rw on (above first (omega arith) (omega arith) on, rest)
  | inr off ↦ rw off
      (Rises-made k test (first + 1) count low (λ p from to. above p (omega arith) (omega arith))
      (λ p q less to. grows p q less (omega arith)))
]

-- a number of the range that passes, and of which c is made
pub record IsMade (k : ℕ → ℕ) (test : ℕ → Bool) (first count c : ℕ) : Type 0 where
  pub place : ℕ
  pub from : first ≤ place
  pub to : place < first + count
  pub passes : test place ≡ true
  pub stands : k place ≡ c

-- one of them is made of such a number
pub IsMade-from_in : (k : ℕ → ℕ) (test : ℕ → Bool) (first count c : ℕ)
    → is_in (map k (filter test (range_with_len first count))) c ≡ true → IsMade k test first count c
IsMade-from_in k test first zero c is = let clash : false ≡ true = is in absurd (cc)
IsMade-from_in k test first (suc count) c is = elim (cases_Bool (test first)) [
  | inl on ↦
      let parts : (k first == c || is_in (map k (filter test (range_with_len (first + 1) count))) c) ≡ true =
      rw on at is in
      elim (or_cases _ _ parts) [
        | inl here ↦ record {
          place = first;
          from = omega arith;
          to = omega arith;
          passes = on;
          stands = eqb-true (k first) c here;
        }
        | inr later ↦ wider k test first count c (IsMade-from_in k test (first + 1) count c later)
      ]
  | inr off ↦
      let later : is_in (map k (filter test (range_with_len (first + 1) count))) c ≡ true = rw off at is in
      wider k test first count c (IsMade-from_in k test (first + 1) count c later)
]
  where
    wider : (k : ℕ → ℕ) (test : ℕ → Bool) (first count c : ℕ) → IsMade k test (first + 1) count c
        → IsMade k test first (suc count) c
    wider k test first count c made = record {
      place = made.place;
      from = omega (arith, made.from);
      to = omega (arith, made.to);
      passes = made.passes;
      stands = made.stands;
    }

-- and each such number makes one
pub in-from_made : (k : ℕ → ℕ) (test : ℕ → Bool) (first count place : ℕ) → first ≤ place → place < first + count
    → test place ≡ true → is_in (map k (filter test (range_with_len first count))) (k place) ≡ true
in-from_made k test first zero place from to passes = absurd (omega arith)
in-from_made k test first (suc count) place from to passes = elim (cases_order first place) [
  | inl same ↦
      let on : test first ≡ true = ap test same ∙ passes in
      let begun = is_in-first (k first) (map k (filter test (range_with_len (first + 1) count))) in
      let here : is_in (map k (filter test (range_with_len first (suc count)))) (k first) ≡ true = rw on begun in
      ap (λ p. is_in (map k (filter test (range_with_len first (suc count)))) (k p)) (sym same) ∙ here
  | inr apart ↦ elim apart [
    | inl later ↦
        let rest = in-from_made k test (first + 1) count place (omega arith) (omega arith) passes in
        elim (cases_Bool (test first)) [
          | inl on ↦ rw on (or_right (k first == k place) rest)
          | inr off ↦ rw off rest
        ]
    | inr earlier ↦ absurd (omega arith)
  ]
]
  where
    or_right : (b : Bool) {r : Bool} → r ≡ true → (b || r) ≡ true
    or_right true e = refl
    or_right false e = e
