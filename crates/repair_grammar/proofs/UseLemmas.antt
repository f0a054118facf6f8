-- Which symbols are used after a pass: those that were, or are now parts, and the new one.
use Rattle.std.proofs.Common.{◌≡◌, ◌⊎◌, ℕ, ◌<◌, ◌==◌, Bool, true, List, [], ◌∷◌, map, refl, sym, ◌∙◌, arith, inl, inr}
use Rattle.std.specs.List.{sum_by, list_any}
use Rattle.std.proofs.lemmas.Bool.{cases_Bool, cases_lt, or_cases, or_left, or_right, eqb-true, eq-eqb}
use Rattle.std.proofs.lemmas.List.Sums.{sum_by-cons}
use Rattle.repair_grammar.specs.RePair.{is_pair, replacement_count, block_after_pass}
use Rattle.repair_grammar.proofs.PassLemmas.{left_of_pair, right_of_pair}

-- whether a symbol stands in a block
abbrev pub has : ℕ → List ℕ → Bool
has symbol block = list_any (λ other. other == symbol) block

module _ (pair : ℕ × ℕ) (symbol : ℕ) where
  -- a symbol of a block stands there after the pass, or is a part of the pair
  pub has-block_after_pass : (other : ℕ) (block : List ℕ) → has other block ≡ true →
      (has other (block_after_pass pair symbol block) ≡ true) ⊎ ((pair.0 ≡ other) ⊎ (pair.1 ≡ other))
  unfolding block_after_pass
  has-block_after_pass other [] stands = absurd (cc)
  has-block_after_pass other (x ∷ []) stands = inl stands
  has-block_after_pass other (x ∷ y ∷ rest) stands = elim (cases_Bool (is_pair pair x y)) [
    | inl is ↦ elim (or_cases (x == other) (has other (y ∷ rest)) stands) [
      | inl left ↦ inr (inl (sym (left_of_pair pair x y is) ∙ eqb-true x other left))
      | inr later ↦ elim (or_cases (y == other) (has other rest) later) [
        | inl right ↦ inr (inr (sym (right_of_pair pair x y is) ∙ eqb-true y other right))
        | inr behind ↦ elim (has-block_after_pass other rest behind) [
          | inl still ↦ inl (rw is (or_right (symbol == other) (has other (block_after_pass pair symbol rest)) still))
          | inr part ↦ inr part
        ]
      ]
    ]
    | inr apart ↦ elim (or_cases (x == other) (has other (y ∷ rest)) stands) [
      | inl left ↦ inl (rw apart (or_left (x == other) (has other (block_after_pass pair symbol (y ∷ rest))) left))
      | inr later ↦ elim (has-block_after_pass other (y ∷ rest) later) [
        | inl still ↦ inl (rw apart (or_right (x == other) (has other (block_after_pass pair symbol (y ∷ rest))) still))
        | inr part ↦ inr part
      ]
    ]
  ]

  pub any_has-block_after_pass : (other : ℕ) (blocks : List (List ℕ)) → list_any (has other) blocks ≡ true →
      (list_any (has other) (map (block_after_pass pair symbol) blocks) ≡ true) ⊎ ((pair.0 ≡ other) ⊎ (pair.1 ≡ other))
  any_has-block_after_pass other [] stands = absurd (cc)
  any_has-block_after_pass other (block ∷ blocks) stands =
      elim (or_cases (has other block) (list_any (has other) blocks) stands) [
        | inl here ↦ elim (has-block_after_pass other block here) [
          | inl still ↦ inl (or_left (has other (block_after_pass pair symbol block)) _ still)
          | inr part ↦ inr part
        ]
        | inr later ↦ elim (any_has-block_after_pass other blocks later) [
          | inl still ↦ inl (or_right (has other (block_after_pass pair symbol block)) _ still)
          | inr part ↦ inr part
        ]
      ]

  -- the new symbol stands where the pair was met
  has_new : (block : List ℕ) → 0 < replacement_count pair block → has symbol (block_after_pass pair symbol block) ≡ true
  unfolding block_after_pass replacement_count
  has_new [] some = absurd (omega arith)
  has_new (x ∷ []) some = absurd (omega arith)
  has_new (x ∷ y ∷ rest) some = elim (cases_Bool (is_pair pair x y)) [
    | inl is ↦ rw is (or_left (symbol == symbol) (has symbol (block_after_pass pair symbol rest)) (eq-eqb symbol symbol refl))
    | inr apart ↦ rw apart (or_right (x == symbol) (has symbol (block_after_pass pair symbol (y ∷ rest)))
        (has_new (y ∷ rest) (rw apart at some)))
  ]

  pub any_has_new : (blocks : List (List ℕ)) → 0 < sum_by (replacement_count pair) blocks →
      list_any (has symbol) (map (block_after_pass pair symbol) blocks) ≡ true
  any_has_new [] some = absurd (omega arith)
  any_has_new (block ∷ blocks) some = elim (cases_lt 0 (replacement_count pair block)) [
    | inl here ↦ or_left (has symbol (block_after_pass pair symbol block)) _ (has_new block here)
    | inr none ↦ or_right (has symbol (block_after_pass pair symbol block)) _
        (any_has_new blocks (omega (arith, sum_by-cons (replacement_count pair) block blocks)))
  ]
