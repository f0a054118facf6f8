-- A pass adds to no pair of older symbols.
use Rattle.std.proofs.Common.{◌≡◌, ℕ, ◌<◌, ◌≤◌, false, List, [], ◌∷◌, map, refl, arith, inl, inr}
use Rattle.std.proofs.lemmas.Bool.{cases_Bool}
use Rattle.std.proofs.lemmas.List.Sums.{sum_by-cons}
use Rattle.std.proofs.lemmas.Bool.Decides.{nat_tests}
use Rattle.repair_grammar.specs.RePair.{is_pair, replacement_count, block_after_pass, pair_count}
use Rattle.repair_grammar.proofs.PassLemmas.{replacement_count-step}

-- a pair of older symbols and the new one
module _ (pair : ℕ × ℕ) (symbol : ℕ) (left : pair.0 < symbol) (right : pair.1 < symbol) where
  apart_new : (x : ℕ) → is_pair pair x symbol ≡ false
  apart_new x = grind (arith, nat_tests)

  apart_after : (x : ℕ) → is_pair pair symbol x ≡ false
  apart_after x = grind (arith, nat_tests)

  met_new : (rest : List ℕ) → replacement_count pair (symbol ∷ rest) ≡ replacement_count pair rest
  unfolding replacement_count
  met_new [] = refl
  met_new (x ∷ rest) = rw (apart_after x) refl

-- the pass adds to no pair of older symbols
module _ (pair : ℕ × ℕ) (symbol : ℕ) (other : ℕ × ℕ) (left : other.0 < symbol) (right : other.1 < symbol) where
  before_passed : (x y : ℕ) (rest : List ℕ) →
      replacement_count other (block_after_pass pair symbol (y ∷ rest)) ≤ replacement_count other (y ∷ rest) →
      replacement_count other (block_after_pass pair symbol rest) ≤ replacement_count other rest →
      replacement_count other (x ∷ block_after_pass pair symbol (y ∷ rest)) ≤ replacement_count other (x ∷ y ∷ rest)
  unfolding replacement_count block_after_pass
  before_passed x y [] one two = omega arith
  before_passed x y (z ∷ rest) one two = grind (arith, nat_tests, apart_new, replacement_count-step)

  pub replacement_count-block_after_pass-le : (block : List ℕ) → replacement_count other (block_after_pass pair symbol block) ≤ replacement_count other block
  unfolding replacement_count block_after_pass
  replacement_count-block_after_pass-le [] = omega arith
  replacement_count-block_after_pass-le (x ∷ []) = omega arith
  replacement_count-block_after_pass-le (x ∷ y ∷ rest) = elim (cases_Bool (is_pair pair x y)) [
    | inl is ↦ rw is (omega (
      arith,
      met_new other symbol left right (block_after_pass pair symbol rest),
      replacement_count-block_after_pass-le rest,
      (replacement_count-step other y rest).0,
      (replacement_count-step other x (y ∷ rest)).0,
    ))
    | inr apart ↦ rw apart (before_passed x y rest (replacement_count-block_after_pass-le (y ∷ rest)) (replacement_count-block_after_pass-le rest))
  ]

  -- so it counts no more in all blocks
  pub counts-block_after_pass-le : (blocks : List (List ℕ)) →
      pair_count (map (block_after_pass pair symbol) blocks) other ≤ pair_count blocks other
  unfolding pair_count
  counts-block_after_pass-le [] = omega arith
  counts-block_after_pass-le (block ∷ blocks) =
      grind (arith, nat_tests, counts-block_after_pass-le blocks, replacement_count-block_after_pass-le, sum_by-cons)
