-- Counts of pairs: one more, and the pair that a step counts.
use Rattle.std.proofs.Common.{◌≡◌, ℕ, ◌+◌, true, cond, Option, None, Some, unwrap_or, refl, arith}
use Rattle.std.proofs.lemmas.Bool.{and_from, eq-eqb}
use Rattle.std.proofs.lemmas.Bool.Decides.{nat_tests}
use Rattle.repair_grammar.specs.RePair.{is_pair}
use Rattle.repair_grammar.specs.Kept.{times_of}
use Rattle.repair_grammar.proofs.PassLemmas.{whole_pair}

-- a pair is met where its own symbols stand
pub own_pair : (x y : ℕ) → is_pair (x, y) x y ≡ true
own_pair x y = and_from _ _ (eq-eqb x x refl) (eq-eqb y y refl)

-- one count is raised by one, and no other
pub raised : (old new : ℕ × ℕ → Option ℕ) (pair other : ℕ × ℕ) (n : ℕ) → n ≡ unwrap_or (old pair) 0 →
    new other ≡ cond (is_pair other pair.0 pair.1) (Some (n + 1)) (old other) →
    unwrap_or (new other) 0 ≡ unwrap_or (old other) 0 + cond (is_pair other pair.0 pair.1) 1 0
raised old new pair other n was now = grind (arith, nat_tests, whole_pair, unwrap_or)

-- the pair that a step counts
pub times_of-some : (other pair : ℕ × ℕ) → times_of (Some other) pair ≡ cond (is_pair pair other.0 other.1) 1 0
unfolding times_of
times_of-some other pair = refl

pub times_of-own : (pair : ℕ × ℕ) → times_of (Some pair) pair ≡ 1
times_of-own pair = rw (times_of-some pair pair, own_pair pair.0 pair.1) refl

pub times_of-none : (pair : ℕ × ℕ) → times_of None pair ≡ 0
unfolding times_of
times_of-none pair = refl
