-- How many bits a symbol takes, as a loop finds it.
use Rattle.std.proofs.Common.{◌≡◌, ℕ, zero, suc, not, ◌+◌, ◌^◌, ◌<◌, ◌≤◌, ap, arith}
use Rattle.std.specs.Prelude.{nat_le}
use Rattle.std.specs.List.{position_or_len, range_with_len}
use Rattle.std.proofs.lemmas.Bool.Decides.{nat_tests}
use Rattle.std.proofs.lemmas.List.FromFn.{get_or-range_with_len, length-range_with_len}
use Rattle.std.proofs.lemmas.List.Sums.{position_or_len_is, prefix_len-le-length}
use Rattle.list_laws.proofs.NumberLemmas.{least_power}
use Rattle.track_types.specs.PartsForm.{width_for}

-- a symbol takes few bits, however many there are
pub width_for-narrow : (symbols : ℕ) → width_for symbols ≤ 27
unfolding width_for
width_for-narrow symbols =
    omega (
      arith,
      prefix_len-le-length (λ width. not (nat_le symbols (2 ^ width))) (range_with_len 1 26),
      length-range_with_len 1 26,
    )

-- as many symbols as an index may have take at most 26 bits, which are enough to tell them apart
pub width_for-few : (symbols : ℕ) → symbols ≤ 2 ^ 26 → (width_for symbols ≤ 26) × (symbols ≤ 2 ^ width_for symbols)
unfolding width_for
width_for-few symbols few = least_power 26 symbols (omega arith) few

-- the first width that is enough, where no lower one is
pub width_for-first : (symbols width : ℕ) → 1 ≤ width → width ≤ 26
    → ((k : ℕ) → 1 ≤ k → k < width → 2 ^ k < symbols) → symbols ≤ 2 ^ width → width_for symbols ≡ width
unfolding width_for
width_for-first symbols zero some low narrow enough = absurd (omega arith)
width_for-first symbols (suc k) some low narrow enough = ap suc (first 26 low)
  where
    first : (n : ℕ) → suc k ≤ n → position_or_len (λ width. nat_le symbols (2 ^ width)) (range_with_len 1 n) ≡ k
    first n within =
        position_or_len_is (λ width. nat_le symbols (2 ^ width)) (range_with_len 1 n) k 0
        (omega (arith, length-range_with_len 1 n))
        (λ j below. let less : 2 ^ (1 + j) < symbols = narrow (1 + j) (omega arith) (omega arith) in
        rw (get_or-range_with_len 1 n j 0 (omega arith)) (grind (arith, nat_tests, less)))
        (λ inside. rw (get_or-range_with_len 1 n k 0 (omega arith)) (grind (arith, nat_tests, enough)))
