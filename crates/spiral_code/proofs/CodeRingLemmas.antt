-- Where rings begin, and the ring of a code: the rings follow one another without a gap.
use Rattle.std.proofs.Common.{◌≡◌, ℕ, zero, suc, ◌+◌, ◌-◌, ◌*◌, ◌/◌, ◌<◌, ◌≤◌, Bool, nat_lt, ◌↔◌, length, refl, ap, ◌∙◌, inl, inr, mul-le-mul, zero-add, le-ltb, lt-ltb, arith}
use Rattle.std.specs.List.{range_with_len}
use Rattle.std.proofs.lemmas.Bool.{cases_lt}
use Rattle.std.proofs.lemmas.List.FromFn.{length-range_with_len, get_or-range_with_len}
use Rattle.std.proofs.lemmas.List.Sums.{position_or_len_is}
use Rattle.spiral_code.specs.Spiral.{ring_moves, square, first_code, ring_of_code}
use Rattle.spiral_code.proofs.RingLemmas.{length-ring_moves}

-- each ring begins where the one before it ends
pub first_code-suc : (r : ℕ) → first_code (suc r) ≡ first_code r + length (ring_moves r)
unfolding ring_moves
first_code-suc zero = refl
first_code-suc (suc n) =
    let here : 2 * suc n - 1 ≡ 2 * n + 1 = omega arith in
    let next : 2 * suc (suc n) - 1 ≡ 2 * n + 3 = omega arith in
    rw (here, next) (omega (arith, length-ring_moves (suc n) (omega arith)))

-- ring r ends before the square of 2r + 1
pub first_code-next : (r : ℕ) → first_code (suc r) ≡ square (2 * r + 1)
first_code-next r =
    let e : 2 * suc r - 1 ≡ 2 * r + 1 = omega arith in
    rw e refl

-- a later ring begins at no smaller code
pub first_code-le : (r s : ℕ) → r ≤ s → first_code r ≤ first_code s
first_code-le r s le = mul-le-mul (omega arith) (omega arith)

-- a ring's number is at most its first code
ring_le_first_code : (r : ℕ) → r ≤ first_code r
ring_le_first_code zero = omega arith
ring_le_first_code (suc n) =
    let e : 2 * suc n - 1 ≡ 2 * n + 1 = omega arith in
    rw e (omega arith)

-- a code's ring is the one among whose codes it is
pub ring_of_code-on : (code r : ℕ) → first_code r ≤ code → code < first_code (suc r) → ring_of_code code ≡ r
unfolding ring_of_code
ring_of_code-on code r low high =
    let begins_above : ℕ → Bool = λ k. nat_lt code (first_code (suc k)) in
    let rings = range_with_len 0 (suc code) in
    let within : r < suc code = omega (arith, ring_le_first_code r) in
    let ring_at = λ (k : ℕ) (below : k < suc code). get_or-range_with_len 0 (suc code) k 0 below ∙ zero-add k in
    let begun = λ (k : ℕ) (before : k < r). first_code-le (suc k) r before in
    position_or_len_is begins_above rings r 0 (omega (arith, length-range_with_len 0 (suc code)))
    (λ k before.
    ap begins_above (ring_at k (omega arith)) ∙ le-ltb code (first_code (suc k)) (omega (arith, begun k before)))
    (λ _. ap begins_above (ring_at r within) ∙ lt-ltb code (first_code (suc r)) high)

pub ring_of_code-zero : ring_of_code 0 ≡ 0
unfolding ring_of_code
ring_of_code-zero = refl

-- each code is among the codes of some ring
pub ring_round : (code : ℕ) → (r : ℕ) × (first_code r ≤ code) × (code < first_code (suc r))
ring_round zero = (0, omega arith, omega arith)
ring_round (suc code) =
    let before = ring_round code in
    let r = before.0 in
    elim (cases_lt (suc code) (first_code (suc r))) [
      | inl same ↦ (r, omega (arith, before.1), same)
      | inr next ↦ (suc r, next, omega (arith, before.2, first_code-next r, first_code-next (suc r)))
    ]

-- the ring of a code, by its whole square root
pub ring_of_code-root : (code root : ℕ) → root * root ≤ code → code < (root + 1) * (root + 1) →
    ring_of_code code ≡ (root + 1) / 2
ring_of_code-root code root low high =
    let r = (root + 1) / 2 in
    let begins : first_code r ≤ root * root = mul-le-mul (omega arith) (omega arith) in
    let ends : (root + 1) * (root + 1) ≤ first_code (suc r) = mul-le-mul (omega arith) (omega arith) in
    ring_of_code-on code r (omega arith) (omega arith)

-- the codes up to the end of ring r are those below the square of 2r + 1
pub ring_of_code-le : (code r : ℕ) → (code < square (2 * r + 1)) ↔ (ring_of_code code ≤ r)
ring_of_code-le code r =
    let on = ring_round code in
    let ring_is = ring_of_code-on code on.0 on.1 on.2 in
    elim (cases_lt r on.0) [
      | inl beyond ↦
          let begun = first_code-le (suc r) on.0 beyond in
          (λ below. absurd (omega (arith, on.1, first_code-next r)), λ le. absurd (omega (arith, ring_is)))
      | inr within ↦
          let ended = first_code-le (suc on.0) (suc r) (omega arith) in
          (λ _. omega (arith, ring_is), λ _. omega (arith, on.2, first_code-next r))
    ]
