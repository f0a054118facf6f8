-- How a square is split: one digit more.
use Rattle.std.proofs.Common.{◌≡◌, ℕ, zero, suc, ◌+◌, ◌-◌, ◌*◌, ◌/◌, ◌%◌, ◌^◌, ◌<◌, ◌≤◌, ◌==◌, Bool, true, false}
use Rattle.std.proofs.Common.{List, [], ◌∷◌, ◌++◌, map, filter, refl, sym, ap, ◌∙◌, arith, pow-add}
use Rattle.std.proofs.Common.{append_assoc, zero-add, mul-le-mul_right, mul-le-mul_left, inl, inr, subst}
use Rattle.std.specs.Int.{bit_at}
use Rattle.std.specs.List.{range_with_len}
use Rattle.std.proofs.Math.Nat.{div-eq_of_lt, add-mul-div_right}
use Rattle.std.proofs.lemmas.Nat.{pow_pos}
use Rattle.std.proofs.lemmas.Bool.{cases_lt}
use Rattle.k2_tree.proofs.PrefixLemmas.{fan_pos}
use Rattle.std.proofs.lemmas.Bool.Decides.{nat_tests}
use Rattle.std.proofs.lemmas.List.{append-nil, map-append}
use Rattle.std.proofs.lemmas.List.Elements.{filter-append}
use Rattle.list_laws.proofs.RangeLemmas.{range-parts}
use Rattle.box_tree.specs.Building.{child_task, IsPushed, IsSplitting}
use Rattle.box_tree.specs.Levels.{square_start, is_held}
use Rattle.box_tree.specs.declared.task.Task.{Task}

-- bits of a number to which a higher power of two is added
bit-below : (mask digit d : ℕ) → d < digit → bit_at (mask + 2 ^ digit) d ≡ bit_at mask d
bit-below mask digit d low =
    let k : ℕ = digit - d - 1 in
    let parts : digit ≡ k + 1 + d = omega arith in
    let power : 2 ^ digit ≡ 2 ^ (k + 1) * 2 ^ d = ap (λ n. 2 ^ n) parts ∙ pow-add 2 (k + 1) d in
    let twice : 2 ^ (k + 1) ≡ 2 ^ k * 2 = pow-add 2 k 1 in
    let more : (mask + 2 ^ (k + 1) * 2 ^ d) / 2 ^ d ≡ mask / 2 ^ d + 2 ^ (k + 1) =
    add-mul-div_right mask (2 ^ (k + 1)) (pow_pos d) in
    ap (λ p. (mask + p) / 2 ^ d % 2) power ∙ ap (λ q. q % 2) more ∙ even (mask / 2 ^ d) (2 ^ k) (2 ^ (k + 1)) twice
  where
    even : (q h p : ℕ) → p ≡ h * 2 → (q + p) % 2 ≡ q % 2
    even q h p is = omega arith

bit-here : (mask digit : ℕ) → mask < 2 ^ digit → bit_at (mask + 2 ^ digit) digit ≡ 1
bit-here mask digit small =
    let one : mask + 2 ^ digit ≡ mask + 1 * 2 ^ digit = omega arith in
    let more : (mask + 1 * 2 ^ digit) / 2 ^ digit ≡ mask / 2 ^ digit + 1 = add-mul-div_right mask 1 (pow_pos digit) in
    let none : mask / 2 ^ digit ≡ 0 = div-eq_of_lt small in
    ap (λ n. n / 2 ^ digit % 2) one ∙ ap (λ q. q % 2) (more ∙ ap (λ q. q + 1) none)

bit-none : (mask digit : ℕ) → mask < 2 ^ digit → bit_at mask digit ≡ 0
bit-none mask digit small = let none : mask / 2 ^ digit ≡ 0 = div-eq_of_lt small in ap (λ q. q % 2) none

-- tests that agree on a range
filter-range : (p q : ℕ → Bool) (a m : ℕ) → ((j : ℕ) → a ≤ j → j < a + m → p j ≡ q j)
    → filter p (range_with_len a m) ≡ filter q (range_with_len a m)
filter-range p q a zero same = refl
filter-range p q a (suc m) same =
    let rest = filter-range p q (a + 1) m (λ j low high. same j (omega arith) (omega arith)) in
    grind (arith, same a (omega arith) (omega arith), rest)

-- one number more
range-next : (a m : ℕ) → range_with_len a (m + 1) ≡ range_with_len a m ++ (a + m) ∷ []
range-next a m = range-parts a m 1

filter-kept : (p : ℕ → Bool) (a m : ℕ) → p (a + m) ≡ true
    → filter p (range_with_len a (m + 1)) ≡ filter p (range_with_len a m) ++ (a + m) ∷ []
filter-kept p a m holds =
    ap (filter p) (range-next a m) ∙ filter-append p (range_with_len a m) ((a + m) ∷ [])
    ∙ ap (λ xs. filter p (range_with_len a m) ++ xs) (rw holds refl)

filter-left : (p : ℕ → Bool) (a m : ℕ) → p (a + m) ≡ false
    → filter p (range_with_len a (m + 1)) ≡ filter p (range_with_len a m)
filter-left p a m fails =
    ap (filter p) (range-next a m) ∙ filter-append p (range_with_len a m) ((a + m) ∷ [])
    ∙ ap (λ xs. filter p (range_with_len a m) ++ xs) (rw fails refl) ∙ append-nil (filter p (range_with_len a m))

module _ (codes : List ℕ) (width : ℕ) (task : Task) (digit low high mask : ℕ) (old now : List Task)
    (is : IsSplitting codes width task digit low mask old now)
    (next : high ≡ square_start codes (task.level - width) (4 ^ width * task.prefix + digit + 1)) where
  abbrev n : ℕ
  n = task.level - width

  abbrev from : ℕ
  from = 4 ^ width * task.prefix

  abbrev bits : ℕ → ℕ → Bool
  bits m d = bit_at m d == 1

  -- a child that holds a place
  pub split-held : low < high
      → IsSplitting codes width task (digit + 1) high (mask + 2 ^ digit) old
      (now ++ child_task codes width task (from + digit) ∷ [])
  unfolding is_held
  split-held some =
      let held : is_held codes n (from + digit) ≡ true = grind (arith, nat_tests, is.here, next) in
      let twice : 2 ^ (digit + 1) ≡ 2 ^ digit * 2 = pow-add 2 digit 1 in
      let set : bits (mask + 2 ^ digit) (0 + digit) ≡ true = grind (arith, nat_tests, bit-here mask digit is.few) in
      let before : filter (bits (mask + 2 ^ digit)) (range_with_len 0 digit) ≡ filter (bits mask)
      (range_with_len 0 digit) =
      filter-range (bits (mask + 2 ^ digit)) (bits mask) 0 digit
      (λ j least most. ap (λ b. b == 1) (bit-below mask digit j (omega arith))) in
      record {
        few = omega (arith, is.few, twice);
        told = ap (map (λ d. from + d)) (filter-kept (bits (mask + 2 ^ digit)) 0 digit set
            ∙ ap (λ xs. xs ++ (0 + digit) ∷ []) before)
            ∙ map-append (λ d. from + d) (filter (bits mask) (range_with_len 0 digit)) ((0 + digit) ∷ [])
            ∙ ap (λ xs. xs ++ (from + (0 + digit)) ∷ []) is.told
            ∙ ap (λ k. filter (is_held codes n) (range_with_len from digit) ++ (from + k) ∷ []) (zero-add digit)
            ∙ sym (filter-kept (is_held codes n) from digit held);
        pushed = ap (λ xs. xs ++ child_task codes width task (from + digit) ∷ []) is.pushed
            ∙ append_assoc old (map (child_task codes width task)
            (filter (is_held codes n) (range_with_len from digit))) (child_task codes width task (from + digit) ∷ [])
            ∙ ap (λ xs. old ++ xs)
            (sym (map-append (child_task codes width task) (filter (is_held codes n) (range_with_len from digit))
            ((from + digit) ∷ []))
            ∙ ap (map (child_task codes width task)) (sym (filter-kept (is_held codes n) from digit held)));
        here = next ∙ ap (square_start codes n) (omega arith);
      }

  -- one that holds none
  pub split-empty : high ≤ low → IsSplitting codes width task (digit + 1) high mask old now
  unfolding is_held
  split-empty none =
      let not_held : is_held codes n (from + digit) ≡ false = grind (arith, nat_tests, is.here, next) in
      let twice : 2 ^ (digit + 1) ≡ 2 ^ digit * 2 = pow-add 2 digit 1 in
      let clear : bits mask (0 + digit) ≡ false = grind (arith, nat_tests, bit-none mask digit is.few) in
      record {
        few = omega (arith, is.few, twice);
        told = ap (map (λ d. from + d)) (filter-left (bits mask) 0 digit clear) ∙ is.told
            ∙ sym (filter-left (is_held codes n) from digit not_held);
        pushed = is.pushed ∙ ap (λ xs. old ++ map (child_task codes width task) xs)
            (sym (filter-left (is_held codes n) from digit not_held));
        here = next ∙ ap (square_start codes n) (omega arith);
      }

  -- the child was put after the others where it holds a place
  pub split-next : (child : Task) (mask' : ℕ) (new : List Task) → child ≡ child_task codes width task (from + digit)
      → child.low ≡ low → child.high ≡ high → IsPushed child digit mask mask' now new
      → IsSplitting codes width task (digit + 1) high mask' old new
  split-next child mask' new its low_is high_is pushed = elim (cases_lt low high) [
    | inl some ↦
        let it = pushed.held (omega arith) in
        let all : new ≡ now ++ child_task codes width task (from + digit) ∷ [] = it.0 ∙ ap (λ t. now ++ t ∷ []) its in
        subst (λ m. IsSplitting codes width task (digit + 1) high m old new) (sym it.1)
        (subst (IsSplitting codes width task (digit + 1) high (mask + 2 ^ digit) old) (sym all) (split-held some))
    | inr none ↦
        let it = pushed.empty (omega arith) in
        subst (λ m. IsSplitting codes width task (digit + 1) high m old new) (sym it.1)
        (subst (IsSplitting codes width task (digit + 1) high mask old) (sym it.0) (split-empty (omega arith)))
  ]

-- numbers with a longer prefix are below the end of the square
pub longer-within : (prefix width level digit : ℕ) → width ≤ level → digit < 4 ^ width
    → (4 ^ width * prefix + digit + 1) * 4 ^ (level - width) ≤ (prefix + 1) * 4 ^ level
longer-within prefix width level digit deep low =
    by_parts (4 ^ width) (4 ^ (level - width)) (4 ^ level) (ap (λ n. 4 ^ n) back ∙ pow-add 4 width (level - width)) low
  where
    back : level ≡ width + (level - width)
    back = omega arith

    by_parts : (a b c : ℕ) → c ≡ a * b → digit < a → (a * prefix + digit + 1) * b ≤ (prefix + 1) * c
    by_parts a b c e low =
        let some : (a * prefix + digit + 1) ≤ a * (prefix + 1) = grind arith in
        let most : (a * prefix + digit + 1) * b ≤ a * (prefix + 1) * b = mul-le-mul_right b some in
        let same : a * (prefix + 1) * b ≡ (prefix + 1) * c = rw e (grind arith) in
        omega (arith, most, same)

-- a number that stays small when digits are put after it is small
pub small-front : (x k limit : ℕ) → x * 4 ^ k ≤ limit → x ≤ limit
small-front x k limit small =
    let some = fan_pos k in
    let most : x * 1 ≤ x * 4 ^ k = mul-le-mul_left x (omega arith) in omega (arith, most)
