-- Numbers in bits: what was put is read, and what is read was put.
use Rattle.std.proofs.Common.{◌≡◌, ℕ, zero, suc, ◌+◌, ◌-◌, ◌*◌, ◌%◌, ◌^◌, ◌<◌, ◌≤◌, Bool, true, false, List, [], ◌∷◌, ◌++◌, length, take, drop, replicate, Result, Ok, Err, refl, sym, ap, ◌∙◌, inl, inr, arith, append_assoc, lit<}
use Rattle.std.proofs.Math.Nat.{pow-suc, mod-eq_of_lt, pow-le-pow_right}
use Rattle.std.proofs.lemmas.Nat.{leading_top, mod_low, pow_pos}
use Rattle.std.specs.Int.Count.{leading_unique}
use Rattle.std.proofs.lemmas.Bool.{cases_lt, le-ltb, lt-ltb}
use Rattle.std.proofs.lemmas.List.{length-append, length-take-le, take-append-drop, take_at, drop_at}
use Rattle.packed_bits.specs.Bits.{number_of}
use Rattle.packed_bits.specs.Words.{low_bits}
use Rattle.packed_bits.proofs.NumberLemmas.{number_of-lt, same_from_number_of}
use Rattle.packed_bits.proofs.WordLemmas.{length-low_bits, number_of-low_bits}
use Rattle.bit_stream.specs.Numbers.{lg, delta_bits, number_bits, TakenBits, ◌>>=◌, low_in, zeros_in, digits_in, number_in}

-- a number has j digits after the first
pub record HasDigits (j number : ℕ) : Type 0 where
  pub least : 2 ^ j ≤ number
  pub most : number < 2 ^ suc j

-- a number from 1 on has a digit and others
pub lg-digits : (number : ℕ) → 0 < number → number < 2 ^ 64 → (j : ℕ) × (lg number ≡ suc j) × HasDigits j number
unfolding lg
lg-digits number some small =
    let top = leading_top 64 number some small in
    (top.0, omega (arith, top.1), record { least = top.2; most = top.3 })

-- and no other number of digits
pub lg-only : (j number : ℕ) → j < 64 → HasDigits j number → lg number ≡ suc j
unfolding lg
lg-only j number few has =
    let twice = pow-suc 2 j in
    let zeros = leading_unique 64 number (64 - suc j) (suc j) (omega arith) has.most (omega (arith, has.least, twice)) in
    omega (arith, zeros)

-- the first digit and those after it
pub digits-split : (j number : ℕ) → HasDigits j number → 2 ^ j + number % 2 ^ j ≡ number
digits-split j number has =
    let twice = pow-suc 2 j in
    let rest = mod_low 1 j (number - 2 ^ j) (omega (arith, has.least, has.most, twice)) in
    let whole : 1 * 2 ^ j + (number - 2 ^ j) ≡ number = omega (arith, has.least) in
    omega (arith, rw whole at rest, has.least)

-- a first digit in front of others
pub digits-join : (j low : ℕ) → low < 2 ^ j → HasDigits j (2 ^ j + low)
digits-join j low small = let twice = pow-suc 2 j in record { least = omega arith; most = omega (arith, small, twice) }

-- the first digit is no lower one
pub digits-low : (j low : ℕ) → low < 2 ^ j → (2 ^ j + low) % 2 ^ j ≡ low
digits-low j low small =
    let whole : 1 * 2 ^ j + low ≡ 2 ^ j + low = omega arith in
    rw whole at (mod_low 1 j low small)

-- bits are those of their number
pub low_bits-number_of : (width number : ℕ) (bits : List Bool) → length bits ≡ width → number % 2 ^ width ≡ number_of bits
    → low_bits width number ≡ bits
low_bits-number_of width number bits long same =
    same_from_number_of (low_bits width number) bits (length-low_bits width number ∙ sym long)
    (number_of-low_bits width number ∙ same)

-- the lowest digits do not see the others
pub low_bits-mod : (width number low : ℕ) → number % 2 ^ width ≡ low → low < 2 ^ width → low_bits width number ≡ low_bits width low
low_bits-mod width number low same small =
    low_bits-number_of width number (low_bits width low) (length-low_bits width low)
    (same ∙ sym (number_of-low_bits width low ∙ mod-eq_of_lt small))

-- what was read, or else something
abbrev taken_or : ℕ × List Bool → TakenBits ℕ → ℕ × List Bool
taken_or other (Ok it) = it
taken_or other (Err fault) = other

-- a number of so many bits is read
pub low_in-low_bits : (width number : ℕ) (bits : List Bool) → low_in width (low_bits width number ++ bits) ≡ Ok (number % 2 ^ width, bits)
unfolding low_in
low_in-low_bits width number bits =
    let low = low_bits width number in
    let long = length-low_bits width number in
    rw (
      le-ltb (length (low ++ bits)) width (omega (arith, length-append low bits, long)),
      take_at low bits width long,
      drop_at low bits width long,
      number_of-low_bits width number,
    ) refl

-- and only from its bits
pub low_in-only : (width value : ℕ) (bits rest : List Bool) → low_in width bits ≡ Ok (value, rest)
    → (bits ≡ low_bits width value ++ rest) × (value < 2 ^ width)
unfolding low_in
low_in-only width value bits rest read = elim (cases_lt (length bits) width) [
  | inl short ↦ absurd (let e = rw (lt-ltb (length bits) width short) at read in cc)
  | inr enough ↦
      let same = rw (le-ltb (length bits) width enough) at read in
      let value_is : number_of (take width bits) ≡ value = ap (λ it. (taken_or (0, []) it).0) same in
      let rest_is : drop width bits ≡ rest = ap (λ it. (taken_or (0, []) it).1) same in
      let long = length-take-le width bits enough in
      let small : value < 2 ^ width = rw (← value_is) (rw long at (number_of-lt (take width bits))) in
      let front = low_bits-number_of width value (take width bits) long (mod-eq_of_lt small ∙ sym value_is) in
      (sym (take-append-drop width bits) ∙ rw (front, rest_is) refl, small)
]

-- a first step that succeeded, and the second
pub bind-ok : {A B E : Type 0} (first : Result A E) (next : A → Result B E) (last : B) → first >>= next ≡ Ok last
    → (it : A) × (first ≡ Ok it) × (next it ≡ Ok last)
bind-ok (Ok it) next last done = (it, refl, done)
bind-ok (Err fault) next last done = absurd (let e = done in cc)

-- a result of reading
abbrev typed : TakenBits ℕ → TakenBits ℕ
typed result = result

-- no zeros before a one
pair-zero : {most : ℕ} {many : ℕ} {bits rest : List Bool} → typed (Ok (0, bits)) ≡ Ok (many, rest)
    → (true ∷ bits ≡ replicate many false ++ true ∷ rest) × (many ≤ most)
pair-zero {most} {many} {bits} {rest} read =
    let amount : 0 ≡ many = ap (λ it. (taken_or (0, []) it).0) read in
    let left : bits ≡ rest = ap (λ it. (taken_or (0, []) it).1) read in
    (rw (← amount, left) refl, rw (← amount) (omega arith))

-- zeros and a one are read
pub zeros_in-replicate : (most many : ℕ) (bits : List Bool) → many ≤ most
    → zeros_in most (replicate many false ++ true ∷ bits) ≡ Ok (many, bits)
unfolding zeros_in
zeros_in-replicate zero zero bits few = refl
zeros_in-replicate (suc most) zero bits few = refl
zeros_in-replicate zero (suc many) bits few = absurd (omega arith)
zeros_in-replicate (suc most) (suc many) bits few = rw (zeros_in-replicate most many bits (omega arith)) refl

-- and nothing else is
pub zeros_in-only : (most many : ℕ) (bits rest : List Bool) → zeros_in most bits ≡ Ok (many, rest)
    → (bits ≡ replicate many false ++ true ∷ rest) × (many ≤ most)
unfolding zeros_in
zeros_in-only zero many [] rest read = absurd (let e = read in cc)
zeros_in-only (suc most) many [] rest read = absurd (let e = read in cc)
zeros_in-only zero many (true ∷ bits) rest read = pair-zero read
zeros_in-only (suc most) many (true ∷ bits) rest read = pair-zero read
zeros_in-only zero many (false ∷ bits) rest read = absurd (let e = read in cc)
zeros_in-only (suc most) many (false ∷ bits) rest read =
    let step = bind-ok (zeros_in most bits) (λ it. Ok (suc it.0, it.1)) (many, rest) read in
    let before = zeros_in-only most step.0.0 bits step.0.1 step.1 in
    let amount : suc step.0.0 ≡ many = ap (λ it. (taken_or (0, []) it).0) step.2 in
    let left : step.0.1 ≡ rest = ap (λ it. (taken_or (0, []) it).1) step.2 in (
      ap (λ tail. false ∷ tail) before.0 ∙ ap (λ tail. false ∷ replicate step.0.0 false ++ true ∷ tail) left
          ∙ ap (λ m. replicate m false ++ true ∷ rest) amount,
      omega (arith, before.1, amount),
    )

-- how a number below 2^56 and its digits have digits
pub record HasDelta (j z number : ℕ) : Type 0 where
  pub lg_is : lg number ≡ suc j
  pub lg_lg_is : lg (suc j) ≡ suc z
  pub has : HasDigits j number
  pub digits : HasDigits z (suc j)
  pub few : j ≤ 55
  pub narrow : z ≤ 5

-- more digits than 56 are six at least
narrow : (z digits : ℕ) → HasDigits z digits → digits ≤ 63 → z ≤ 5
narrow z digits has few = elim (cases_lt z 6) [
  | inl low ↦ omega arith
  | inr high ↦ absurd (let most : 2 ^ 6 ≤ 2 ^ z = pow-le-pow_right {n = 2} (lit< tt) high in omega (arith, most, has.least, few))
]

-- the digits of a number are as its delta code needs them
pub delta_of : (number : ℕ) → 0 < number → number < 2 ^ 56 → (j : ℕ) × (z : ℕ) × HasDelta j z number
delta_of number some small =
    let top = lg-digits number some (omega (arith, small)) in
    let j = top.0 in
    let few : j ≤ 55 = elim (cases_lt j 56) [
      | inl low ↦ omega arith
      | inr high ↦ absurd (let most : 2 ^ 56 ≤ 2 ^ j = pow-le-pow_right {n = 2} (lit< tt) high in omega (arith, most, top.2.least, small))
    ] in
    let next = lg-digits (suc j) (omega arith) (omega (arith, few)) in (
      j,
      next.0,
      record {
        lg_is = top.1;
        lg_lg_is = next.1;
        has = top.2;
        digits = next.2;
        few = few;
        narrow = narrow next.0 (suc j) next.2 (omega (arith, few));
      },
    )

-- its delta code, and what follows it
delta_bits-is : (j z number : ℕ) (bits : List Bool) → HasDelta j z number
    → delta_bits number ++ bits ≡ replicate z false ++ true ∷ (low_bits z (suc j) ++ (low_bits j number ++ bits))
unfolding delta_bits
delta_bits-is j z number bits delta =
    let less : suc j - 1 ≡ j = omega arith in
    let lesser : suc z - 1 ≡ z = omega arith in
    rw (delta.lg_is, delta.lg_lg_is, less, lesser) (
    append_assoc (replicate z false ++ true ∷ low_bits z (suc j)) (low_bits j number) bits
    ∙ append_assoc (replicate z false) (true ∷ low_bits z (suc j)) (low_bits j number ++ bits))

-- digits after the first are read
digits_in-low_bits : (j number : ℕ) (bits : List Bool) → HasDigits j number → j ≤ 55
    → digits_in (suc j) (low_bits j number ++ bits) ≡ Ok (number - 1, bits)
unfolding digits_in
digits_in-low_bits j number bits has few =
    let less : suc j - 1 ≡ j = omega arith in
    rw (le-ltb 56 (suc j) (omega (arith, few)), less, low_in-low_bits j number bits, digits-split j number has) refl

-- a delta code is read
number_in-delta : (j z number : ℕ) (bits : List Bool) → HasDelta j z number → number_in (delta_bits number ++ bits) ≡ Ok (number - 1, bits)
unfolding number_in
number_in-delta j z number bits delta = rw (
  delta_bits-is j z number bits delta,
  zeros_in-replicate 5 z (low_bits z (suc j) ++ (low_bits j number ++ bits)) delta.narrow,
  low_in-low_bits z (suc j) (low_bits j number ++ bits),
  digits-split z (suc j) delta.digits,
  digits_in-low_bits j number bits delta.has delta.few,
) refl

-- what was put is read
pub number_in-number_bits : (value : ℕ) (bits : List Bool) → value + 2 ≤ 2 ^ 56 → number_in (number_bits value ++ bits) ≡ Ok (value, bits)
unfolding number_bits
number_in-number_bits value bits small =
    let delta = delta_of (value + 1) (omega arith) (omega (arith, small)) in
    let value_is : value + 1 - 1 ≡ value = omega arith in
    number_in-delta delta.0 delta.1 (value + 1) bits delta.2 ∙ ap (λ v. Ok (v, bits)) value_is

-- digits after the first are those of their number
digits_in-only : (digits value : ℕ) (bits rest : List Bool) → 0 < digits → digits_in digits bits ≡ Ok (value, rest)
    → (bits ≡ low_bits (digits - 1) (value + 1) ++ rest) × HasDigits (digits - 1) (value + 1) × (digits ≤ 56)
unfolding digits_in
digits_in-only digits value bits rest some read = elim (cases_lt 56 digits) [
  | inl many ↦ absurd (let e = rw (lt-ltb 56 digits many) at read in cc)
  | inr few ↦
      let j = digits - 1 in
      let step = bind-ok (low_in j bits) (λ low. Ok (2 ^ j + low.0 - 1, low.1)) (value, rest) (rw (le-ltb 56 digits few) at read) in
      let low = step.0.0 in
      let from = low_in-only j low bits step.0.1 step.1 in
      let value_is : 2 ^ j + low - 1 ≡ value = ap (λ it. (taken_or (0, []) it).0) step.2 in
      let left : step.0.1 ≡ rest = ap (λ it. (taken_or (0, []) it).1) step.2 in
      let whole : 2 ^ j + low ≡ value + 1 = omega (arith, pow_pos j, value_is) in
      let has = rw whole at (digits-join j low from.1) in
      let same = low_bits-mod j (value + 1) low (rw whole at (digits-low j low from.1)) from.1 in
      (from.0 ∙ rw (same, left) refl, has, few)
]

-- what was read step by step is a delta code
number_in-steps : (value j z low : ℕ) (bits first second rest : List Bool) → bits ≡ replicate z false ++ true ∷ first → z ≤ 5
    → first ≡ low_bits z low ++ second → low < 2 ^ z → suc j ≡ 2 ^ z + low → suc j ≤ 56
    → second ≡ low_bits j (value + 1) ++ rest → HasDigits j (value + 1)
    → (bits ≡ number_bits value ++ rest) × (value + 2 ≤ 2 ^ 56)
unfolding number_bits
number_in-steps value j z low bits first second rest bits_is few first_is small digits_is narrow second_is has =
    let digits : HasDigits z (suc j) = rw digits_is (digits-join z low small) in
    let delta : HasDelta j z (value + 1) = record {
      lg_is = lg-only j (value + 1) (omega (arith, narrow)) has;
      lg_lg_is = lg-only z (suc j) (omega (arith, few)) digits;
      has = has;
      digits = digits;
      few = omega (arith, narrow);
      narrow = few;
    } in
    let same : low_bits z (suc j) ≡ low_bits z low =
    low_bits-mod z (suc j) low (ap (λ d. d % 2 ^ z) digits_is ∙ digits-low z low small) small in
    let most : 2 ^ suc j ≤ 2 ^ 56 = pow-le-pow_right {n = 2} (lit< tt) narrow in
    let code = delta_bits-is j z (value + 1) rest delta in (
      bits_is ∙ ap (λ tail. replicate z false ++ true ∷ tail) (first_is ∙ ap (λ tail. low_bits z low ++ tail) second_is
          ∙ ap (λ front. front ++ (low_bits j (value + 1) ++ rest)) (sym same)) ∙ sym code,
      omega (arith, has.most, most),
    )

-- what is read was put
pub number_in-only : (value : ℕ) (bits rest : List Bool) → number_in bits ≡ Ok (value, rest)
    → (bits ≡ number_bits value ++ rest) × (value + 2 ≤ 2 ^ 56)
unfolding number_in
number_in-only value bits rest read =
    let first = bind-ok (zeros_in 5 bits) (λ it. low_in it.0 it.1 >>= λ low. digits_in (2 ^ it.0 + low.0) low.1) (value, rest) read in
    let z = first.0.0 in
    let begun = zeros_in-only 5 z bits first.0.1 first.1 in
    let second = bind-ok (low_in z first.0.1) (λ low. digits_in (2 ^ z + low.0) low.1) (value, rest) first.2 in
    let low = second.0.0 in
    let counted = low_in-only z low first.0.1 second.0.1 second.1 in
    let last = digits_in-only (2 ^ z + low) value second.0.1 rest (omega (arith, pow_pos z)) second.2 in
    let next : suc (2 ^ z + low - 1) ≡ 2 ^ z + low = omega (arith, pow_pos z) in
    number_in-steps value (2 ^ z + low - 1) z low bits first.0.1 second.0.1 rest begun.0 begun.1 counted.0 counted.1
    next (omega (arith, next, last.2)) last.0 last.1
