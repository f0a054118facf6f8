-- How many bits the numbers and the rules of an outline take at most.
use Rattle.std.proofs.Common.{◌≡◌, ℕ, suc, ◌+◌, ◌-◌, ◌*◌, ◌^◌, ◌<◌, ◌≤◌, true, false, List, [], ◌∷◌, ◌++◌, length, replicate, Option, Some, None, ◌∙◌, inl, inr, arith, lit<}
use Rattle.std.proofs.Math.Nat.{pow-le-pow_right}
use Rattle.std.proofs.lemmas.Bool.{cases_lt}
use Rattle.std.proofs.lemmas.List.{length-append, length-replicate}
use Rattle.packed_bits.specs.Words.{low_bits}
use Rattle.packed_bits.proofs.WordLemmas.{length-low_bits}
use Rattle.bit_stream.specs.Numbers.{delta_bits, number_bits}
use Rattle.bit_stream.proofs.NumberLaws.{HasDelta, HasDigits, delta_of}
use Rattle.index_format.specs.LayerLists.{IsLayer, AreLayers, layers_bits, one_layer_bits, rules_of}
use Rattle.index_format.specs.OutlineLists.{gaps_from, told_bits}
use Rattle.index_format.specs.OutlineRules.{least_left, least_right, rule_numbers}
use Rattle.index_format.proofs.GapLaws.{AscendsTo}

-- a number with so many digits has no more than so many after the first, if it is below their power
digits-few : (j k number : ℕ) → HasDigits j number → number < 2 ^ suc k → j ≤ k
digits-few j k number has below = elim (cases_lt k j) [
  | inl more ↦ absurd (let most : 2 ^ suc k ≤ 2 ^ j = pow-le-pow_right {n = 2} (lit< tt) more in omega (arith, most, has.least, below))
  | inr few ↦ few
]

-- how many bits a number takes
length-delta_bits : (j z number : ℕ) → HasDelta j z number → length (delta_bits number) ≡ z + suc z + j
unfolding delta_bits
length-delta_bits j z number delta =
    let less : suc j - 1 ≡ j = omega arith in
    let lesser : suc z - 1 ≡ z = omega arith in
    rw (delta.lg_is, delta.lg_lg_is, less, lesser)
    (length-append (replicate z false ++ true ∷ low_bits z (suc j)) (low_bits j number)
    ∙ omega (
      arith,
      length-append (replicate z false) (true ∷ low_bits z (suc j)),
      length-replicate z false,
      length-low_bits z (suc j),
      length-low_bits j number,
    ))

-- a number that is with 1 below a power of two takes at most so many bits
pub number_bits-short : (k value : ℕ) → k ≤ 55 → value + 1 < 2 ^ suc k → length (number_bits value) ≤ 11 + k
unfolding number_bits
number_bits-short k value few below =
    let most : 2 ^ suc k ≤ 2 ^ 56 = pow-le-pow_right {n = 2} (lit< tt) {i = suc k} {j = 56} (omega (arith, few)) in
    let delta = delta_of (value + 1) (omega arith) (omega (arith, below, most)) in
    omega (
      arith,
      length-delta_bits delta.0 delta.1 (value + 1) delta.2,
      digits-few delta.0 k (value + 1) delta.2.has below,
      delta.2.narrow,
    )

-- and 2 less where it has at most 31 digits
pub number_bits-shorter : (k value : ℕ) → k ≤ 30 → value + 1 < 2 ^ suc k → length (number_bits value) ≤ 9 + k
unfolding number_bits
number_bits-shorter k value few below =
    let most : 2 ^ suc k ≤ 2 ^ 56 = pow-le-pow_right {n = 2} (lit< tt) {i = suc k} {j = 56} (omega (arith, few)) in
    let delta = delta_of (value + 1) (omega arith) (omega (arith, below, most)) in
    let j_few = digits-few delta.0 k (value + 1) delta.2.has below in
    omega (
      arith,
      length-delta_bits delta.0 delta.1 (value + 1) delta.2,
      j_few,
      digits-few delta.1 4 (suc delta.0) delta.2.digits (omega (arith, j_few, few)),
    )

-- the bits of an ascending list, where each gap takes so many at most
pub gaps_bits-short : (bits greatest least : ℕ) (numbers : List ℕ) → ((value : ℕ) → value ≤ greatest → length (number_bits value) ≤ bits)
    → AscendsTo greatest least numbers → length (told_bits (gaps_from least numbers)) ≤ bits * length numbers
unfolding told_bits gaps_from
gaps_bits-short bits greatest least [] short ascends = omega arith
gaps_bits-short bits greatest least (number ∷ numbers) short ascends =
    omega (
      arith,
      length-append (number_bits (number - least)) (told_bits (gaps_from (suc number) numbers)),
      short (number - least) (omega (arith, ascends.1)),
      gaps_bits-short bits greatest (suc number) numbers short ascends.2,
    )

-- the two numbers of each rule of a layer
rule_numbers-short : (base top : ℕ) (before : Option (ℕ × ℕ)) (rules : List (ℕ × ℕ)) → top ≤ 2 ^ 26 → IsLayer base top before rules
    → length (told_bits (rule_numbers base before rules)) ≤ 70 * length rules
unfolding told_bits rule_numbers IsLayer
rule_numbers-short base top before [] small is = omega arith
rule_numbers-short base top before (rule ∷ rules) small is =
    let left = rule.0 - least_left before in
    let right = rule.1 - least_right base before rule.0 in
    let others = told_bits (rule_numbers base (Some rule) rules) in
    omega (
      arith,
      length-append (number_bits left) (number_bits right ++ others),
      length-append (number_bits right) others,
      number_bits-shorter 26 left (omega arith) (omega (arith, is.0.left, small)),
      number_bits-shorter 26 right (omega arith) (omega (arith, is.0.right, small)),
      rule_numbers-short base top (Some rule) rules small is.1,
    )

-- all layers: each has a rule
pub layers_bits-short : (base top : ℕ) (layers : List (List (ℕ × ℕ))) → AreLayers base top layers → top + length (rules_of layers) ≤ 2 ^ 26
    → length (rules_of layers) ≤ 2 ^ 25 → length (layers_bits base top layers) ≤ 104 * length (rules_of layers)
unfolding AreLayers layers_bits rules_of one_layer_bits
layers_bits-short base top [] are small few = omega arith
layers_bits-short base top (layer ∷ layers) are small few =
    let size = number_bits (length layer - 1) in
    let numbers = told_bits (rule_numbers base None layer) in
    let long = length-append layer (rules_of layers) in
    omega (
      arith,
      are.0,
      long,
      length-append (size ++ numbers) (layers_bits top (top + length layer) layers),
      length-append size numbers,
      number_bits-shorter 25 (length layer - 1) (omega arith) (omega (arith, are.0, long, few)),
      rule_numbers-short base top None layer (omega (arith, long, small)) are.1,
      layers_bits-short top (top + length layer) layers are.2 (omega (arith, long, small)) (omega (arith, long, few)),
    )
