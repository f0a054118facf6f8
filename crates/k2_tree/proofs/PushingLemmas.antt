-- Building a level group by group: what one number more does to the last group.
use Rattle.std.proofs.Common.{◌≡◌, ℕ, zero, suc, ◌+◌, ◌-◌, ◌*◌, ◌/◌, ◌%◌, ◌^◌, ◌<◌, ◌≤◌, Bool, true, false, List, [], ◌∷◌, ◌++◌, length, take, replicate, get_or, refl, sym, ap, ◌∙◌, arith, length-append, append-nil}
use Rattle.std.proofs.Math.ListN.{set}
use Rattle.std.proofs.Math.Nat.{mod-lt}
use Rattle.std.specs.Int.Bits.{bit_or, or_zero_l}
use Rattle.std.proofs.lemmas.Nat.{or_lt}
use Rattle.std.proofs.lemmas.Bool.Decides.{nat_tests}
use Rattle.packed_bits.specs.Words.{low_bits}
use Rattle.packed_bits.proofs.WordLemmas.{length-low_bits}
use Rattle.k2_tree.specs.Widths.{fan_of}
use Rattle.k2_tree.specs.TreeBits.{Rises, level_bits}
use Rattle.k2_tree.proofs.PrefixLemmas.{fan_pos}
use Rattle.k2_tree.proofs.GroupBitsLemmas.{groups_more, low_bits-zero, marked, place-small}
use Rattle.k2_tree.proofs.BuildingLemmas.{room, level_step, level_bits-none}

-- a level so far with the room for the next number, of which all but the last group is done: the number sets a bit
group_step : (w n i : ℕ) (codes : List ℕ) (front done : List Bool) (group : ℕ) → Rises 0 codes → i < length codes
    → done ++ low_bits (fan_of w) group ≡ (front ++ level_bits w n (take i codes)) ++ room (fan_of w) (w + n) codes i
    → done ++ low_bits (fan_of w) (bit_or group (2 ^ (get_or codes i 0 / 4 ^ n % fan_of w)))
    ≡ front ++ level_bits w n (take (i + 1) codes)
group_step w n i codes front done group up within is =
    let k : ℕ = fan_of w in
    let d : ℕ = get_or codes i 0 / 4 ^ n % k in
    let step = level_step w n i codes front (front ++ level_bits w n (take i codes)) up within refl in
    sym (marked done k d group (mod-lt (get_or codes i 0 / 4 ^ n) (fan_pos w)))
    ∙ ap (λ all. set all (length all - k + d) true) is ∙ step.1

-- the first number opens a group
first_group : (w n : ℕ) (codes : List ℕ) (front : List Bool) → Rises 0 codes → 0 < length codes
    → front ++ low_bits (fan_of w) (2 ^ (get_or codes 0 0 / 4 ^ n % fan_of w)) ≡ front ++ level_bits w n (take 1 codes)
first_group w n codes front up some =
    let k : ℕ = fan_of w in
    let p : ℕ = 2 ^ (get_or codes 0 0 / 4 ^ n % k) in
    let opened = ap (λ bits. front ++ bits) (low_bits-zero k)
    ∙ ap (λ bits. bits ++ replicate k false) (sym (ap (λ bits. front ++ bits) (level_bits-none w n) ∙ append-nil front)) in
    ap (λ g. front ++ low_bits k g) (sym (or_zero_l p)) ∙ group_step w n 0 codes front front 0 up some opened

-- a number whose square is that of the number before
same_group : (w n i : ℕ) (codes : List ℕ) (front done : List Bool) (group : ℕ) → Rises 0 codes → 0 < i → i < length codes
    → get_or codes (i - 1) 0 / 2 ^ (2 * (w + n)) ≡ get_or codes i 0 / 2 ^ (2 * (w + n))
    → done ++ low_bits (fan_of w) group ≡ front ++ level_bits w n (take i codes)
    → done ++ low_bits (fan_of w) (bit_or group (2 ^ (get_or codes i 0 / 4 ^ n % fan_of w)))
    ≡ front ++ level_bits w n (take (i + 1) codes)
same_group w n zero codes front done group up some within same is = absurd (omega arith)
same_group w n (suc j) codes front done group up some within same is =
    let e : suc j - 1 ≡ j = omega arith in
    let same' = rw e at same in
    let none : room (fan_of w) (w + n) codes (suc j) ≡ [] = rw same' (grind (arith, nat_tests)) in
    let all : List Bool = front ++ level_bits w n (take (suc j) codes) in
    group_step w n (suc j) codes front done group up within (is ∙ sym (ap (λ bits. all ++ bits) none ∙ append-nil all))

-- a number with another square opens a group
next_group : (w n i : ℕ) (codes : List ℕ) (front done : List Bool) → Rises 0 codes → 0 < i → i < length codes
    → (get_or codes (i - 1) 0 / 2 ^ (2 * (w + n)) ≡ get_or codes i 0 / 2 ^ (2 * (w + n)) → ⊥)
    → done ≡ front ++ level_bits w n (take i codes)
    → done ++ low_bits (fan_of w) (bit_or 0 (2 ^ (get_or codes i 0 / 4 ^ n % fan_of w)))
    ≡ front ++ level_bits w n (take (i + 1) codes)
next_group w n zero codes front done up some within differ is = absurd (omega arith)
next_group w n (suc j) codes front done up some within differ is =
    let e : suc j - 1 ≡ j = omega arith in
    let differ' = rw e at differ in
    let new : room (fan_of w) (w + n) codes (suc j) ≡ replicate (fan_of w) false = grind (arith, nat_tests, differ') in
    group_step w n (suc j) codes front done 0 up within
    (ap (λ bits. bits ++ low_bits (fan_of w) 0) is ∙ ap (λ bits. (front ++ level_bits w n (take (suc j) codes)) ++ bits)
    (low_bits-zero (fan_of w) ∙ sym new))

-- the level of the first i numbers, of which all but the last group was pushed
pub record IsPushing (w n i : ℕ) (codes : List ℕ) (front bits : List Bool) (group : ℕ) : Type 0 where
  pub some : 1 ≤ i
  pub small : group < 2 ^ fan_of w
  pub whole : length bits % fan_of w ≡ 0
  pub level : bits ++ low_bits (fan_of w) group ≡ front ++ level_bits w n (take i codes)

-- whole groups with one more
one_more : (w : ℕ) (bits all : List Bool) (group : ℕ) → w ≤ 2 → length bits % fan_of w ≡ 0
    → all ≡ bits ++ low_bits (fan_of w) group → length all % fan_of w ≡ 0
one_more w bits all group narrow whole is =
    let last = low_bits (fan_of w) group in
    let long : length all ≡ length bits + fan_of w * 1 =
    ap length is ∙ length-append bits last ∙ ap (λ n. length bits + n) (length-low_bits (fan_of w) group) ∙ omega arith in
    rw long (groups_more w (length bits) 1 narrow whole)

module _ (w n : ℕ) (codes : List ℕ) (front : List Bool) (up : Rises 0 codes) (narrow : w ≤ 2) where
  bit-small : (i : ℕ) → 2 ^ (get_or codes i 0 / 4 ^ n % fan_of w) < 2 ^ fan_of w
  bit-small i = place-small (get_or codes i 0 / 4 ^ n % fan_of w) (fan_of w) (mod-lt (get_or codes i 0 / 4 ^ n) (fan_pos w))

  pub pushing-first : (bit : ℕ) → bit ≡ 2 ^ (get_or codes 0 0 / 4 ^ n % fan_of w) → 0 < length codes
      → length front % fan_of w ≡ 0 → IsPushing w n 1 codes front front bit
  pushing-first bit is some whole = rw is (record {
    some = omega arith;
    small = bit-small 0;
    whole = whole;
    level = first_group w n codes front up some;
  })

  module _ (i : ℕ) (bits : List Bool) (group bit : ℕ) (within : i < length codes)
      (is : bit ≡ 2 ^ (get_or codes i 0 / 4 ^ n % fan_of w)) (before : IsPushing w n i codes front bits group) where
    pub pushing-same : get_or codes (i - 1) 0 / 2 ^ (2 * (w + n)) ≡ get_or codes i 0 / 2 ^ (2 * (w + n))
        → IsPushing w n (i + 1) codes front bits (bit_or group bit)
    pushing-same same = rw is (record {
      some = omega arith;
      small = or_lt (fan_of w) group (2 ^ (get_or codes i 0 / 4 ^ n % fan_of w)) before.small (bit-small i);
      whole = before.whole;
      level = same_group w n i codes front bits group up before.some within same before.level;
    })

    pub pushing-next : (all : List Bool) → all ≡ bits ++ low_bits (fan_of w) group
        → (get_or codes (i - 1) 0 / 2 ^ (2 * (w + n)) ≡ get_or codes i 0 / 2 ^ (2 * (w + n)) → ⊥)
        → IsPushing w n (i + 1) codes front all (bit_or 0 bit)
    pushing-next all made differ = rw is (record {
      some = omega arith;
      small = or_lt (fan_of w) 0 (2 ^ (get_or codes i 0 / 4 ^ n % fan_of w)) (omega (arith, bit-small i)) (bit-small i);
      whole = one_more w bits all group narrow before.whole made;
      level = next_group w n i codes front all up before.some within differ (made ∙ before.level);
    })

-- no numbers have no level
pub level_bits-empty : (w n : ℕ) (codes : List ℕ) (front : List Bool) → length codes ≡ 0 → front ≡ front ++ level_bits w n codes
level_bits-empty w n [] front none = sym (ap (λ bits. front ++ bits) (level_bits-none w n) ∙ append-nil front)
level_bits-empty w n (x ∷ xs) front none = absurd (omega arith)
