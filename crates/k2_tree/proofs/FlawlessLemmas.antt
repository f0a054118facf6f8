-- Bits without a flaw are those of the Morton numbers that they tell.
use Rattle.std.proofs.Common.{◌≡◌, ℕ, suc, ◌+◌, ◌*◌, ◌/◌, ◌^◌, ◌<◌, ◌≤◌, ◌==◌, Bool, true, false}
use Rattle.std.proofs.Common.{List, [], ◌∷◌, length, map, take, drop, get_or, refl, sym, ap, ◌∙◌, arith}
use Rattle.std.proofs.Common.{Option, None, All}
use Rattle.std.specs.List.{list_any}
use Rattle.std.specs.Option.{option_map}
use Rattle.std.proofs.Math.Nat.{lt-div-mul-add}
use Rattle.std.proofs.lemmas.Bool.Decides.{nat_tests}
use Rattle.std.proofs.lemmas.List.{take-append-drop, get_or_default}
use Rattle.std.proofs.lemmas.List.Elements.{All-nil}
use Rattle.std.proofs.lemmas.Option.{none-some}
use Rattle.list_laws.proofs.FirstLemmas.{map-none, or-none}
use Rattle.packed_bits.specs.Bits.{ones_of}
use Rattle.packed_bits.proofs.OnesLemmas.{ones_of-nil, ones_of-cons}
use Rattle.track_types.specs.declared.limit.TheConstants.{MAX_TREE}
use Rattle.k2_tree.specs.Widths.{digits_in, fan_of, widths_of}
use Rattle.k2_tree.specs.TreeBits.{is_in, prefixes, Rises, children_of_prefixes, level_bits, morton_bits}
use Rattle.k2_tree.specs.Tree.{where_set, codes_below, codes_in, AreTreeBits}
use Rattle.k2_tree.specs.Flaws.{group_flaw, level_flaw, tree_flaw}
use Rattle.k2_tree.proofs.RisingLemmas.{Rises-weaker, is_in-below, is_in-first, is_in-other, same_from_rising, by_place}
use Rattle.k2_tree.proofs.PrefixLemmas.{prefixes-rise, prefixes-zero, prefixes-of, fan_pos}
use Rattle.k2_tree.proofs.LongerLemmas.{is_in-parents, length-children_of_prefixes, children_of_prefixes-rises}
use Rattle.k2_tree.proofs.WidthLemmas.{digits_in-widths_of}
use Rattle.k2_tree.proofs.FlawedLemmas.{group_flaw-within, parents-where_set}
use Rattle.k2_tree.proofs.ToldLemmas.{morton_bits-none}

-- what is picked rises
Rises-where_set : (n : ℕ) (bits : List Bool) (codes : List ℕ) → Rises n codes → Rises n (where_set bits codes)
unfolding where_set
Rises-where_set n [] codes up = tt
Rises-where_set n (bit ∷ bits) [] up = tt
Rises-where_set n (true ∷ bits) (code ∷ codes) up = (up.0, Rises-where_set (suc code) bits codes up.1)
Rises-where_set n (false ∷ bits) (code ∷ codes) up =
    let low : n ≤ code = up.0 in
    Rises-weaker n (suc code) (where_set bits codes) (omega arith) (Rises-where_set (suc code) bits codes up.1)

-- as many are picked as the bits have ones
length-where_set : (bits : List Bool) (codes : List ℕ)
    → length (where_set bits codes) ≡ ones_of (take (length codes) bits)
unfolding where_set
length-where_set [] [] = sym ones_of-nil
length-where_set [] (code ∷ codes) = sym ones_of-nil
length-where_set (bit ∷ bits) [] = sym ones_of-nil
length-where_set (true ∷ bits) (code ∷ codes) =
    omega (arith, length-where_set bits codes, ones_of-cons true (take (length codes) bits))
length-where_set (false ∷ bits) (code ∷ codes) =
    omega (arith, length-where_set bits codes, ones_of-cons false (take (length codes) bits))

-- a number that is below all does not matter to them
map_without : (code : ℕ) (others xs : List ℕ) → Rises (suc code) xs
    → map (is_in (code ∷ others)) xs ≡ map (is_in others) xs
map_without code others [] up = refl
map_without code others (x ∷ xs) up =
    let low : suc code ≤ x = up.0 in
    let rest = map_without code others xs (Rises-weaker (suc code) (suc x) xs (omega arith) up.1) in
    rw (is_in-other code others x (λ e. omega arith)) (ap (λ bs. is_in others x ∷ bs) rest)

-- what is picked tells the bits
map-where_set : (n : ℕ) (bits : List Bool) (codes : List ℕ) → Rises n codes → length codes ≤ length bits
    → map (is_in (where_set bits codes)) codes ≡ take (length codes) bits
unfolding where_set
map-where_set n bits [] up within = refl
map-where_set n [] (code ∷ codes) up within = absurd (omega arith)
map-where_set n (true ∷ bits) (code ∷ codes) up within =
    let kept : List ℕ = where_set bits codes in
    let rest = map-where_set (suc code) bits codes up.1 (omega arith) in
    ap (λ b. b ∷ map (is_in (code ∷ kept)) codes) (is_in-first code kept)
    ∙ ap (λ bs. true ∷ bs) (map_without code kept codes up.1 ∙ rest)
map-where_set n (false ∷ bits) (code ∷ codes) up within =
    let kept : List ℕ = where_set bits codes in
    let above = Rises-where_set (suc code) bits codes up.1 in
    ap (λ b. b ∷ map (is_in kept) codes) (is_in-below (suc code) kept code above (omega arith))
    ∙ ap (λ bs. false ∷ bs) (map-where_set (suc code) bits codes up.1 (omega arith))

-- numbers that rise, have these prefixes and have these bits
record AreBelow (widths above : List ℕ) (bits : List Bool) (codes : List ℕ) : Type 0 where
  pub rising : Rises 0 codes
  pub parents : prefixes (digits_in widths) codes ≡ above
  pub exact : morton_bits widths codes ≡ bits

-- one level more, where the prefixes that its bits pick are those of the numbers
module _ (w : ℕ) (ws above : List ℕ) (bits : List Bool) (codes : List ℕ) (up : Rises 0 above)
    (none : group_flaw (fan_of w) (length above) bits ≡ None)
    (below : AreBelow ws (where_set bits (children_of_prefixes (fan_of w) above)) (drop (fan_of w * length above) bits) codes) where
  abbrev n : ℕ
  n = digits_in ws

  rises_below : Rises 0 (children_of_prefixes (fan_of w) above)
  rises_below = let e : fan_of w * 0 ≡ 0 = omega arith in rw e at (children_of_prefixes-rises (fan_of w) 0 above up)

  same_parents : prefixes (w + n) codes ≡ above
  same_parents =
      same_from_rising 0 (prefixes (w + n) codes) above (prefixes-rise (w + n) codes below.rising) up
      (λ c. is_in-parents w n codes c ∙ ap (list_any (λ x. x / 4 ^ w == c)) below.parents
      ∙ parents-where_set (fan_of w) above bits c (fan_pos w) none)

  same_level : level_bits w n codes ≡ take (fan_of w * length above) bits
  unfolding level_bits
  same_level =
      let within : length (children_of_prefixes (fan_of w) above) ≤ length bits =
      omega (arith, group_flaw-within (fan_of w) (length above) bits none, length-children_of_prefixes (fan_of w) above) in
      rw (below.parents, same_parents) (map-where_set 0 bits (children_of_prefixes (fan_of w) above) rises_below within
      ∙ ap (λ k. take k bits) (length-children_of_prefixes (fan_of w) above))

  level_more : AreBelow (w ∷ ws) above bits codes
  unfolding morton_bits digits_in
  level_more = record {
    rising = below.rising;
    parents = same_parents;
    exact = rw (same_level, below.exact) (take-append-drop (fan_of w * length above) bits);
  }

-- where nothing is flawed after the last level, nothing is there
behind : (groups : ℕ) (bits : List Bool) → level_flaw [] groups bits ≡ None → [] ≡ bits
unfolding level_flaw
behind groups [] none = refl
behind groups (bit ∷ bits) none = absurd (none-some 0 (sym none))

-- a level without a flaw, and those below it
level_flaw-none : (w : ℕ) (ws : List ℕ) (groups : ℕ) (bits : List Bool) → level_flaw (w ∷ ws) groups bits ≡ None
    → (group_flaw (fan_of w) groups bits ≡ None)
    × (level_flaw ws (ones_of (take (fan_of w * groups) bits)) (drop (fan_of w * groups) bits) ≡ None)
unfolding level_flaw
level_flaw-none w ws groups bits none =
    let rest : Option ℕ = level_flaw ws (ones_of (take (fan_of w * groups) bits)) (drop (fan_of w * groups) bits) in
    let parts = or-none (group_flaw (fan_of w) groups bits) (option_map (λ place. fan_of w * groups + place) rest) none
    in
    (parts.0, map-none (λ place. fan_of w * groups + place) rest parts.1)

-- levels without a flaw are those of the numbers that they tell
AreBelow-codes_below : (widths above : List ℕ) (bits : List Bool) → Rises 0 above
    → level_flaw widths (length above) bits ≡ None → AreBelow widths above bits (codes_below widths above bits)
unfolding codes_below morton_bits digits_in
AreBelow-codes_below [] above bits up none =
    record { rising = up; parents = prefixes-zero above up; exact = behind (length above) bits none }
AreBelow-codes_below (w ∷ ws) above bits up none =
    let parts = level_flaw-none w ws (length above) bits none in
    let kept : List ℕ = where_set bits (children_of_prefixes (fan_of w) above) in
    let rest : List Bool = drop (fan_of w * length above) bits in
    let ones : ones_of (take (fan_of w * length above) bits) ≡ length kept =
    sym (length-where_set bits (children_of_prefixes (fan_of w) above)
    ∙ ap (λ k. ones_of (take k bits)) (length-children_of_prefixes (fan_of w) above)) in
    let none' : level_flaw ws (length kept) rest ≡ None = ap (λ k. level_flaw ws k rest) (sym ones) ∙ parts.1 in
    let e : fan_of w * 0 ≡ 0 = omega arith in
    let up' : Rises 0 (children_of_prefixes (fan_of w) above) = rw e at (children_of_prefixes-rises (fan_of w) 0 above up) in
    level_more w ws above bits (codes_below ws kept rest) up parts.0
    (AreBelow-codes_below ws kept rest (Rises-where_set 0 bits (children_of_prefixes (fan_of w) above) up') none')

-- a number whose prefix is 0 is small
small_prefix : (n code : ℕ) → is_in (0 ∷ []) (code / 4 ^ n) ≡ true → code < 4 ^ n
small_prefix n code is =
    let none : code / 4 ^ n ≡ 0 = grind (arith, nat_tests) in
    omega (arith, lt-div-mul-add {a = code} {b = 4 ^ n} (fan_pos n), ap (λ k. k * 4 ^ n) none)

-- numbers whose one prefix is 0 are small
small_from_top : (n : ℕ) (codes : List ℕ) → prefixes n codes ≡ 0 ∷ [] → All (λ code. code < 4 ^ n) codes
small_from_top n codes top k d within =
    let code : ℕ = get_or codes k d in
    let there = prefixes-of n codes code (by_place codes k code within (get_or_default codes k 0 d within)) in
    small_prefix n code (rw top at there)

-- bits without a flaw are a tree's
pub AreTreeBits-flawless : (height wide : ℕ) (bits : List Bool) → 2 * wide ≤ height → length bits ≤ MAX_TREE
    → tree_flaw (widths_of height wide) bits ≡ None → AreTreeBits height wide bits
unfolding tree_flaw codes_in
AreTreeBits-flawless height wide [] fits few none = record {
  fits = fits;
  codes = record { rising = tt; small = All-nil (λ code. code < 4 ^ height) };
  exact = sym (morton_bits-none (widths_of height wide));
  few = few;
}
AreTreeBits-flawless height wide (bit ∷ bits) fits few none =
    let all : List ℕ = widths_of height wide in
    let codes : List ℕ = codes_below all (0 ∷ []) (bit ∷ bits) in
    let below = AreBelow-codes_below all (0 ∷ []) (bit ∷ bits) (omega arith, tt) none in
    let top : prefixes height codes ≡ 0 ∷ [] = rw (digits_in-widths_of height wide fits) at below.parents in
    record {
      fits = fits;
      codes = record { rising = below.rising; small = small_from_top height codes top };
      exact = sym below.exact;
      few = few;
    }
