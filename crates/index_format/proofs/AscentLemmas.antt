-- Ascending numbers, one after the other and by place.
use Rattle.std.proofs.Common.{ap, ◌∙◌, Ok, lit<, Bool, ◌≡◌, ℕ, zero, suc, ◌+◌, ◌-◌, ◌*◌, ◌<◌, ◌≤◌, ◌^◌, List, [], ◌∷◌, length, get_or, refl, subst, arith}
use Rattle.std.specs.Prelude.{None}
use Rattle.std.proofs.Math.Nat.{pow-le-pow_right, mul-le-mul_right}
use Rattle.std.specs.List.Sorted.{IsStrictlyIncreasing}
use Rattle.list_laws.proofs.IncreasingLemmas.{increasing-below}
use Rattle.spiral_code.specs.Spiral.{square}
use Rattle.rule_store.specs.Flaws.{code_flaw, reach_limit}
use Rattle.rule_store.proofs.FlawLemmas.{code_flaw-none, leads_out-below, value-short}
use Rattle.track_types.specs.PartsForm.{AreShort}
use Rattle.track_types.specs.declared.limit.TheConstants.{MAX_HEIGHT}
use Rattle.index_format.specs.Fields.{items_at}
use Rattle.index_format.specs.OutlineLists.{value_in}
use Rattle.index_format.proofs.GapLaws.{AscendsTo, gaps-only, values-gapped}

-- a number at each place is from a least to a greatest one
abbrev pub AreWithin : ℕ → ℕ → List ℕ → Type 0
AreWithin least greatest numbers = (k : ℕ) → k < length numbers → (least ≤ get_or numbers k 0) × (get_or numbers k 0 ≤ greatest)

-- numbers that rise ascend one after the other
pub ascends-from : (greatest least : ℕ) (numbers : List ℕ) → IsStrictlyIncreasing numbers → AreWithin least greatest numbers
    → AscendsTo greatest least numbers
ascends-from greatest least [] rising within = tt
ascends-from greatest least (number ∷ numbers) rising within = (
  (within 0 (omega arith)).0,
  (within 0 (omega arith)).1,
  ascends-from greatest (suc number) numbers (λ k more.
      subst (λ n. get_or numbers k 0 < get_or (number ∷ numbers) n 0) (up k) (rising (suc k) (omega (arith, more)))) (λ k some. (
        increasing-below (number ∷ numbers) rising 0 (suc k) (omega arith) (omega (arith, some)),
        (within (suc k) (omega (arith, some))).1,
      )),
)
  where
    up : (k : ℕ) → suc k + 1 ≡ suc (k + 1)
    up k = omega arith

-- numbers that ascend one after the other are in the range
pub ascends-within : (greatest least : ℕ) (numbers : List ℕ) → AscendsTo greatest least numbers → AreWithin least greatest numbers
ascends-within greatest least [] ascends k some = absurd (omega (arith, some))
ascends-within greatest least (number ∷ numbers) ascends zero some = (ascends.0, ascends.1)
ascends-within greatest least (number ∷ numbers) ascends (suc k) some =
    let later = ascends-within greatest (suc number) numbers ascends.2 k (omega (arith, some)) in
    (omega (arith, ascends.0, later.0), later.1)

-- and rise
pub ascends-rises : (greatest least : ℕ) (numbers : List ℕ) → AscendsTo greatest least numbers → IsStrictlyIncreasing numbers
ascends-rises greatest least [] ascends k some = absurd (omega (arith, some))
ascends-rises greatest least (number ∷ numbers) ascends zero some =
    (ascends-within greatest (suc number) numbers ascends.2 0 (omega (arith, some))).0
ascends-rises greatest least (number ∷ numbers) ascends (suc k) some =
    let up : suc (k + 1) ≡ suc k + 1 = omega arith in
    subst (λ n. get_or numbers k 0 < get_or (number ∷ numbers) n 0) up
    (ascends-rises greatest (suc number) numbers ascends.2 k (omega (arith, some)))

-- objects in their range ascend to the greatest
pub objects-ascend : (objects : List ℕ) → IsStrictlyIncreasing objects → AreShort objects → AscendsTo (2 ^ 32 - 1) 0 objects
objects-ascend objects rising short =
    ascends-from (2 ^ 32 - 1) 0 objects rising (λ k some. (omega arith, omega (arith, short k 0 some)))

-- and are in it
pub objects-short : (objects : List ℕ) → AscendsTo (2 ^ 32 - 1) 0 objects → AreShort objects
objects-short objects ascends = λ k d some.
    let within = (ascends-within (2 ^ 32 - 1) 0 objects ascends k some).1 in
    rw (get_or-any objects k d some) (omega (arith, within))
  where
    get_or-any : (xs : List ℕ) (k d : ℕ) → k < length xs → get_or xs k d ≡ get_or xs k 0
    get_or-any [] k d some = absurd (omega (arith, some))
    get_or-any (x ∷ xs) zero d some = refl
    get_or-any (x ∷ xs) (suc k) d some = get_or-any xs k d (omega (arith, some))

module _ (height : ℕ) (alphabet : List ℕ) where
  -- values without a flaw ascend to the greatest
  pub values-ascend : IsStrictlyIncreasing alphabet → code_flaw height alphabet ≡ None
      → AscendsTo (square (2 * reach_limit height + 1)) 0 alphabet
  values-ascend rising near =
      ascends-from (square (2 * reach_limit height + 1)) 0 alphabet rising (λ k some. (omega arith, value-short height alphabet k near some))

  -- and have no flaw
  pub values-near : AscendsTo (square (2 * reach_limit height + 1)) 0 alphabet → code_flaw height alphabet ≡ None
  values-near ascends = code_flaw-none height alphabet (λ k some.
      leads_out-below height (get_or alphabet k 0) (ascends-within (square (2 * reach_limit height + 1)) 0 alphabet ascends k some).1)

-- codes of movements within a grid, and values of them, are well below 2^50
pub area-small : (height : ℕ) → height ≤ MAX_HEIGHT → square (2 * reach_limit height + 1) + 2 < 2 ^ 50
area-small height low =
    let most : 2 ^ height ≤ 2 ^ 24 = pow-le-pow_right {n = 2} (lit< tt) {i = height} {j = 24} low in
    let side = 2 * reach_limit height + 1 in
    let few : side ≤ 33554431 = omega (arith, most) in
    let area : side * side ≤ 33554431 * side = mul-le-mul_right side few in
    omega (arith, area, few)

-- the greatest value of the alphabet is read as a number
pub small_values : (height : ℕ) → height ≤ MAX_HEIGHT → square (2 * reach_limit height + 1) + 2 ≤ 2 ^ 56
small_values height low = omega (arith, area-small height low)

-- values that were read: so many, without a flaw
pub values-read : (height count : ℕ) (values : List ℕ) (bits rest : List Bool) → height ≤ MAX_HEIGHT
    → items_at (value_in height) count [] bits ≡ Ok (values, rest) → (length values ≡ count) × (code_flaw height values ≡ None)
values-read height count values bits rest low read =
    let it = gaps-only (values-gapped height (small_values height low)) count [] bits values rest read in
    let whole : values ≡ it.numbers = it.whole in
    (ap length whole ∙ it.long, ap (code_flaw height) whole ∙ values-near height it.numbers it.ascends)
