-- Where a value stands, and what stands there.
use Rattle.std.proofs.Common.{◌≡◌, ℕ, ◌<◌, false, eqb, List, length, get_or, sym, ◌∙◌, arith}
use Rattle.std.proofs.lemmas.Bool.{eq-eqb, ne_eqb, eqb-true}
use Rattle.std.proofs.lemmas.List.Sums.{position_or_len_is, passes_at_first}
use Rattle.object_perm.specs.Permutation.{PermutesPlaces, inverse_of}

-- a value's place is the only one where it stands
pub inverse_of-at : (values : List ℕ) (i v : ℕ) → PermutesPlaces values → i < length values → get_or values i 0 ≡ v →
    inverse_of values v ≡ i
inverse_of-at values i v permutes within here =
    let before : (k : ℕ) → k < i → eqb (get_or values k 0) v ≡ false =
    λ k earlier. ne_eqb (get_or values k 0) v (λ there.
    let same = permutes.apart k i (omega arith) within (there ∙ sym here) in omega (arith, same, earlier)) in
    position_or_len_is (λ value. eqb value v) values i 0 (omega arith) before
    (λ inside. eq-eqb (get_or values i 0) v here)

-- at a value's place stands the value, if it stands anywhere
pub at-inverse_of : (values : List ℕ) (v : ℕ) → inverse_of values v < length values →
    get_or values (inverse_of values v) 0 ≡ v
at-inverse_of values v within = eqb-true (get_or values (inverse_of values v) 0) v
    (passes_at_first (λ value. eqb value v) values 0 within)
