-- The places of ones, one after another.
use Rattle.std.proofs.Common.{◌≡◌, ℕ, ◌+◌, ◌<◌, ◌≤◌, Bool, true, false, List, [], ◌∷◌, ◌++◌, cond, map, ap, refl, ◌∙◌, arith, get_or, length, Some}
use Rattle.std.specs.Prelude.{slice_get}
use Rattle.std.specs.List.{range_with_len}
use Rattle.std.proofs.lemmas.List.FromFn.{get_or-map-range_with_len, length-map-range_with_len, map-range_with_len_more}
use Rattle.std.proofs.lemmas.Option.{get_or_from_slice_get}
use Rattle.bit_rank.specs.Bits.{rank_of, select_of}
use Rattle.bit_rank.proofs.RankLemmas.{rank_of-all, rank_of-step, rank_of-zero, select_of-from_IsSelected}
use Rattle.snapshots.specs.Ones.{first_ones, places_of_ones}

-- what is made of one number more
pub map-range_more : {X : Type 0} (f : ℕ → X) (count : ℕ) → map f (range_with_len 0 (count + 1)) ≡ map f (range_with_len 0 count) ++ f count ∷ []
map-range_more f count = map-range_with_len_more f 0 count count (omega arith)

-- one more of them
pub first_ones-more : (bits : List Bool) (count : ℕ) → first_ones bits (count + 1) ≡ first_ones bits count ++ select_of bits (count + 1) ∷ []
first_ones-more bits count = map-range_more (λ rank. select_of bits (rank + 1)) count

-- a place whose bit is one comes after the ones before it
pub first_ones-here : (bits : List Bool) (place : ℕ) → place < length bits → slice_get bits place ≡ Some true
    → first_ones bits (rank_of bits (place + 1)) ≡ first_ones bits (rank_of bits place) ++ place ∷ []
first_ones-here bits place within here =
    let on : get_or bits place false ≡ true = get_or_from_slice_get bits place true false here in
    let step : rank_of bits (place + 1) ≡ rank_of bits place + 1 =
    omega (arith, rank_of-step bits place within ∙ ap (λ b. rank_of bits place + cond b 1 0) on) in
    let its : select_of bits (rank_of bits place + 1) ≡ place =
    select_of-from_IsSelected bits (rank_of bits place + 1) place (record { one = here; rank = refl }) in
    ap (first_ones bits) step ∙ first_ones-more bits (rank_of bits place)
    ∙ ap (λ p. first_ones bits (rank_of bits place) ++ p ∷ []) its

-- a place whose bit is zero adds none
pub first_ones-none : (bits : List Bool) (place : ℕ) → place < length bits → slice_get bits place ≡ Some false
    → first_ones bits (rank_of bits (place + 1)) ≡ first_ones bits (rank_of bits place)
first_ones-none bits place within here =
    let off : get_or bits place false ≡ false = get_or_from_slice_get bits place false false here in
    let step : rank_of bits (place + 1) ≡ rank_of bits place =
    omega (arith, rank_of-step bits place within ∙ ap (λ b. rank_of bits place + cond b 1 0) off) in
    ap (first_ones bits) step

-- all of them
pub first_ones-all : (bits : List Bool) (place : ℕ) → length bits ≤ place → first_ones bits (rank_of bits place) ≡ places_of_ones bits
first_ones-all bits place end = ap (first_ones bits) (rank_of-all bits place end)

-- none before the first place
pub first_ones-begin : (bits : List Bool) → first_ones bits (rank_of bits 0) ≡ []
first_ones-begin bits = ap (first_ones bits) (rank_of-zero bits)

-- the one of a rank
pub first_ones-at : (bits : List Bool) (count rank d : ℕ) → rank < count → get_or (first_ones bits count) rank d ≡ select_of bits (rank + 1)
first_ones-at bits count rank d within =
    get_or-map-range_with_len (λ rank. select_of bits (rank + 1)) 0 count rank rank d within (omega arith)

-- there are as many as are taken
pub length-first_ones : (bits : List Bool) (count : ℕ) → length (first_ones bits count) ≡ count
length-first_ones bits count = length-map-range_with_len (λ rank. select_of bits (rank + 1)) 0 count
