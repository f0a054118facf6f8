-- Numbers that are put to the places that a permutation tells.
use Rattle.std.proofs.Common.{◌≡◌, ◌≢◌, ℕ, ◌+◌, ◌<◌, ◌≤◌, Bool, true, false, List, get_or, inl, inr, length, set, arith, ap, sym, ◌∙◌, cond}
use mir.Val.{bool_byte}
use Rattle.std.specs.Prelude.{slice_get, slice_index, Some}
use Rattle.std.proofs.lemmas.Option.{get_or_from_slice_get}
use Rattle.bit_rank.proofs.RankLemmas.{rank_of-step}
use Rattle.std.proofs.lemmas.Bool.{cases_lt}
use Rattle.std.proofs.lemmas.List.{get_or-set_other, get_or-set_same}
use Rattle.bit_rank.specs.Bits.{rank_of}
use Rattle.object_perm.specs.Permutation.{PermutesPlaces, inverse_of}
use Rattle.object_perm.proofs.InverseLemmas.{at-inverse_of}
use Rattle.object_perm.proofs.OntoLemmas.{inverse_of-within}

-- a bit as a number is at most one
pub bit-step : (bit : Bool) → bool_byte bit ≤ 1
bit-step true = omega arith
bit-step false = omega arith

-- a bit counts as its byte
pub bit-counts : (bit : Bool) → bool_byte bit ≡ cond bit 1 0
bit-counts true = omega arith
bit-counts false = omega arith

-- one more is put, and the others stay
pub placed-more : (perm leaves codes : List ℕ) (lasts : List Bool) (place leaf : ℕ) → PermutesPlaces perm → place < length perm →
    length codes ≡ length perm → leaf ≡ rank_of lasts place →
    ((p : ℕ) → p < place → slice_index codes (slice_index perm p) ≡ slice_index leaves (rank_of lasts p)) →
    (p : ℕ) → p < place + 1 →
    slice_index (set codes (get_or perm place 0) (get_or leaves leaf 0)) (slice_index perm p) ≡ slice_index leaves (rank_of lasts p)
placed-more perm leaves codes lasts place leaf permutes within long is each p below = elim (cases_lt p place) [
  | inl before ↦
      let apart : slice_index perm p ≢ get_or perm place 0 = λ same.
      (let one = permutes.apart p place (omega arith) within same in absurd (omega (arith, one))) in
      get_or-set_other codes (get_or perm place 0) (slice_index perm p) (get_or leaves leaf 0) 0 apart ∙ each p before
  | inr here ↦
      let same : p ≡ place = omega arith in
      ap (λ q. slice_index (set codes (get_or perm place 0) (get_or leaves leaf 0)) (slice_index perm q)) same
      ∙ get_or-set_same codes (get_or perm place 0) (get_or leaves leaf 0) 0 (omega (arith, permutes.within place within, long))
      ∙ ap (slice_index leaves) (is ∙ ap (rank_of lasts) (sym same))
]

-- what was put to all places is read by each
pub by-inverse : (perm leaves codes : List ℕ) (lasts : List Bool) → PermutesPlaces perm → length codes ≡ length perm →
    ((p : ℕ) → p < length perm → slice_index codes (slice_index perm p) ≡ slice_index leaves (rank_of lasts p)) →
    (rank : ℕ) → rank < length codes → slice_index codes rank ≡ slice_index leaves (rank_of lasts (inverse_of perm rank))
by-inverse perm leaves codes lasts permutes long each rank within =
    let inside = inverse_of-within perm rank permutes (omega (arith, long)) in
    ap (slice_index codes) (sym (at-inverse_of perm rank inside)) ∙ each (inverse_of perm rank) inside

-- the rank behind a bit that was read
pub rank-more : (bits : List Bool) (p : ℕ) (bit : Bool) → p < length bits → slice_get bits p ≡ Some bit →
    rank_of bits (p + 1) ≡ rank_of bits p + bool_byte bit
rank-more bits p bit within read =
    rank_of-step bits p within
    ∙ ap (λ (b : Bool). rank_of bits p + cond b 1 0) (get_or_from_slice_get bits p bit false read)
    ∙ ap (λ n. rank_of bits p + n) (sym (bit-counts bit))
