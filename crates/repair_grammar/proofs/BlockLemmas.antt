-- Blocks one after the other: what is in front and behind, and that they come apart again.
use Rattle.std.proofs.Common.{◌≡◌, ℕ, ◌+◌, ◌<◌, ◌≤◌, List, [], ◌∷◌, add-one, drop, get_or, length, map, refl, sym, take, ◌∙◌, ap}
use Rattle.std.specs.List.{flat_map, sum}
use Rattle.std.proofs.Math.Seq.{drop-append_seam, drop-cons, take-append_seam}
use Rattle.std.proofs.lemmas.List.{drop_all}
use Rattle.std.proofs.lemmas.List.Concat.{length-flat_map}
use Rattle.std.proofs.lemmas.List.Sums.{sum-map, sum_by-cons}
use Rattle.repair_grammar.specs.Blocks.{split_by}

-- no block is left behind the last length
pub split_by-none : (lengths rest : List ℕ) (place : ℕ) → length lengths ≤ place → split_by (drop place lengths) rest ≡ []
unfolding split_by
split_by-none lengths rest place past = ap (λ all. split_by all rest) (drop_all place lengths past)

module _ (lengths : List ℕ) (place : ℕ) (within : place < length lengths) where
  parted : drop place lengths ≡ get_or lengths place 0 ∷ drop (place + 1) lengths
  parted = rw add-one (drop-cons lengths place 0 within)

  -- the next block, and those behind it
  pub split_by-next : (rest block behind : List ℕ) → block ≡ take (get_or lengths place 0) rest →
      behind ≡ drop (get_or lengths place 0) rest →
      split_by (drop place lengths) rest ≡ block ∷ split_by (drop (place + 1) lengths) behind
  unfolding split_by
  split_by-next rest block behind front back = rw (front, back) (ap (λ all. split_by all rest) parted)

  -- so many symbols are behind it
  pub sum-next : sum (drop place lengths) ≡ get_or lengths place 0 + sum (drop (place + 1) lengths)
  sum-next = ap sum parted ∙ sum_by-cons (λ n. n) (get_or lengths place 0) (drop (place + 1) lengths)

-- blocks one after the other are split into these blocks
pub split_by-joined : (blocks : List (List ℕ)) → split_by (map length blocks) (flat_map (λ block. block) blocks) ≡ blocks
unfolding split_by
split_by-joined [] = refl
split_by-joined (block ∷ blocks) =
    let later : List ℕ = flat_map (λ block. block) blocks in
    rw (take-append_seam block later, drop-append_seam block later) (ap (λ rest. block ∷ rest) (split_by-joined blocks))

-- none of their symbols is left over
pub sum-joined : (blocks : List (List ℕ)) → sum (map length blocks) ≡ length (flat_map (λ block. block) blocks)
sum-joined blocks = sum-map length blocks ∙ sym (length-flat_map (λ (block : List ℕ). block) blocks)
