-- Pieces of a list that follow each other.
use Rattle.std.proofs.Common.{◌≡◌, ℕ, zero, suc, ◌+◌, ◌-◌, ◌≤◌, List, [], ◌∷◌, ◌++◌, map, take, drop, Option}
use Rattle.std.proofs.Common.{refl, sym, ap, ◌∙◌, arith, inl, inr}
use Rattle.std.specs.List.{filter_map, flat_map, range_with_len, slice_range}
use Rattle.std.specs.Option.{option_map}
use Rattle.std.proofs.Math.Seq.{take-add}
use Rattle.std.proofs.lemmas.List.{drop-drop}
use Rattle.list_laws.proofs.OptionLemmas.{made_cases}
use Rattle.list_laws.proofs.RangeLemmas.{range-more}
use Rattle.std.proofs.lemmas.List.Concat.{flat_map-append}
use Rattle.std.proofs.lemmas.List.{append-nil}

module _ {X : Type 0} (xs : List X) where
  -- two pieces, of which the second begins where the first ends
  pub two-pieces : (a b c : ℕ) → a ≤ b → b ≤ c → slice_range xs a b ++ slice_range xs b c ≡ slice_range xs a c
  two-pieces a b c low high =
      let whole : b - a + (c - b) ≡ c - a = omega arith in
      let start : a + (b - a) ≡ b = omega arith in
      sym (ap (λ n. take n (drop a xs)) (sym whole) ∙ take-add (b - a) (c - b) (drop a xs)
      ∙ ap (λ rest. take (b - a) (drop a xs) ++ take (c - b) rest) (drop-drop (b - a) a xs)
      ∙ ap (λ n. take (b - a) (drop a xs) ++ take (c - b) (drop n xs)) start)

  climbs : (at : ℕ → ℕ) → ((k : ℕ) → at k ≤ at (k + 1)) → (n : ℕ) → at 0 ≤ at n
  climbs at up zero = omega arith
  climbs at up (suc n) =
      let next : n + 1 ≡ suc n = omega arith in
      let step : at n ≤ at (suc n) = rw next at (up n) in
      omega (arith, climbs at up n, step)

  -- so many pieces
  pub pieces : (at : ℕ → ℕ) → ((k : ℕ) → at k ≤ at (k + 1)) → (n : ℕ) →
      flat_map (λ k. slice_range xs (at k) (at (k + 1))) (range_with_len 0 n) ≡ slice_range xs (at 0) (at n)
  pieces at up zero =
      let none : at 0 - at 0 ≡ 0 = omega arith in rw none refl
  pieces at up (suc n) =
      let piece : ℕ → List X = λ k. slice_range xs (at k) (at (k + 1)) in
      let next : n + 1 ≡ suc n = omega arith in
      let step : at n ≤ at (n + 1) = up n in
      ap (λ k. flat_map piece (range_with_len 0 k)) (sym next)
      ∙ ap (flat_map piece) (range-more n)
      ∙ flat_map-append piece (range_with_len 0 n) (n ∷ [])
      ∙ ap (λ front. front ++ flat_map piece (n ∷ [])) (pieces at up n)
      ∙ ap (λ back. slice_range xs (at 0) (at n) ++ back) (append-nil (piece n))
      ∙ two-pieces (at 0) (at n) (at (n + 1)) (climbs at up n) step
      ∙ ap (λ k. slice_range xs (at 0) (at k)) next

-- what is made of what is made of members
pub filter_map-map : {X Y Z : Type 0} (f : Y → Z) (make : X → Option Y) (xs : List X) →
    filter_map (λ x. option_map f (make x)) xs ≡ map f (filter_map make xs)
filter_map-map f make [] = refl
filter_map-map f make (x ∷ xs) = elim (made_cases (make x)) [
  | inl none ↦ rw none (filter_map-map f make xs)
  | inr some ↦ rw some.1 (ap (λ zs. f some.0 ∷ zs) (filter_map-map f make xs))
]
