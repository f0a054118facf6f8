-- How long lists laid end to end are, where something is known of the length of each.
use Rattle.std.proofs.Common.{◌≡◌, ℕ, ◌*◌, ◌≤◌, List, [], ◌∷◌, length, All, arith}
use Rattle.std.specs.List.{flat_map}
use Rattle.std.proofs.lemmas.List.{length-append}
use Rattle.std.proofs.lemmas.List.Elements.{All-head, All-tail}

module _ {X A : Type 0} (f : X → List A) (n : ℕ) where
  -- lists of one length
  pub length-flat_map-alike : ((x : X) → length (f x) ≡ n) → (xs : List X) → length (flat_map f xs) ≡ n * length xs
  length-flat_map-alike alike [] = omega arith
  length-flat_map-alike alike (x ∷ xs) =
      omega (arith, length-append (f x) (flat_map f xs), alike x, length-flat_map-alike alike xs)

  -- lists that are no longer than so much
  pub length-flat_map-within : (xs : List X) → All (λ x. length (f x) ≤ n) xs → length (flat_map f xs) ≤ n * length xs
  length-flat_map-within [] within = omega arith
  length-flat_map-within (x ∷ xs) within =
      omega (
        arith,
        length-append (f x) (flat_map f xs),
        All-head (λ y. length (f y) ≤ n) x xs within,
        length-flat_map-within xs (All-tail (λ y. length (f y) ≤ n) x xs within),
      )
