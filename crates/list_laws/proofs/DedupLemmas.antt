-- Lists without repeats of neighbours.
use Rattle.std.proofs.Common.{◌≡◌, Bool, List, [], ◌∷◌, map, refl, ap, inl, inr, true, find, arith}
use Rattle.std.specs.List.{dedup, dedup_from}
use Rattle.std.proofs.lemmas.Bool.{cases_Bool}

-- neighbours are the same where what is made of them is
module _ {X Y : Type 0} (f : X → Y) (same : Y → Y → Bool) where
  map-dedup_from : (x : X) (xs : List X) →
      map f (dedup_from (λ a b. same (f a) (f b)) x xs) ≡ dedup_from same (f x) (map f xs)
  map-dedup_from x [] = refl
  map-dedup_from x (y ∷ ys) = elim (cases_Bool (same (f y) (f x))) [
    | inl alike ↦ rw alike (map-dedup_from x ys)
    | inr apart ↦ rw apart (ap (λ zs. f x ∷ zs) (map-dedup_from y ys))
  ]

  -- what is made of the elements that `dedup` leaves
  pub map-dedup : (xs : List X) → map f (dedup (λ a b. same (f a) (f b)) xs) ≡ dedup same (map f xs)
  map-dedup [] = refl
  map-dedup (x ∷ xs) = map-dedup_from x xs

-- a test is alike for elements that count as the same
module _ {X : Type 0} (same : X → X → Bool) (p : X → Bool) (alike : (a b : X) → same a b ≡ true → p a ≡ p b) where
  find-dedup_from : (k : X) (xs : List X) → find p (dedup_from same k xs) ≡ find p (k ∷ xs)
  find-dedup_from k [] = refl
  find-dedup_from k (x ∷ xs) = grind (arith, alike x k, find-dedup_from k xs, find-dedup_from x xs)

  -- a search finds the same in what `dedup` leaves
  pub find-dedup : (xs : List X) → find p (dedup same xs) ≡ find p xs
  find-dedup [] = refl
  find-dedup (x ∷ xs) = find-dedup_from x xs
