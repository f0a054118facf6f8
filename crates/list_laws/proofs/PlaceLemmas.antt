-- Tests and searches by places: no place passes, the first one that does, the last one.
use Rattle.std.proofs.Common.{◌≡◌, ℕ, zero, suc, ◌-◌, ◌<◌, Bool, true, false, List, [], ◌∷◌, length, get_or, Some, None, arith, refl, ◌∙◌, ap}
use Rattle.std.specs.Prelude.{find, reverse}
use Rattle.std.specs.List.{list_any}
use Rattle.std.proofs.lemmas.List.{get_or-reverse, length-reverse}

module _ {X : Type 0} (p : X → Bool) (d : X) where
  -- none passes
  pub list_any-none_at : (xs : List X) → ((k : ℕ) → k < length xs → p (get_or xs k d) ≡ false) → list_any p xs ≡ false
  list_any-none_at [] fails = refl
  list_any-none_at (x ∷ xs) fails =
      rw (fails 0 (omega arith), list_any-none_at xs (λ k below. fails (suc k) (omega arith))) refl

  -- and so none is found
  pub find_none_at : (xs : List X) → ((k : ℕ) → k < length xs → p (get_or xs k d) ≡ false) → find p xs ≡ None
  find_none_at [] fails = refl
  find_none_at (x ∷ xs) fails =
      rw (fails 0 (omega arith)) (find_none_at xs (λ k below. fails (suc k) (omega arith)))

  -- the first one that passes
  pub find_first_at : (xs : List X) (i : ℕ) → i < length xs → p (get_or xs i d) ≡ true →
      ((k : ℕ) → k < i → p (get_or xs k d) ≡ false) → find p xs ≡ Some (get_or xs i d)
  find_first_at [] i below passes fails = absurd (omega arith)
  find_first_at (x ∷ xs) zero below passes fails = rw passes refl
  find_first_at (x ∷ xs) (suc i) below passes fails =
      rw (fails 0 (omega arith)) (find_first_at xs i (omega arith) passes (λ k before. fails (suc k) (omega arith)))

  -- the last one that passes
  pub find_last_at : (xs : List X) (i : ℕ) → i < length xs → p (get_or xs i d) ≡ true →
      ((k : ℕ) → i < k → k < length xs → p (get_or xs k d) ≡ false) → find p (reverse xs) ≡ Some (get_or xs i d)
  find_last_at xs i below passes fails =
      let back : ℕ = length xs - 1 - i in
      let again : length xs - 1 - back ≡ i = omega arith in
      let there : get_or (reverse xs) back d ≡ get_or xs i d =
      get_or-reverse xs back d (omega arith) ∙ ap (λ k. get_or xs k d) again in
      find_first_at (reverse xs) back (omega (arith, length-reverse xs)) (ap p there ∙ passes)
      (λ k before. ap p (get_or-reverse xs k d (omega arith)) ∙ fails (length xs - 1 - k) (omega arith) (omega arith))
      ∙ ap Some there
