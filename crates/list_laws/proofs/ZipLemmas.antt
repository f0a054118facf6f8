-- Two lists side by side.
use Rattle.std.proofs.Common.{◌≡◌, ℕ, zero, suc, List, [], ◌∷◌, ◌++◌, length, set, refl, ap, arith, ◌⊎◌, inl, inr}
use Rattle.std.specs.List.{zip}

module _ {X Y : Type 0} where
  -- where both have another element at one place
  pub zip-set : (xs : List X) (ys : List Y) (i : ℕ) (x : X) (y : Y) →
      zip (set xs i x) (set ys i y) ≡ set (zip xs ys) i (x, y)
  zip-set [] ys i x y = refl
  zip-set (a ∷ xs) [] zero x y = refl
  zip-set (a ∷ xs) [] (suc i) x y = refl
  zip-set (a ∷ xs) (b ∷ ys) zero x y = refl
  zip-set (a ∷ xs) (b ∷ ys) (suc i) x y = ap (λ all. (a, b) ∷ all) (zip-set xs ys i x y)

  -- where both have more at the end
  pub zip-append : (xs us : List X) (ys vs : List Y) → length xs ≡ length ys →
      zip (xs ++ us) (ys ++ vs) ≡ zip xs ys ++ zip us vs
  zip-append [] us [] vs same = refl
  zip-append [] us (b ∷ ys) vs same = absurd (omega arith)
  zip-append (a ∷ xs) us [] vs same = absurd (omega arith)
  zip-append (a ∷ xs) us (b ∷ ys) vs same = ap (λ all. (a, b) ∷ all) (zip-append xs us ys vs (omega arith))

  -- where one of them is at its end
  pub zip-ended : (xs : List X) (ys : List Y) → (xs ≡ []) ⊎ (ys ≡ []) → zip xs ys ≡ []
  zip-ended [] ys ended = refl
  zip-ended (x ∷ xs) [] ended = refl
  zip-ended (x ∷ xs) (y ∷ ys) (inl none) = absurd (cc)
  zip-ended (x ∷ xs) (y ∷ ys) (inr none) = absurd (cc)
