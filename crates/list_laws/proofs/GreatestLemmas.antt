-- The greatest of some numbers, from one on.
use Rattle.std.proofs.Common.{◌≡◌, ℕ, zero, suc, ◌≤◌, List, [], ◌∷◌, ◌++◌, get_or, map, max, All, ap, ◌∙◌, arith}
use Rattle.std.specs.Prelude.{fold}
use Rattle.std.proofs.lemmas.List.{map-append}
use Rattle.std.proofs.lemmas.List.Elements.{All-cons, All-nil}
use Rattle.std.proofs.lemmas.List.Sums.{fold-append}

-- it is not below the one at which it begins
pub fold_max-start : (numbers : List ℕ) (n : ℕ) → n ≤ fold max n numbers
fold_max-start [] n = omega arith
fold_max-start (other ∷ numbers) n = omega (arith, fold_max-start numbers (max n other))

-- nor below any of them, by its place
pub fold_max-at : (numbers : List ℕ) (n place : ℕ) → get_or numbers place 0 ≤ fold max n numbers
fold_max-at [] n place = omega arith
fold_max-at (other ∷ numbers) n zero = omega (arith, fold_max-start numbers (max n other))
fold_max-at (other ∷ numbers) n (suc place) = fold_max-at numbers (max n other) place

-- nor below what any element gives
pub fold_max-each : {X : Type 0} (f : X → ℕ) (xs : List X) (n : ℕ) → All (λ x. f x ≤ fold max n (map f xs)) xs
fold_max-each f [] n = All-nil (λ x. f x ≤ n)
fold_max-each f (x ∷ xs) n =
    let here : f x ≤ fold max (max n (f x)) (map f xs) = omega (arith, fold_max-start (map f xs) (max n (f x))) in
    All-cons (λ y. f y ≤ fold max (max n (f x)) (map f xs)) x xs here (fold_max-each f xs (max n (f x)))

-- one number more
pub fold_max-more : {X : Type 0} (f : X → ℕ) (xs : List X) (x : X) (n : ℕ)
    → fold max n (map f (xs ++ x ∷ [])) ≡ max (fold max n (map f xs)) (f x)
fold_max-more f xs x n = ap (fold max n) (map-append f xs (x ∷ [])) ∙ fold-append max n (map f xs) (f x ∷ [])
