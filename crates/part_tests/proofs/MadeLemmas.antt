-- Made-up places, as the tests make them.
use Rattle.std.specs.Prelude.{nat_lt, if◌then◌else◌}
use Rattle.std.proofs.Common.{lit≤, Bool, true, false, ℕ, zero, suc, ◌<◌, ◌≤◌, List, [], ◌∷◌, ◌++◌, All, arith}
use Rattle.std.proofs.lemmas.List.Elements.{All-append, All-cons, All-head, All-nil, All-tail, All-weaker}
use Rattle.box_tree.specs.Places.{Ascends}
use Rattle.box_tree.specs.Tree.{levels_below}

-- a number that is at least all others comes last
pub ascends-more : (n : ℕ) (xs : List ℕ) (x : ℕ) → Ascends n xs → All (λ c. c ≤ x) xs → n ≤ x → Ascends n (xs ++ x ∷ [])
ascends-more n [] x up last low = (low, tt)
ascends-more n (y ∷ ys) x up last low =
    let P : ℕ → Type 0 = λ c. c ≤ x in
    (up.0, ascends-more y ys x up.1 (All-tail P y ys last) (All-head P y ys last))

-- and all are at most a greater one
pub last-more : (xs : List ℕ) (x greater : ℕ) → All (λ c. c ≤ x) xs → x ≤ greater → All (λ c. c ≤ greater) (xs ++ x ∷ [])
last-more xs x greater last up =
    let P : ℕ → Type 0 = λ c. c ≤ greater in
    All-append P xs (x ∷ []) (All-weaker (λ c. c ≤ x) P (λ c low. omega (arith, low, up)) xs last) (All-cons P x [] up (All-nil P))

-- one more is below a limit
pub inside-more : (xs : List ℕ) (x limit : ℕ) → All (λ c. c < limit) xs → x < limit → All (λ c. c < limit) (xs ++ x ∷ [])
inside-more xs x limit inside low =
    let P : ℕ → Type 0 = λ c. c < limit in All-append P xs (x ∷ []) inside (All-cons P x [] low (All-nil P))

-- a level takes at most two digits
pub levels-few : (narrow below : ℕ) → All (λ level. level ≤ 2) (levels_below narrow below)
unfolding levels_below
levels-few narrow zero = All-nil (λ level. level ≤ 2)
levels-few narrow (suc below) =
    All-cons (λ level. level ≤ 2) (if nat_lt below narrow then 1 else 2) (levels_below narrow below) (few (nat_lt below narrow))
    (levels-few narrow below)
  where
    few : (b : Bool) → (if b then 1 else 2) ≤ 2
    few true = lit≤ tt
    few false = lit≤ tt
