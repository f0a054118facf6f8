-- A list, its front and its back: what holds of each element, tests, strict order, one element after the other,
-- and a front that grows by one.
use Rattle.std.proofs.Common.{◌≡◌, ℕ, ◌+◌, ◌-◌, ◌<◌, List, [], ◌∷◌, ◌++◌, length, All, get_or, slice_index, inl, inr, sym, ap, ◌∙◌, arith, Bool, false}
use Rattle.std.specs.List.Sorted.{IsStrictlyIncreasing}
use Rattle.std.specs.List.{list_any}
use Rattle.std.proofs.lemmas.Bool.{cases_lt, or_parts}
use Rattle.std.proofs.lemmas.List.{length-append, get_or_append_left}
use Rattle.std.proofs.Math.Seq.{get_or-append_seam}
use Rattle.std.proofs.lemmas.List.Elements.{All-append, All-from_recursion, All-tail}
use Rattle.std.proofs.lemmas.List.Folds.{list_any-append}

-- what holds of each element holds of each of the front
pub All-front : {X : Type 0} (P : X → Type 0) (xs ys : List X) → All P (xs ++ ys) → All P xs
All-front P xs ys all k d within =
    rw (sym (get_or_append_left xs ys d k within)) (all k d (omega (arith, length-append xs ys)))

-- and of the back
pub All-back : {X : Type 0} (P : X → Type 0) (xs ys : List X) → All P (xs ++ ys) → All P ys
All-back P [] ys each = each
All-back P (x ∷ xs) ys each = All-back P xs ys (All-tail P x (xs ++ ys) each)

-- and of the last
pub All-last : {X : Type 0} (P : X → Type 0) (xs : List X) (x : X) → All P (xs ++ x ∷ []) → P x
All-last P xs x all =
    rw (sym (get_or-append_seam xs x [] x)) (all (length xs) x (omega (arith, length-append xs (x ∷ []))))

-- one more element of which it holds
pub All-snoc : {X : Type 0} (P : X → Type 0) (xs : List X) (x : X) → All P xs → P x → All P (xs ++ x ∷ [])
All-snoc P xs x all one = All-append P xs (x ∷ []) all (All-from_recursion P (x ∷ []) (one, tt))

-- the front of numbers that rise does
pub IsStrictlyIncreasing-front : (xs ys : List ℕ) → IsStrictlyIncreasing (xs ++ ys) → IsStrictlyIncreasing xs
IsStrictlyIncreasing-front xs ys up k within =
    rw (sym (get_or_append_left xs ys 0 k (omega arith)), sym (get_or_append_left xs ys 0 (k + 1) within))
    (up k (omega (arith, length-append xs ys)))

-- the last is greater than the one before it
pub IsStrictlyIncreasing-last : (xs : List ℕ) (n : ℕ) → IsStrictlyIncreasing (xs ++ n ∷ []) → 0 < length xs
    → slice_index xs (length xs - 1) < n
IsStrictlyIncreasing-last xs n up some =
    let long : length xs - 1 + 1 ≡ length xs = omega arith in
    let before = get_or_append_left xs (n ∷ []) 0 (length xs - 1) (omega arith) in
    let last = ap (λ k. get_or (xs ++ n ∷ []) k 0) long ∙ get_or-append_seam xs n [] 0 in
    omega (arith, up (length xs - 1) (omega (arith, length-append xs (n ∷ []))), before, last)

-- one more number that is greater than the last
pub IsStrictlyIncreasing-snoc : (xs : List ℕ) (n : ℕ) → IsStrictlyIncreasing xs
    → (0 < length xs → slice_index xs (length xs - 1) < n) → IsStrictlyIncreasing (xs ++ n ∷ [])
IsStrictlyIncreasing-snoc xs n up above k within =
    let first = get_or_append_left xs (n ∷ []) 0 k (omega (arith, length-append xs (n ∷ []))) in
    elim (cases_lt (k + 1) (length xs)) [
      | inl low ↦
          let second = get_or_append_left xs (n ∷ []) 0 (k + 1) low in
          omega (arith, up k low, first, second)
      | inr high ↦
          let long : k + 1 ≡ length xs = omega (arith, length-append xs (n ∷ [])) in
          let second = ap (λ k. get_or (xs ++ n ∷ []) k 0) long ∙ get_or-append_seam xs n [] 0 in
          let place : length xs - 1 ≡ k = omega (arith, long) in
          let below : get_or xs k 0 < n = rw (sym place) (above (omega (arith, long))) in
          omega (arith, below, first, second)
    ]

-- none of the first ones passes where none of all passes
pub list_any-front : {X : Type 0} (p : X → Bool) (xs ys : List X) → list_any p (xs ++ ys) ≡ false → list_any p xs ≡ false
list_any-front p xs ys none = (or_parts (list_any p xs) (list_any p ys) (sym (list_any-append p xs ys) ∙ none)).0
