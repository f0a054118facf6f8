-- What stands at a place of a list, of two lists or where some are left out; and some elements of a list.
use Rattle.std.proofs.Common.{◌≡◌, ℕ, zero, suc, ◌+◌, ◌-◌, ◌<◌, List, [], ◌∷◌, ◌++◌, length, take, drop, Some, arith, refl, sym, ap, ◌∙◌, length-append}
use Rattle.std.specs.Prelude.{slice_get}
use Rattle.std.proofs.lemmas.List.{length-drop}
use Rattle.std.proofs.lemmas.Option.{get_or_from_slice_get}
use Rattle.std.proofs.Math.Seq.{get_or-append_seam, take-length}

-- what stands in the first list
pub slice_get-append_left : {X : Type 0} (xs ys : List X) (i : ℕ) → i < length xs → slice_get (xs ++ ys) i ≡ slice_get xs i
slice_get-append_left [] ys i within = absurd (omega arith)
slice_get-append_left (x ∷ xs) ys zero within = refl
slice_get-append_left (x ∷ xs) ys (suc i) within = slice_get-append_left xs ys i (omega arith)

-- what stands in the second list
pub slice_get-append_add : {X : Type 0} (xs ys : List X) (i : ℕ) → slice_get (xs ++ ys) (length xs + i) ≡ slice_get ys i
slice_get-append_add [] ys i = let e : 0 + i ≡ i = omega arith in ap (slice_get ys) e
slice_get-append_add (x ∷ xs) ys i =
    let e : suc (length xs) + i ≡ suc (length xs + i) = omega arith in
    ap (slice_get (x ∷ xs ++ ys)) e ∙ slice_get-append_add xs ys i

-- what is read after a front is what stands there
slice_get-seam : {X : Type 0} (front : List X) (x : X) (back : List X) (y : X) → slice_get (front ++ x ∷ back) (length front) ≡ Some y → x ≡ y
slice_get-seam front x back y is =
    sym (get_or-append_seam front x back y) ∙ get_or_from_slice_get (front ++ x ∷ back) (length front) y y is

-- and at the last place the last one
pub slice_get-last : {X : Type 0} (xs : List X) (x y : X) → slice_get (xs ++ x ∷ []) (length (xs ++ x ∷ []) - 1) ≡ Some y → x ≡ y
slice_get-last xs x y is =
    let place : length (xs ++ x ∷ []) - 1 ≡ length xs = omega (arith, length-append xs (x ∷ [])) in
    slice_get-seam xs x [] y (rw place at is)

-- all of what is left
pub take-rest : {X : Type 0} (n : ℕ) (xs : List X) → take (length xs - n) (drop n xs) ≡ drop n xs
take-rest n xs = rw (← length-drop n xs) (take-length (drop n xs))
