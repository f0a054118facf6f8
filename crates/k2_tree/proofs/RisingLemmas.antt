-- Ascending lists of numbers: what they hold tells what they are.
use Rattle.std.proofs.Common.{◌≡◌, ℕ, zero, suc, ◌+◌, ◌<◌, ◌≤◌, ◌==◌}
use Rattle.std.proofs.Common.{true, false, List, [], ◌∷◌, length, get_or, refl, sym, ap, ◌∙◌, arith}
use Rattle.std.proofs.lemmas.Bool.Decides.{nat_tests}
use Rattle.std.proofs.lemmas.Bool.{false≢true}
use Rattle.std.specs.List.Sorted.{IsStrictlyIncreasing}
use Rattle.k2_tree.specs.TreeBits.{is_in, Rises}
use Rattle.k2_tree.specs.Pruning.{place_among}

-- the numbers are at least n and none is below the one before
abbrev pub Climbs : ℕ → List ℕ → Type 0
Climbs n [] = Unit {0}
Climbs n (x ∷ xs) = (n ≤ x) × Climbs x xs

pub Rises-weaker : (m n : ℕ) (xs : List ℕ) → m ≤ n → Rises n xs → Rises m xs
Rises-weaker m n [] less r = tt
Rises-weaker m n (x ∷ xs) less r = (omega (arith, r.0), r.1)

pub Rises-from_increasing : (n x : ℕ) (xs : List ℕ) → n ≤ x → IsStrictlyIncreasing (x ∷ xs) → Rises n (x ∷ xs)
Rises-from_increasing n x [] low up = (low, tt)
Rises-from_increasing n x (y ∷ ys) low up =
    let first : x < y = up 0 (omega arith) in
    let later : IsStrictlyIncreasing (y ∷ ys) =
    λ k h. let e : suc k + 1 ≡ suc (k + 1) = omega arith in rw e at (up (suc k) (omega arith)) in
    (low, Rises-from_increasing (suc x) y ys (omega arith) later)

-- ascending numbers rise
pub rises : (xs : List ℕ) → IsStrictlyIncreasing xs → Rises 0 xs
rises [] up = tt
rises (x ∷ xs) up = Rises-from_increasing 0 x xs (omega arith) up

-- numbers that differ fail the test
pub other_test : (x y : ℕ) → (x ≡ y → ⊥) → (x == y) ≡ false
other_test x y differ = grind (arith, nat_tests)

-- a number below all is not there
pub is_in-below : (n : ℕ) (xs : List ℕ) (c : ℕ) → Rises n xs → c < n → is_in xs c ≡ false
is_in-below n [] c r less = refl
is_in-below n (x ∷ xs) c r less =
    let low : n ≤ x = r.0 in grind (arith, nat_tests, is_in-below (suc x) xs c r.1 (omega arith))

-- the first number is there
pub is_in-first : (x : ℕ) (xs : List ℕ) → is_in (x ∷ xs) x ≡ true
is_in-first x xs = grind (arith, nat_tests)

-- another number is there where it is among the others
pub is_in-other : (x : ℕ) (xs : List ℕ) (c : ℕ) → (x ≡ c → ⊥) → is_in (x ∷ xs) c ≡ is_in xs c
is_in-other x xs c differ = rw (other_test x c differ) refl

-- ascending lists with the same members are one list
pub same_from_rising : (n : ℕ) (xs ys : List ℕ) → Rises n xs → Rises n ys
    → ((c : ℕ) → is_in xs c ≡ is_in ys c) → xs ≡ ys
same_from_rising n [] [] rx ry same = refl
same_from_rising n [] (y ∷ ys) rx ry same = absurd (false≢true (same y ∙ is_in-first y ys))
same_from_rising n (x ∷ xs) [] rx ry same = absurd (false≢true (sym (same x) ∙ is_in-first x xs))
same_from_rising n (x ∷ xs) (y ∷ ys) rx ry same =
    let e : y ≡ x =
    grind (arith, nat_tests, same x, same y, is_in-below (suc y) ys x ry.1, is_in-below (suc x) xs y rx.1) in
    let ry' : Rises (suc x) ys = Rises-weaker (suc x) (suc y) ys (omega arith) ry.1 in
    let tails : (c : ℕ) → is_in xs c ≡ is_in ys c =
    λ c. grind (arith, nat_tests, same c, e, is_in-below (suc x) xs c rx.1, is_in-below (suc x) ys c ry') in
    ap (λ zs. x ∷ zs) (same_from_rising (suc x) xs ys rx.1 ry' tails) ∙ ap (λ z. z ∷ ys) (sym e)

-- a number that stands at a place is there
pub by_place : (xs : List ℕ) (k c : ℕ) → k < length xs → get_or xs k 0 ≡ c → is_in xs c ≡ true
by_place [] k c within stands = absurd (omega arith)
by_place (x ∷ xs) zero c within stands = grind (arith, nat_tests)
by_place (x ∷ xs) (suc k) c within stands = grind (arith, by_place xs k c (omega arith) stands)

-- what stands at a place of a rising list is at least its least
pub Rises-place : (n i : ℕ) (xs : List ℕ) → Rises n xs → i < length xs → n ≤ get_or xs i 0
Rises-place n i [] up within = absurd (omega arith)
Rises-place n zero (x ∷ xs) up within = up.0
Rises-place n (suc i) (x ∷ xs) up within =
    let later = Rises-place (suc x) i xs up.1 (omega arith) in
    let low : n ≤ x = up.0 in omega arith

-- below all there is none
place_among-low : (n c : ℕ) (codes : List ℕ) → Rises n codes → c ≤ n → place_among codes c ≡ 0
place_among-low n c [] up low = refl
place_among-low n c (x ∷ xs) up low =
    let first : n ≤ x = up.0 in grind (arith, nat_tests, place_among-low (suc x) c xs up.1 (omega arith))

-- the place of an ascending number is where it stands
pub place_among-at : (n i : ℕ) (codes : List ℕ) → Rises n codes → i < length codes
    → place_among codes (get_or codes i 0) ≡ i
place_among-at n i [] up within = absurd (omega arith)
place_among-at n zero (x ∷ xs) up within =
    grind (arith, nat_tests, place_among-low (suc x) x xs up.1 (omega arith))
place_among-at n (suc i) (x ∷ xs) up within =
    let high = Rises-place (suc x) i xs up.1 (omega arith) in
    grind (arith, nat_tests, high, place_among-at (suc x) i xs up.1 (omega arith))

-- in a rising list each number has one place
pub same_place : (i j : ℕ) (xs : List ℕ) → Rises 0 xs → i < length xs → j < length xs → get_or xs i 0 ≡ get_or xs j 0
    → i ≡ j
same_place i j xs up a b same =
    sym (place_among-at 0 i xs up a) ∙ ap (place_among xs) same ∙ place_among-at 0 j xs up b
