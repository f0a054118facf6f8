-- Marks: their bits, how many there are before a place, and the targets that they stand for.
use Rattle.std.proofs.Common.{◌≡◌, ℕ, zero, suc, ◌+◌, ◌*◌, ◌/◌, ◌%◌, ◌^◌, ◌<◌, ◌≤◌, cond, is_some, Option, None, Some, List, [], ◌∷◌, ◌++◌, length, get_or, take, refl, ap, sym, ◌∙◌, arith, subst, append-nil}
use Rattle.std.specs.Int.{bit_at}
use Rattle.std.specs.Int.Count.{ones_step}
use Rattle.std.specs.Int.RustNames.{count_ones, bit_or}
use Rattle.std.proofs.Math.Nat.{pow-suc, mod-eq_of_lt}
use Rattle.std.proofs.lemmas.Nat.{mod-pow-add, ones_cat, ones_le_self, or_comm, or_shifted, one_shl, pow_pos}
use Rattle.std.proofs.lemmas.Nat.Bits.{bit_at_lowest, bit_at-suc, bit_at-zero}
use Rattle.std.proofs.lemmas.List.{take_more, length-take-le}
use Rattle.std.proofs.lemmas.List.Elements.{filter_map-append}
use Rattle.object_perm.specs.Marks.{marks_of, targets_of}

-- one for an element that is there, else nothing
abbrev pub mark_of : Option ℕ → ℕ
mark_of target = cond (is_some target) 1 0

pub marks_of-nil : marks_of [] ≡ 0
unfolding marks_of
marks_of-nil = refl

pub marks_of-cons : (target : Option ℕ) (rest : List (Option ℕ)) →
    marks_of (target ∷ rest) ≡ mark_of target + 2 * marks_of rest
unfolding marks_of
marks_of-cons target rest = refl

mark_of-lt : (target : Option ℕ) → mark_of target < 2
mark_of-lt None = omega arith
mark_of-lt (Some x) = omega arith

-- the marks of the second elements stand above those of the first
pub marks_of-append : (xs ys : List (Option ℕ)) → marks_of (xs ++ ys) ≡ marks_of ys * 2 ^ length xs + marks_of xs
marks_of-append [] ys = rw marks_of-nil (omega arith)
marks_of-append (x ∷ xs) ys =
    rw (marks_of-cons x (xs ++ ys), marks_of-cons x xs, pow-suc 2 (length xs), marks_of-append xs ys) (omega arith)

-- the marks of n elements are below 2 ^ n
pub marks_of-lt : (xs : List (Option ℕ)) → marks_of xs < 2 ^ length xs
marks_of-lt [] = rw marks_of-nil (omega arith)
marks_of-lt (x ∷ xs) =
    let rest = marks_of-lt xs in
    let one = mark_of-lt x in
    rw (marks_of-cons x xs, pow-suc 2 (length xs)) (omega arith)

-- a place is marked where the element is there
pub bit_at-marks_of : (xs : List (Option ℕ)) (i : ℕ) → bit_at (marks_of xs) i ≡ mark_of (get_or xs i None)
bit_at-marks_of [] i = ap (λ n. bit_at n i) marks_of-nil ∙ bit_at-zero i
bit_at-marks_of (x ∷ xs) zero =
    let one = mark_of-lt x in
    let low : (mark_of x + 2 * marks_of xs) % 2 ≡ mark_of x = omega arith in
    ap (λ n. bit_at n 0) (marks_of-cons x xs) ∙ bit_at_lowest (mark_of x + 2 * marks_of xs) ∙ low
bit_at-marks_of (x ∷ xs) (suc i) =
    let one = mark_of-lt x in
    let high : (mark_of x + 2 * marks_of xs) / 2 ≡ marks_of xs = omega arith in
    ap (λ n. bit_at n (suc i)) (marks_of-cons x xs) ∙ bit_at-suc (mark_of x + 2 * marks_of xs) i
    ∙ ap (λ n. bit_at n i) high ∙ bit_at-marks_of xs i

-- a bit is its own count of ones
one_bit : (low : ℕ) → low < 2 → count_ones low ≡ low
one_bit low small = omega (arith, ones_step low, ones_le_self (low / 2))

length-targets_of : (x : Option ℕ) (xs : List (Option ℕ)) →
    length (targets_of (x ∷ xs)) ≡ mark_of x + length (targets_of xs)
length-targets_of None xs = omega arith
length-targets_of (Some t) xs = omega arith

-- no more elements are there than there are places
pub length-targets_of-le : (xs : List (Option ℕ)) → length (targets_of xs) ≤ length xs
length-targets_of-le [] = omega arith
length-targets_of-le (x ∷ xs) =
    let rest = length-targets_of-le xs in
    let one = mark_of-lt x in
    omega (arith, rest, one, length-targets_of x xs)

-- the marks before a place count the elements there
pub ones-marks_of : (xs : List (Option ℕ)) (i : ℕ) → count_ones (marks_of xs % 2 ^ i) ≡ length (targets_of (take i xs))
ones-marks_of xs zero =
    let none : marks_of xs % 2 ^ 0 ≡ 0 = omega arith in
    ap count_ones none ∙ one_bit 0 (omega arith)
ones-marks_of [] (suc i) =
    let none : marks_of [] % 2 ^ suc i ≡ 0 = ap (λ n. n % 2 ^ suc i) marks_of-nil ∙ mod-eq_of_lt (pow_pos (suc i)) in
    ap count_ones none ∙ one_bit 0 (omega arith)
ones-marks_of (x ∷ xs) (suc i) =
    let one = mark_of-lt x in
    let n = mark_of x + 2 * marks_of xs in
    let high : n / 2 ≡ marks_of xs = omega arith in
    let low : n % 2 ≡ mark_of x = omega arith in
    let next : suc i ≡ i + 1 = omega arith in
    let parts : n % 2 ^ (i + 1) ≡ (n / 2 ^ 1 % 2 ^ i) * 2 ^ 1 + n % 2 ^ 1 = mod-pow-add n i 1 in
    ap (λ m. count_ones (m % 2 ^ suc i)) (marks_of-cons x xs)
    ∙ ap (λ k. count_ones (n % 2 ^ k)) next
    ∙ ap count_ones parts
    ∙ ones_cat 1 (n / 2 ^ 1 % 2 ^ i) (n % 2 ^ 1) (omega arith)
    ∙ (let others : count_ones (n / 2 ^ 1 % 2 ^ i) ≡ length (targets_of (take i xs)) =
    ap (λ m. count_ones (m % 2 ^ i)) high ∙ ones-marks_of xs i in
    let here : count_ones (n % 2 ^ 1) ≡ mark_of x = ap count_ones low ∙ one_bit (mark_of x) one in
    omega (arith, others, here, length-targets_of x (take i xs)))

-- the target of a place that has one stands after those of the places before it
pub target-here : (xs : List (Option ℕ)) (i target : ℕ) → get_or xs i None ≡ Some target →
    (length (targets_of (take i xs)) < length (targets_of xs)) ×
    (get_or (targets_of xs) (length (targets_of (take i xs))) 0 ≡ target)
target-here [] i target has = cc
target-here (None ∷ xs) zero target has = cc
target-here (Some x ∷ xs) zero target has = (omega arith, cc)
target-here (None ∷ xs) (suc i) target has = target-here xs i target has
target-here (Some x ∷ xs) (suc i) target has = let rest = target-here xs i target has in (omega (arith, rest.0), rest.1)

-- the targets of one place more
pub targets_of-take : (xs : List (Option ℕ)) (k target : ℕ) → k < length xs → get_or xs k None ≡ Some target →
    targets_of (take (k + 1) xs) ≡ targets_of (take k xs) ++ target ∷ []
targets_of-take xs k target within has =
    ap targets_of (take_more xs k None within ∙ ap (λ o. take k xs ++ o ∷ []) has)
    ∙ filter_map-append (λ o. o) (take k xs) (Some target ∷ [])

pub targets_of-take_none : (xs : List (Option ℕ)) (k : ℕ) → k < length xs → get_or xs k None ≡ None →
    targets_of (take (k + 1) xs) ≡ targets_of (take k xs)
targets_of-take_none xs k within none =
    ap targets_of (take_more xs k None within ∙ ap (λ o. take k xs ++ o ∷ []) none)
    ∙ filter_map-append (λ o. o) (take k xs) (None ∷ []) ∙ append-nil (targets_of (take k xs))

-- the marks of one place more
marks_of-take : (xs : List (Option ℕ)) (k : ℕ) → k < length xs →
    marks_of (take (k + 1) xs) ≡ mark_of (get_or xs k None) * 2 ^ k + marks_of (take k xs)
marks_of-take xs k within =
    let last : List (Option ℕ) = get_or xs k None ∷ [] in
    let one : marks_of last ≡ mark_of (get_or xs k None) =
    omega (arith, marks_of-cons (get_or xs k None) [], marks_of-nil) in
    let long : length (take k xs) ≡ k = length-take-le k xs (omega arith) in
    ap marks_of (take_more xs k None within) ∙ marks_of-append (take k xs) last
    ∙ ap (λ n. marks_of last * 2 ^ n + marks_of (take k xs)) long
    ∙ ap (λ n. n * 2 ^ k + marks_of (take k xs)) one

pub marks_of-take_some : (xs : List (Option ℕ)) (k target : ℕ) → k < length xs → k < 32 →
    get_or xs k None ≡ Some target →
    marks_of (take (k + 1) xs) ≡ bit_or (marks_of (take k xs)) (1 * 2 ^ k % 2 ^ 32)
marks_of-take_some xs k target within small has =
    let long : length (take k xs) ≡ k = length-take-le k xs (omega arith) in
    let below : marks_of (take k xs) < 2 ^ k = let P : ℕ → Type 0 = λ n. marks_of (take k xs) < 2 ^ n in
    subst P long (marks_of-lt (take k xs)) in
    let one : 1 * 2 ^ k ≡ 2 ^ k = omega arith in
    marks_of-take xs k within
    ∙ ap (λ o. mark_of o * 2 ^ k + marks_of (take k xs)) has
    ∙ sym (or_shifted 1 k (marks_of (take k xs)) below)
    ∙ or_comm (1 * 2 ^ k) (marks_of (take k xs))
    ∙ ap (bit_or (marks_of (take k xs))) (one ∙ sym (one_shl k 32 small))

pub marks_of-take_none : (xs : List (Option ℕ)) (k : ℕ) → k < length xs → get_or xs k None ≡ None →
    marks_of (take (k + 1) xs) ≡ marks_of (take k xs)
marks_of-take_none xs k within none =
    marks_of-take xs k within ∙ ap (λ o. mark_of o * 2 ^ k + marks_of (take k xs)) none ∙ omega arith
