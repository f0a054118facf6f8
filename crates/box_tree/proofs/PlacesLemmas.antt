-- The places of a tree of boxes: those of the whole grid, and those of a square.
use Rattle.std.proofs.Common.{◌≡◌, ℕ, ◌+◌, ◌-◌, ◌*◌, ◌^◌, ◌<◌, ◌≤◌, List, [], ◌∷◌, length, All, refl, arith}
use Rattle.std.specs.List.{range_with_len, Contains}
use Rattle.std.proofs.lemmas.Bool.Decides.{nat_tests}
use Rattle.std.proofs.lemmas.List.Elements.{All-head, All-tail}
use Rattle.list_laws.proofs.KeyedLemmas.{member_of_range}
use Rattle.k2_tree.specs.Pruning.{place_among}
use Rattle.box_tree.specs.Levels.{square_start, run}

-- all are below a number that all are below
pub place_among-all : (codes : List ℕ) (b : ℕ) → All (λ code. code < b) codes → place_among codes b ≡ length codes
place_among-all [] b all = refl
place_among-all (x ∷ xs) b all =
    let P : ℕ → Type 0 = λ code. code < b in
    let here : x < b = All-head P x xs all in
    grind (arith, nat_tests, place_among-all xs b (All-tail P x xs all))

-- none is below 0
pub place_among-zero : (codes : List ℕ) → place_among codes 0 ≡ 0
place_among-zero [] = refl
place_among-zero (x ∷ xs) = grind (arith, nat_tests, place_among-zero xs)

-- and no more than all are below any
pub place_among-le : (codes : List ℕ) (b : ℕ) → place_among codes b ≤ length codes
place_among-le [] b = omega arith
place_among-le (x ∷ xs) b = grind (arith, nat_tests, place_among-le xs b)

-- the whole grid has all places
pub run-whole : (codes : List ℕ) (n : ℕ) → All (λ code. code < 4 ^ n) codes
    → run codes n 0 ≡ range_with_len 0 (length codes)
unfolding run square_start
run-whole codes n inside =
    let none : 0 * 4 ^ n ≡ 0 = omega arith in
    let all : (0 + 1) * 4 ^ n ≡ 4 ^ n = omega arith in
    let long : length codes - 0 ≡ length codes = omega arith in
    rw (none, all, place_among-zero codes, place_among-all codes (4 ^ n) inside, long) refl

-- the places of a square begin among all
pub square_start-le : (codes : List ℕ) (n prefix : ℕ) → square_start codes n prefix ≤ length codes
unfolding square_start
square_start-le codes n prefix = place_among-le codes (prefix * 4 ^ n)

-- a place of a square is one of all
pub run-within : (codes : List ℕ) (n prefix place : ℕ) → Contains (run codes n prefix) place → place < length codes
unfolding run square_start
run-within codes n prefix place inside =
    let a : ℕ = place_among codes (prefix * 4 ^ n) in
    let b : ℕ = place_among codes ((prefix + 1) * 4 ^ n) in
    let bounds = member_of_range a (b - a) place inside in
    let most : b ≤ length codes = place_among-le codes ((prefix + 1) * 4 ^ n) in
    omega (arith, bounds.0, bounds.1, most)
