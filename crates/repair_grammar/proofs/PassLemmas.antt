-- One pass from left to right: what it meets, and what it leaves.
use Rattle.std.proofs.Common.{◌≡◌, ℕ, suc, ◌+◌, ◌*◌, ◌<◌, ◌≤◌, ◌==◌, Bool, true, false, cond, ◌&&◌, List, [], ◌∷◌, length, get_or, drop, refl, sym, ◌∙◌, arith, inl, inr, add-one}
use Rattle.std.specs.List.{Contains}
use Rattle.std.proofs.lemmas.Bool.{cases_Bool, and_parts, and_left, eqb-true, eqb-false, ne_eqb, false_from_ne_true}
use Rattle.std.proofs.Math.Seq.{drop-cons}
use Rattle.std.proofs.lemmas.Bool.Decides.{nat_tests}
use Rattle.list_laws.proofs.MemberLemmas.{first_member, later_member}
use Rattle.repair_grammar.specs.RePair.{is_pair, replacement_count, block_after_pass, pairs_in}
use Rattle.repair_grammar.specs.Counts.{met_after, stands_first}

-- the two symbols of a pair that is met
pub left_of_pair : (pair : ℕ × ℕ) (x y : ℕ) → is_pair pair x y ≡ true → x ≡ pair.0
left_of_pair pair x y is = eqb-true x pair.0 (and_parts (x == pair.0) (y == pair.1) is).0

pub right_of_pair : (pair : ℕ × ℕ) (x y : ℕ) → is_pair pair x y ≡ true → y ≡ pair.1
right_of_pair pair x y is = eqb-true y pair.1 (and_parts (x == pair.0) (y == pair.1) is).1

pub whole_pair : (pair : ℕ × ℕ) (x y : ℕ) → is_pair pair x y ≡ true → (x, y) ≡ pair
whole_pair pair x y is = λ i. (left_of_pair pair x y is i, right_of_pair pair x y is i)

-- each replacement takes one symbol away
pub length-block_after_pass : (pair : ℕ × ℕ) (symbol : ℕ) (block : List ℕ) →
    length (block_after_pass pair symbol block) + replacement_count pair block ≡ length block
unfolding block_after_pass replacement_count
length-block_after_pass pair symbol [] = refl
length-block_after_pass pair symbol (x ∷ []) = refl
length-block_after_pass pair symbol (x ∷ y ∷ rest) =
    grind (arith, nat_tests, length-block_after_pass pair symbol rest, length-block_after_pass pair symbol (y ∷ rest))

-- each one takes two
pub replacement_count-le : (pair : ℕ × ℕ) (block : List ℕ) → 2 * replacement_count pair block ≤ length block
unfolding replacement_count
replacement_count-le pair [] = omega arith
replacement_count-le pair (x ∷ []) = omega arith
replacement_count-le pair (x ∷ y ∷ rest) =
    grind (arith, nat_tests, replacement_count-le pair rest, replacement_count-le pair (y ∷ rest))

-- a pair that is met stands side by side
pub met_stands : (pair : ℕ × ℕ) (block : List ℕ) → 0 < replacement_count pair block → Contains (pairs_in block) pair
unfolding replacement_count pairs_in
met_stands pair [] some = absurd (omega arith)
met_stands pair (x ∷ []) some = absurd (omega arith)
met_stands pair (x ∷ y ∷ rest) some = elim (cases_Bool (is_pair pair x y)) [
  | inl is ↦ rw (sym (whole_pair pair x y is)) (first_member (x, y) (pairs_in (y ∷ rest)))
  | inr other ↦ later_member pair (x, y) (pairs_in (y ∷ rest)) (met_stands pair (y ∷ rest) (rw other at some))
]

-- a symbol that isn't the left one is passed
pub replacement_count-other : (pair : ℕ × ℕ) (x : ℕ) (rest : List ℕ) → (x == pair.0) ≡ false → replacement_count pair (x ∷ rest) ≡ replacement_count pair rest
unfolding replacement_count
replacement_count-other pair x [] other = refl
replacement_count-other pair x (y ∷ rest) other = rw (and_left (x == pair.0) (y == pair.1) other) refl

-- nothing is met where no two symbols stand
pub replacement_count-none : (pair : ℕ × ℕ) → replacement_count pair [] ≡ 0
unfolding replacement_count
replacement_count-none pair = refl

pub met_after-single : (taken : Bool) (pair : ℕ × ℕ) (x : ℕ) → met_after taken pair (x ∷ []) ≡ 0
unfolding met_after replacement_count
met_after-single taken pair x =
    elim (cases_Bool (taken && is_pair pair x x)) [ inl is ↦ rw is refl | inr other ↦ rw other refl ]

-- with nothing taken, what is still met is what is met
pub met_after-fresh : (pair : ℕ × ℕ) (block : List ℕ) → met_after false pair block ≡ replacement_count pair block
unfolding met_after replacement_count
met_after-fresh pair [] = refl
met_after-fresh pair (x ∷ rest) = refl

-- in a run, a pair that overlaps the one taken before it is passed
pub met_after-overlap : (pair : ℕ × ℕ) (x : ℕ) (rest : List ℕ) →
    met_after true pair (x ∷ x ∷ rest) ≡ met_after false pair (x ∷ rest)
unfolding met_after replacement_count
met_after-overlap pair x rest = elim (cases_Bool (is_pair pair x x)) [ inl is ↦ rw is refl | inr other ↦ rw other refl ]

-- each other pair counts: of two alike symbols, where nothing is taken
counted_alike : (pair : ℕ × ℕ) (x : ℕ) (rest : List ℕ) →
    met_after false pair (x ∷ x ∷ rest) ≡ cond (is_pair pair x x) 1 0 + met_after true pair (x ∷ rest)
unfolding met_after replacement_count
counted_alike pair x rest = grind (arith, nat_tests)

-- of two others
apart_from : (pair : ℕ × ℕ) (x y : ℕ) → (x == y) ≡ false → is_pair pair x y ≡ true → is_pair pair x x ≡ false
apart_from pair x y apart is = false_from_ne_true (is_pair pair x x) (λ alike.
    eqb-false x y apart (right_of_pair pair x x alike ∙ sym (right_of_pair pair x y is)))

passed_next : (pair : ℕ × ℕ) (x y : ℕ) → (x == y) ≡ false → is_pair pair x y ≡ true → (y == pair.0) ≡ false
passed_next pair x y apart is = ne_eqb y pair.0 (λ same. eqb-false x y apart (left_of_pair pair x y is ∙ sym same))

counted_apart : (taken : Bool) (pair : ℕ × ℕ) (x y : ℕ) (rest : List ℕ) → (x == y) ≡ false →
    met_after taken pair (x ∷ y ∷ rest) ≡ cond (is_pair pair x y) 1 0 + met_after false pair (y ∷ rest)
unfolding met_after replacement_count
counted_apart taken pair x y rest apart = grind (arith, nat_tests, apart_from, replacement_count-other, passed_next)

-- so each pair counts that doesn't overlap the one before it
counted_same : (taken : Bool) (pair : ℕ × ℕ) (x y : ℕ) (rest : List ℕ) → (x == y) ≡ true → taken ≡ false →
    met_after taken pair (x ∷ y ∷ rest) ≡ cond (is_pair pair x y) 1 0 + met_after true pair (y ∷ rest)
counted_same taken pair x y rest same fresh = rw (fresh, sym (eqb-true x y same)) (counted_alike pair x rest)

pub met_after-counted : (taken : Bool) (pair : ℕ × ℕ) (x y : ℕ) (rest : List ℕ) → (taken && (x == y)) ≡ false →
    met_after taken pair (x ∷ y ∷ rest) ≡ cond (is_pair pair x y) 1 0 + met_after (x == y) pair (y ∷ rest)
met_after-counted taken pair x y rest free = grind (arith, nat_tests, counted_apart, counted_same)

-- one symbol more of a walk through a block
module _ (taken : Bool) (pair : ℕ × ℕ) (x : ℕ) (rest : List ℕ) (i : ℕ) (within : i < length rest) where
  overlap_at : (y : ℕ) (later : List ℕ) → drop i rest ≡ y ∷ later → (taken && (x == y)) ≡ true →
      met_after taken pair (x ∷ drop i rest) ≡ met_after false pair (y ∷ later)
  overlap_at y later here overlaps = let parts = and_parts taken (x == y) overlaps in
      rw (here, parts.0, eqb-true x y parts.1) (met_after-overlap pair y later)

  pub overlap_step : (taken && (x == get_or rest i 0)) ≡ true →
      met_after taken pair (x ∷ drop i rest) ≡ met_after false pair (get_or rest i 0 ∷ drop (i + 1) rest)
  overlap_step overlaps =
      overlap_at (get_or rest i 0) (drop (i + 1) rest) (rw add-one (drop-cons rest i 0 within)) overlaps

  pub counted_step : (taken && (x == get_or rest i 0)) ≡ false →
      met_after taken pair (x ∷ drop i rest)
      ≡ cond (is_pair pair x (get_or rest i 0)) 1 0 + met_after (x == get_or rest i 0) pair
      (get_or rest i 0 ∷ drop (i + 1) rest)
  counted_step free = rw (drop-cons rest i 0 within, add-one)
      (met_after-counted taken pair x (get_or rest i 0) (drop (suc i) rest) free)

pub block_after_pass-passed : (pair : ℕ × ℕ) (symbol x : ℕ) (rest : List ℕ) → stands_first pair (x ∷ rest) ≡ false →
    block_after_pass pair symbol (x ∷ rest) ≡ x ∷ block_after_pass pair symbol rest
unfolding block_after_pass stands_first
block_after_pass-passed pair symbol x [] passed = refl
block_after_pass-passed pair symbol x (y ∷ rest) passed = rw passed refl

-- nothing is left
pub block_after_pass-none : (pair : ℕ × ℕ) (symbol : ℕ) → block_after_pass pair symbol [] ≡ []
unfolding block_after_pass
block_after_pass-none pair symbol = refl

-- a symbol more counts at most once
pub replacement_count-step : (pair : ℕ × ℕ) (x : ℕ) (rest : List ℕ) →
    (replacement_count pair rest ≤ replacement_count pair (x ∷ rest)) × (replacement_count pair (x ∷ rest) ≤ suc (replacement_count pair rest))
unfolding replacement_count
replacement_count-step pair x [] = (omega arith, omega arith)
replacement_count-step pair x (y ∷ rest) = grind (arith, nat_tests, replacement_count-step pair y rest)

-- what stands where the pair does
pub stands_first-whole : (pair : ℕ × ℕ) (block : List ℕ) → stands_first pair block ≡ true →
    block ≡ pair.0 ∷ pair.1 ∷ drop 2 block
unfolding stands_first
stands_first-whole pair [] stands = absurd (cc)
stands_first-whole pair (x ∷ []) stands = absurd (cc)
stands_first-whole pair (x ∷ y ∷ rest) stands =
    rw (left_of_pair pair x y stands, right_of_pair pair x y stands) refl
