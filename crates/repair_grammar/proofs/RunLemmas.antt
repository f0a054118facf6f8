-- The run rule: counts of a list that is cut at a place.
use Rattle.std.proofs.Common.{◌≡◌, ℕ, suc, ◌+◌, ◌==◌, Bool, true, false, cond, not, ◌&&◌, if◌then◌else◌, Some, None, List, [], ◌∷◌, ◌++◌, refl, sym, ◌∙◌, ap, arith, inl, inr, append_assoc}
use Rattle.std.proofs.lemmas.Bool.{cases_Bool, and_right, eqb-true, eqb-false, eq-eqb, ne_eqb}
use Rattle.std.proofs.lemmas.Bool.Decides.{nat_tests}
use Rattle.repair_grammar.specs.RePair.{is_pair, replacement_count}
use Rattle.repair_grammar.specs.Kept.{times_of}
use Rattle.repair_grammar.specs.Runs.{begins_odd, ends_odd, left_gone, right_gone, left_come}
use Rattle.repair_grammar.proofs.PassLemmas.{replacement_count-other, left_of_pair, right_of_pair}

-- a pass at two symbols
replacement_count-is : (pair : ℕ × ℕ) (x y : ℕ) (rest : List ℕ) → is_pair pair x y ≡ true →
    replacement_count pair (x ∷ y ∷ rest) ≡ suc (replacement_count pair rest)
unfolding replacement_count
replacement_count-is pair x y rest is = rw is refl

replacement_count-not : (pair : ℕ × ℕ) (x y : ℕ) (rest : List ℕ) → is_pair pair x y ≡ false →
    replacement_count pair (x ∷ y ∷ rest) ≡ replacement_count pair (y ∷ rest)
unfolding replacement_count
replacement_count-not pair x y rest apart = rw apart refl

-- a symbol of a run, and another
begins_odd-same : (u y : ℕ) (ys : List ℕ) → (y == u) ≡ true → begins_odd u (y ∷ ys) ≡ not (begins_odd u ys)
unfolding begins_odd
begins_odd-same u y ys is = rw is refl

begins_odd-other : (u y : ℕ) (ys : List ℕ) → (y == u) ≡ false → begins_odd u (y ∷ ys) ≡ false
unfolding begins_odd
begins_odd-other u y ys apart = rw apart refl

pub begins_odd-front : (u x : ℕ) (ys : List ℕ) → begins_odd u (x ∷ ys) ≡ ((x == u) && not (begins_odd u ys))
unfolding begins_odd
begins_odd-front u x ys = refl

-- one symbol of a run comes before a list
pub replacement_count-run_cons : (u : ℕ) (ys : List ℕ) → replacement_count (u, u) (u ∷ ys) ≡ cond (begins_odd u ys) 1 0 + replacement_count (u, u) ys
replacement_count-run_cons u [] = unfold replacement_count begins_odd in refl
replacement_count-run_cons u (y ∷ ys) = elim (cases_Bool (y == u)) [
  | inl is ↦ let same : y ≡ u = eqb-true y u is in
      let whole : replacement_count (u, u) (u ∷ y ∷ ys) ≡ suc (replacement_count (u, u) ys) =
      replacement_count-is (u, u) u y ys (rw (is, eq-eqb u u refl) refl) in
      let later : replacement_count (u, u) (y ∷ ys) ≡ cond (begins_odd u ys) 1 0 + replacement_count (u, u) ys =
      ap (λ z. replacement_count (u, u) (z ∷ ys)) same ∙ replacement_count-run_cons u ys in
      rw (begins_odd-same u y ys is) (elim (cases_Bool (begins_odd u ys)) [
        | inl odd ↦ rw odd (let after : replacement_count (u, u) (y ∷ ys) ≡ 1 + replacement_count (u, u) ys = rw odd at later in
            omega (arith, whole, after))
        | inr even ↦ rw even (let after : replacement_count (u, u) (y ∷ ys) ≡ 0 + replacement_count (u, u) ys = rw even at later in
            omega (arith, whole, after))
      ])
  | inr apart ↦ rw (begins_odd-other u y ys apart)
      (omega (arith, replacement_count-not (u, u) u y ys (rw (apart, and_right (u == u) false refl) refl)))
]

-- a list after a run that was odd or not
abbrev run_then : ℕ → Bool → List ℕ → List ℕ
run_then u true ys = u ∷ ys
run_then u false ys = ys

-- the count over two lists: that of each, and one more where two odd runs meet
met_run_then-append : (u : ℕ) (odd : Bool) (xs ys : List ℕ) → replacement_count (u, u) (run_then u odd (xs ++ ys))
    ≡ replacement_count (u, u) (run_then u odd xs) + cond (ends_odd u odd xs && begins_odd u ys) 1 0 + replacement_count (u, u) ys
unfolding replacement_count begins_odd ends_odd
met_run_then-append u true [] ys = omega (arith, replacement_count-run_cons u ys)
met_run_then-append u false [] ys = omega arith
met_run_then-append u true (x ∷ xs) ys = grind (arith, nat_tests, met_run_then-append u false xs ys, replacement_count-other)
met_run_then-append u false (x ∷ xs) ys =
    grind (arith, nat_tests, met_run_then-append u true xs ys, met_run_then-append u false xs ys, replacement_count-other)

pub replacement_count-run_append : (u : ℕ) (xs ys : List ℕ) → replacement_count (u, u) (xs ++ ys)
    ≡ replacement_count (u, u) xs + cond (ends_odd u false xs && begins_odd u ys) 1 0 + replacement_count (u, u) ys
replacement_count-run_append u xs ys = met_run_then-append u false xs ys

-- any other list may be cut at a symbol of which two alike are not the pair
met_two : (other : ℕ × ℕ) (x y : ℕ) (ys : List ℕ) → is_pair other y y ≡ false →
    replacement_count other (x ∷ y ∷ ys) ≡ cond (is_pair other x y) 1 0 + replacement_count other (y ∷ ys)
unfolding replacement_count
met_two other x y ys free = grind (arith, nat_tests, free, right_of_pair, replacement_count-other)

pub replacement_count-cut : (other : ℕ × ℕ) (xs : List ℕ) (y : ℕ) (ys : List ℕ) → is_pair other y y ≡ false →
    replacement_count other (xs ++ y ∷ ys) ≡ replacement_count other (xs ++ y ∷ []) + replacement_count other (y ∷ ys)
unfolding replacement_count
replacement_count-cut other [] y ys free = omega arith
replacement_count-cut other (x ∷ []) y ys free =
    let none : replacement_count other (y ∷ []) ≡ 0 = refl in omega
    (arith, met_two other x y ys free, met_two other x y [] free, none)
replacement_count-cut other (x ∷ z ∷ xs) y ys free =
    grind (arith, nat_tests, replacement_count-cut other xs y ys free, replacement_count-cut other (z ∷ xs) y ys free, free)

-- the symbol in front: its run is longer by one
pub replacement_count-run_front : (u x : ℕ) (ys : List ℕ) →
    replacement_count (u, u) (x ∷ ys) ≡ cond ((x == u) && begins_odd u ys) 1 0 + replacement_count (u, u) ys
replacement_count-run_front u x ys = grind (arith, nat_tests, replacement_count-run_cons, replacement_count-other)

-- the symbol at the end of a run
pub ends_odd-last : (u : ℕ) (odd : Bool) (xs : List ℕ) (x : ℕ) →
    ends_odd u odd (xs ++ x ∷ []) ≡ ((x == u) && not (ends_odd u odd xs))
unfolding ends_odd
ends_odd-last u odd [] x = refl
ends_odd-last u odd (y ∷ xs) x = ends_odd-last u ((y == u) && not odd) xs x

-- the changes of a pair of two alike symbols u, by the tests whether a, b and c are u, and whether the runs around are odd
bits : (A B C E G : Bool) (m z : ℕ) → (A && C) ≡ false → (B && C) ≡ false → (A && (B && E)) ≡ false →
    (C && G) ≡ false →
    m + cond (E && (A && not (B && not G))) 1 0 + (cond (A && (B && not G)) 1 0 + (cond (B && G) 1 0 + z))
    + cond (C && E) 1 0
    ≡ m + cond (E && (C && not G)) 1 0 + (cond (C && G) 1 0 + z)
    + cond (A && (not B && E)) 1 0 + cond (A && B) 1 0 + cond (B && (not A && G)) 1 0
bits true true true true true m z ac bc abe cg = absurd (cc)
bits true true true true false m z ac bc abe cg = absurd (cc)
bits true true true false true m z ac bc abe cg = absurd (cc)
bits true true true false false m z ac bc abe cg = absurd (cc)
bits true true false true true m z ac bc abe cg = absurd (cc)
bits true true false true false m z ac bc abe cg = absurd (cc)
bits true true false false true m z ac bc abe cg = omega arith
bits true true false false false m z ac bc abe cg = omega arith
bits true false true true true m z ac bc abe cg = absurd (cc)
bits true false true true false m z ac bc abe cg = absurd (cc)
bits true false true false true m z ac bc abe cg = absurd (cc)
bits true false true false false m z ac bc abe cg = absurd (cc)
bits true false false true true m z ac bc abe cg = omega arith
bits true false false true false m z ac bc abe cg = omega arith
bits true false false false true m z ac bc abe cg = omega arith
bits true false false false false m z ac bc abe cg = omega arith
bits false true true true true m z ac bc abe cg = absurd (cc)
bits false true true true false m z ac bc abe cg = absurd (cc)
bits false true true false true m z ac bc abe cg = absurd (cc)
bits false true true false false m z ac bc abe cg = absurd (cc)
bits false true false true true m z ac bc abe cg = omega arith
bits false true false true false m z ac bc abe cg = omega arith
bits false true false false true m z ac bc abe cg = omega arith
bits false true false false false m z ac bc abe cg = omega arith
bits false false true true true m z ac bc abe cg = absurd (cc)
bits false false true true false m z ac bc abe cg = omega arith
bits false false true false true m z ac bc abe cg = absurd (cc)
bits false false true false false m z ac bc abe cg = omega arith
bits false false false true true m z ac bc abe cg = omega arith
bits false false false true false m z ac bc abe cg = omega arith
bits false false false false true m z ac bc abe cg = omega arith
bits false false false false false m z ac bc abe cg = omega arith

-- p has the symbol a and its right neighbour b; l stands before them and r after them, and c takes their place
module _ (front : List ℕ) (l a b c r : ℕ) (rest : List ℕ) (begins : (a == b) ≡ true → (l == a) ≡ false)
    (new_a : (c == a) ≡ false) (new_b : (c == b) ≡ false) (new_r : (c == r) ≡ false) where
  abbrev ends : ℕ → Bool
  ends u = ends_odd u false (front ++ l ∷ [])

  abbrev pub IsChanged : ℕ × ℕ → Type 0
  IsChanged other =
      replacement_count other (front ++ l ∷ a ∷ b ∷ r ∷ rest) + times_of (left_come front l c) other + times_of (Some (c, r)) other
      ≡ replacement_count other (front ++ l ∷ c ∷ r ∷ rest) + times_of (left_gone front l a b) other + times_of (Some (a, b)) other
      + times_of (right_gone a b r rest) other

  -- two different symbols: each two neighbours count by themselves
  module _ (other : ℕ × ℕ) (apart : (other.0 == other.1) ≡ false) where
    free : (y : ℕ) → is_pair other y y ≡ false
    free y = grind (arith, nat_tests, left_of_pair, right_of_pair)

    single : (x : ℕ) → times_of (Some (x, x)) other ≡ 0
    unfolding times_of
    single x = rw (free x) refl

    left_gone-is : times_of (left_gone front l a b) other ≡ cond (is_pair other l a) 1 0
    unfolding left_gone times_of
    left_gone-is = grind (arith, nat_tests, free, single)

    right_gone-is : times_of (right_gone a b r rest) other ≡ cond (is_pair other b r) 1 0
    unfolding right_gone times_of
    right_gone-is = grind (arith, nat_tests, free, single)

    left_come-is : times_of (left_come front l c) other ≡ cond (is_pair other l c) 1 0
    unfolding left_come times_of
    left_come-is = grind (arith, nat_tests, free, single)

    some : (x y : ℕ) → times_of (Some (x, y)) other ≡ cond (is_pair other x y) 1 0
    unfolding times_of
    some x y = refl

    changed-apart : IsChanged other
    changed-apart =
        grind (arith, nat_tests, replacement_count-cut, free, met_two, left_gone-is, right_gone-is, left_come-is, some)

  -- two alike
  module _ (u : ℕ) where
    last_is : ends u ≡ ((l == u) && not (ends_odd u false front))
    last_is = ends_odd-last u false front l

    alike : (x y : ℕ) → times_of (Some (x, y)) (u, u) ≡ cond ((x == u) && (y == u)) 1 0
    unfolding times_of
    alike x y = refl

    -- a pair of two alike, if a test holds
    one_twin : (y : ℕ) (test : Bool) → times_of (if test then Some (y, y) else None) (u, u) ≡ cond
        ((y == u) && test) 1 0
    one_twin y true = alike y y ∙ elim (cases_Bool (y == u)) [ inl is ↦ rw is refl | inr differ ↦ rw differ refl ]
    one_twin y false = unfold times_of in rw (and_right (y == u) false refl) refl

    -- two that differ are not both u
    not_both : (x y : ℕ) → (x == y) ≡ false → ((x == u) && (y == u)) ≡ false
    not_both x y differ = grind (arith, nat_tests)

    -- the symbol in front of a run is no part of it, and neither is the one after it
    other_than : (x y : ℕ) → (x == u) ≡ true → (y == x) ≡ false → (y == u) ≡ false
    other_than x y is differ = ap (λ z. y == z) (sym (eqb-true x u is)) ∙ differ

    even_end : (x : ℕ) → (x == u) ≡ true → (l == x) ≡ false → ends u ≡ false
    even_end x is differ = last_is ∙ rw (other_than x l is differ) refl

    even_begin : (x : ℕ) → (x == u) ≡ true → (r == x) ≡ false → begins_odd u (r ∷ rest) ≡ false
    even_begin x is differ = begins_odd-other u r rest (other_than x r is differ)

    left_gone-twin : times_of (left_gone front l a b) (u, u)
        ≡ cond ((a == u) && (not (b == u) && ends u)) 1 0
    unfolding left_gone
    left_gone-twin = grind (arith, nat_tests, one_twin, alike, even_end, other_than)

    right_gone-twin : times_of (right_gone a b r rest) (u, u)
        ≡ cond ((b == u) && (not (a == u) && begins_odd u (r ∷ rest))) 1 0
    unfolding right_gone
    right_gone-twin = grind (arith, nat_tests, one_twin, alike, other_than, even_begin)

    left_come-twin : times_of (left_come front l c) (u, u) ≡ cond ((c == u) && ends u) 1 0
    unfolding left_come
    left_come-twin = grind (arith, nat_tests, one_twin, alike, even_end, other_than)

    -- by tests alone
    both_odd : ((a == u) && ((b == u) && ends u)) ≡ false
    both_odd = grind (arith, nat_tests, even_end)

    new_even : ((c == u) && begins_odd u (r ∷ rest)) ≡ false
    new_even = grind (arith, nat_tests, even_begin)

    turned : (x y : ℕ) → (x == y) ≡ false → (y == x) ≡ false
    turned x y differ = ne_eqb y x (λ same. eqb-false x y differ (sym same))

    whole : (zs : List ℕ) → replacement_count (u, u) (front ++ l ∷ zs) ≡ replacement_count (u, u) ((front ++ l ∷ []) ++ zs)
    whole zs = ap (replacement_count (u, u)) (rw append_assoc refl)

    abbrev one : Bool → ℕ
    one test = cond test 1 0

    changed-twin : IsChanged (u, u)
    changed-twin = let odd : Bool = begins_odd u (r ∷ rest) in omega (
      arith,
      whole (a ∷ b ∷ r ∷ rest),
      whole (c ∷ r ∷ rest),
      replacement_count-run_append u (front ++ l ∷ []) (a ∷ b ∷ r ∷ rest),
      replacement_count-run_append u (front ++ l ∷ []) (c ∷ r ∷ rest),
      replacement_count-run_front u a (b ∷ r ∷ rest),
      replacement_count-run_front u b (r ∷ rest),
      replacement_count-run_front u c (r ∷ rest),
      ap (λ (t : Bool). one (ends u && t)) (begins_odd-front u a (b ∷ r ∷ rest)
          ∙ ap (λ t. (a == u) && not t) (begins_odd-front u b (r ∷ rest))),
      ap (λ (t : Bool). one (ends u && t)) (begins_odd-front u c (r ∷ rest)),
      ap (λ (t : Bool). one ((a == u) && t)) (begins_odd-front u b (r ∷ rest)),
      bits (a == u) (b == u) (c == u) (ends u) odd (replacement_count (u, u) (front ++ l ∷ [])) (replacement_count (u, u) (r ∷ rest))
          (not_both a c (turned c a new_a)) (not_both b c (turned c b new_b)) both_odd new_even,
      left_gone-twin,
      right_gone-twin,
      left_come-twin,
      alike a b,
      alike c r,
      ap one (not_both c r new_r),
    )

  -- the run rule: what a replacement at one place changes, for every pair
  pub changed : (other : ℕ × ℕ) → IsChanged other
  changed other = grind (arith, nat_tests, changed-twin, changed-apart)
