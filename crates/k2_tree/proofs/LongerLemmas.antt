-- Longer prefixes: the children of a square are numbers one after another, as many as the level's fan.
use Rattle.std.proofs.Common.{◌≡◌, ℕ, zero, suc, ◌+◌, ◌*◌, ◌/◌, ◌^◌, ◌<◌, ◌≤◌, ◌==◌, ◌||◌, ◌&&◌}
use Rattle.std.proofs.Common.{nat_le, nat_lt, Bool, true, List, [], ◌∷◌, ◌++◌, length, filter, get_or}
use Rattle.std.proofs.Common.{refl, sym, ap, ◌∙◌, inl, inr, arith, length-append}
use Rattle.std.specs.List.{list_any, range_with_len}
use Rattle.std.proofs.Math.Nat.{div-div-eq-div-mul, div-mul-le_self, lt-div-mul-add, mul-le-mul_left}
use Rattle.std.proofs.lemmas.Nat.{pow-add}
use Rattle.std.proofs.lemmas.Bool.{cases_lt}
use Rattle.std.proofs.lemmas.Bool.Decides.{nat_tests}
use Rattle.std.proofs.lemmas.List.{get_or-append-add, get_or_append_left}
use Rattle.std.proofs.lemmas.List.Folds.{list_any-append}
use Rattle.std.proofs.lemmas.List.FromFn.{length-range_with_len, get_or-range_with_len}
use Rattle.k2_tree.specs.Widths.{fan_of}
use Rattle.k2_tree.specs.TreeBits.{is_in, prefixes, Rises, children_of_prefixes}
use Rattle.k2_tree.proofs.RisingLemmas.{Rises-weaker, same_from_rising}
use Rattle.k2_tree.proofs.PrefixLemmas.{any-image, any-prefixes, fan_pos, is_in-filter, prefixes-rise, Rises-filter}

-- numbers one after another, and greater ones after them, rise
Rises-range : (n start m : ℕ) (rest : List ℕ) → n ≤ start → Rises (start + m) rest
    → Rises n (range_with_len start m ++ rest)
Rises-range n start zero rest low up = Rises-weaker n (start + 0) rest (omega arith) up
Rises-range n start (suc m) rest low up =
    let e : start + suc m ≡ start + 1 + m = omega arith in
    (low, Rises-range (suc start) (start + 1) m rest (omega arith) (rw e at up))

-- longer prefixes rise
pub children_of_prefixes-rises : (size n : ℕ) (xs : List ℕ) → Rises n xs → Rises (size * n) (children_of_prefixes size xs)
unfolding children_of_prefixes
children_of_prefixes-rises size n [] up = tt
children_of_prefixes-rises size n (x ∷ xs) up =
    let low : size * n ≤ size * x = mul-le-mul_left size up.0 in
    let e : size * suc x ≡ size * x + size = omega arith in
    Rises-range (size * n) (size * x) size (children_of_prefixes size xs) low (rw e at (children_of_prefixes-rises size (suc x) xs up.1))

-- numbers one after another are those from the first to the last
is_in-range : (start m c : ℕ) → is_in (range_with_len start m) c ≡ (nat_le start c && nat_lt c (start + m))
is_in-range start zero c = grind (arith, nat_tests)
is_in-range start (suc m) c = grind (arith, nat_tests, is_in-range (start + 1) m c)

-- the children of a square are the numbers that have its prefix
pub is_in-group : (size x c : ℕ) → 0 < size → is_in (range_with_len (size * x) size) c ≡ (x == c / size)
is_in-group size x c some =
    let low : size * (c / size) ≤ c = omega (arith, div-mul-le_self c size) in
    let high : c < size * (c / size) + size = omega (arith, lt-div-mul-add {a = c} {b = size} some) in
    is_in-range (size * x) size c ∙ by_quotient (c / size) low high
  where
    by_quotient : (q : ℕ) → size * q ≤ c → c < size * q + size
        → (nat_le (size * x) c && nat_lt c (size * x + size)) ≡ (x == q)
    by_quotient q low high = elim (cases_lt x q) [
      | inl less ↦
          let far : size * suc x ≤ size * q = mul-le-mul_left size (omega arith) in
          let past : size * x + size ≤ c = omega (arith, far) in
          grind (arith, nat_tests, past)
      | inr least ↦ elim (cases_lt q x) [
        | inl more ↦
            let far : size * suc q ≤ size * x = mul-le-mul_left size (omega arith) in
            let before : c < size * x = omega (arith, far) in
            grind (arith, nat_tests, before)
        | inr most ↦
            let same : x ≡ q = omega arith in
            let first : size * x ≤ c = rw same low in
            let last : c < size * x + size = rw same high in
            grind (arith, nat_tests, first, last, same)
      ]
    ]

-- a prefix without its last digit tells whether it is a longer one
pub is_in-children_of_prefixes : (size : ℕ) (xs : List ℕ) (c : ℕ) → 0 < size → is_in (children_of_prefixes size xs) c ≡ is_in xs (c / size)
unfolding children_of_prefixes
is_in-children_of_prefixes size [] c some = refl
is_in-children_of_prefixes size (x ∷ xs) c some =
    list_any-append (λ other. other == c) (range_with_len (size * x) size) (children_of_prefixes size xs)
    ∙ ap (λ b. b || is_in (children_of_prefixes size xs) c) (is_in-group size x c some)
    ∙ ap (λ b. (x == c / size) || b) (is_in-children_of_prefixes size xs c some)

-- so many longer prefixes each
pub length-children_of_prefixes : (size : ℕ) (xs : List ℕ) → length (children_of_prefixes size xs) ≡ size * length xs
unfolding children_of_prefixes
length-children_of_prefixes size [] = omega arith
length-children_of_prefixes size (x ∷ xs) =
    length-append (range_with_len (size * x) size) (children_of_prefixes size xs)
    ∙ omega (arith, length-range_with_len (size * x) size, length-children_of_prefixes size xs)

-- the longer prefixes by place
pub get_or-children_of_prefixes : (size : ℕ) (xs : List ℕ) (i d : ℕ) → i < length xs → d < size
    → get_or (children_of_prefixes size xs) (size * i + d) 0 ≡ size * get_or xs i 0 + d
unfolding children_of_prefixes
get_or-children_of_prefixes size [] i d within small = absurd (omega arith)
get_or-children_of_prefixes size (x ∷ xs) zero d within small =
    let group : List ℕ = range_with_len (size * x) size in
    let e : size * 0 + d ≡ d = omega arith in
    ap (λ k. get_or (group ++ children_of_prefixes size xs) k 0) e
    ∙ get_or_append_left group (children_of_prefixes size xs) 0 d (omega (arith, length-range_with_len (size * x) size))
    ∙ get_or-range_with_len (size * x) size d 0 small
get_or-children_of_prefixes size (x ∷ xs) (suc i) d within small =
    let group : List ℕ = range_with_len (size * x) size in
    let e : size * suc i + d ≡ length group + (size * i + d) = omega (arith, length-range_with_len (size * x) size) in
    ap (λ k. get_or (group ++ children_of_prefixes size xs) k 0) e
    ∙ get_or-append-add group (children_of_prefixes size xs) (size * i + d) 0
    ∙ get_or-children_of_prefixes size xs i d (omega arith) small

-- digits left away in two steps
pub div-pow_add : (x n w : ℕ) → x / 4 ^ n / 4 ^ w ≡ x / 4 ^ (w + n)
div-pow_add x n w =
    let e : w + n ≡ n + w = omega arith in
    div-div-eq-div-mul x (4 ^ n) (4 ^ w) ∙ ap (λ p. x / p) (sym (ap (λ k. 4 ^ k) e ∙ pow-add 4 n w))

-- the prefixes that are shorter are the parents of these
pub is_in-parents : (w n : ℕ) (codes : List ℕ) (c : ℕ)
    → is_in (prefixes (w + n) codes) c ≡ list_any (λ x. x / 4 ^ w == c) (prefixes n codes)
is_in-parents w n codes c =
    any-prefixes (λ o. o == c) (w + n) codes ∙ same codes ∙ sym (any-prefixes (λ x. x / 4 ^ w == c) n codes)
  where
    same : (xs : List ℕ) → list_any (λ x. x / 4 ^ (w + n) == c) xs ≡ list_any (λ x. x / 4 ^ n / 4 ^ w == c) xs
    same [] = refl
    same (x ∷ xs) = rw (div-pow_add x n w) (ap (λ b. (x / 4 ^ (w + n) == c) || b) (same xs))

-- where a prefix occurs, the one without its last digits does
pub prefixes-shorter : (w n : ℕ) (codes : List ℕ) (c : ℕ)
    → is_in (prefixes n codes) c ≡ true → is_in (prefixes (w + n) codes) (c / 4 ^ w) ≡ true
prefixes-shorter w n codes c is =
    is_in-parents w n codes (c / 4 ^ w) ∙ any-image (λ x. x / 4 ^ w) (prefixes n codes) c is

-- the prefixes of one level are those that occur among the longer prefixes of the level above
pub prefixes-from_longer : (w n : ℕ) (codes : List ℕ) → Rises 0 codes
    → filter (is_in (prefixes n codes)) (children_of_prefixes (fan_of w) (prefixes (w + n) codes)) ≡ prefixes n codes
prefixes-from_longer w n codes up =
    let test : ℕ → Bool = is_in (prefixes n codes) in
    let above : List ℕ = prefixes (w + n) codes in
    let all : List ℕ = children_of_prefixes (4 ^ w) above in
    let none : 4 ^ w * 0 ≡ 0 = omega arith in
    let rises : Rises 0 all = rw none at (children_of_prefixes-rises (4 ^ w) 0 above (prefixes-rise (w + n) codes up)) in
    same_from_rising 0 (filter test all) (prefixes n codes) (Rises-filter 0 test all rises) (prefixes-rise n codes up)
    (λ c. grind (
      arith,
      is_in-filter test all c,
      is_in-children_of_prefixes (4 ^ w) above c (fan_pos w),
      prefixes-shorter w n codes c,
    ))
