-- Building: what one number more after ascending ones changes in a level's bits, whatever its fan.
use Rattle.std.proofs.Common.{◌≡◌, ℕ, zero, suc, ◌+◌, ◌-◌, ◌*◌, ◌/◌, ◌%◌, ◌^◌, ◌<◌, ◌≤◌, ◌==◌, ◌||◌, Bool, true, false}
use Rattle.std.proofs.Common.{List, [], ◌∷◌, ◌++◌, length, map, take, get_or, refl, sym, ap, ◌∙◌, inl, inr, arith}
use Rattle.std.proofs.Common.{subst, replicate, if◌then◌else◌}
use Rattle.std.proofs.Common.{length-append, append_assoc, append-nil}
use Rattle.std.specs.List.{range_with_len}
use Rattle.std.proofs.Math.Nat.{div-add-mod, mod-lt}
use Rattle.std.proofs.lemmas.Grind.{flat_map-append}
use Rattle.std.proofs.Math.ListN.{set}
use Rattle.std.proofs.Math.Seq.{take-suc}
use Rattle.std.proofs.lemmas.List.{length-map, map-append, set-append_right}
use Rattle.std.proofs.lemmas.Bool.Decides.{nat_tests}
use Rattle.std.proofs.lemmas.List.Folds.{list_any-append}
use Rattle.k2_tree.specs.Widths.{fan_of, digits_in}
use Rattle.k2_tree.specs.TreeBits.{is_in, prefixes, Rises, level_bits, children_of_prefixes, morton_bits}
use Rattle.k2_tree.specs.Building.{levels_bits}
use Rattle.k2_tree.specs.Groups.{upper_squares}
use Rattle.k2_tree.specs.Widths.{levels_with, widths_of}
use Rattle.k2_tree.proofs.LevelLemmas.{bits_above-same, length-levels_bits, morton_bits-parted}
use Rattle.k2_tree.proofs.WidthLemmas.{digits_in-levels_with}
use Rattle.k2_tree.proofs.MortonLemmas.{two_bits}
use Rattle.k2_tree.proofs.RisingLemmas.{Rises-place}
use Rattle.k2_tree.proofs.PrefixLemmas.{any-prefixes, by_test, div-group, once_from, prefixes-rise, fan_pos}
use Rattle.k2_tree.proofs.LongerLemmas.{div-pow_add, length-children_of_prefixes, get_or-children_of_prefixes, children_of_prefixes-rises, prefixes-shorter}

-- the places of a square whose first number is the i-th and whose prefix drops so many digits; none where the number
-- before is in the square too
abbrev pub room : ℕ → ℕ → List ℕ → ℕ → List Bool
room size above codes zero = replicate size false
room size above codes (suc i) =
    (if get_or codes i 0 / 2 ^ (2 * above) == get_or codes (suc i) 0 / 2 ^ (2 * above)
    then [] else replicate size false)

-- the last of a number and those after it
abbrev last_of : ℕ → List ℕ → ℕ
last_of k [] = k
last_of k (x ∷ xs) = last_of x xs

-- the same number again changes nothing
once_from-same : (k y : ℕ) (xs : List ℕ) → y ≡ last_of k xs → once_from k (xs ++ y ∷ []) ≡ once_from k xs
once_from-same k y [] e = grind (arith, nat_tests)
once_from-same k y (x ∷ xs) e = grind (arith, nat_tests, once_from-same k y xs, once_from-same x y xs e)

-- another number stands after
once_from-new : (k y : ℕ) (xs : List ℕ) → (y ≡ last_of k xs → ⊥) → once_from k (xs ++ y ∷ []) ≡ once_from k xs ++ y ∷ []
once_from-new k y [] e = grind (arith, nat_tests, e)
once_from-new k y (x ∷ xs) e = grind (arith, nat_tests, once_from-new k y xs, once_from-new x y xs e)

-- the last number stays the last
once_from-last : (k : ℕ) (xs : List ℕ)
    → (0 < length (once_from k xs)) × (get_or (once_from k xs) (length (once_from k xs) - 1) 0 ≡ last_of k xs)
once_from-last k [] = (omega arith, refl)
once_from-last k (x ∷ xs) = elim (by_test x k) [
  | inl same ↦ rw same.1 (let rest = once_from-last k xs in (rest.0, rest.1 ∙ ap (λ z. last_of z xs) (sym same.0)))
  | inr differ ↦
      let rest = once_from-last x xs in
      let e : suc (length (once_from x xs)) - 1 ≡ suc (length (once_from x xs) - 1) = omega (arith, rest.0) in
      rw differ.1 (omega arith, (rw e rest.1))
]

-- the last of images
last_of-map : (f : ℕ → ℕ) (k : ℕ) (xs : List ℕ) → last_of (f k) (map f xs) ≡ f (last_of k xs)
last_of-map f k [] = refl
last_of-map f k (x ∷ xs) = last_of-map f x xs

last_of-snoc : (k y : ℕ) (xs : List ℕ) → last_of k (xs ++ y ∷ []) ≡ y
last_of-snoc k y [] = refl
last_of-snoc k y (x ∷ xs) = last_of-snoc x y xs

-- the last prefix is the last number's
prefixes-last : (n c : ℕ) (xs : List ℕ)
    → (0 < length (prefixes n (xs ++ c ∷ [])))
    × (get_or (prefixes n (xs ++ c ∷ [])) (length (prefixes n (xs ++ c ∷ [])) - 1) 0 ≡ c / 4 ^ n)
unfolding prefixes
prefixes-last n c [] = (omega arith, refl)
prefixes-last n c (x ∷ xs) =
    let both = once_from-last (x / 4 ^ n) (map (λ y. y / 4 ^ n) (xs ++ c ∷ [])) in
    (both.0, both.1 ∙ last_of-map (λ y. y / 4 ^ n) x (xs ++ c ∷ []) ∙ ap (λ y. y / 4 ^ n) (last_of-snoc x c xs))

-- a prefix that the last number had
prefixes-same : (n c x : ℕ) (xs : List ℕ) → c / 4 ^ n ≡ last_of x xs / 4 ^ n
    → prefixes n (x ∷ xs ++ c ∷ []) ≡ prefixes n (x ∷ xs)
unfolding prefixes
prefixes-same n c x xs e =
    ap (once_from (x / 4 ^ n)) (map-append (λ y. y / 4 ^ n) xs (c ∷ []))
    ∙ once_from-same (x / 4 ^ n) (c / 4 ^ n) (map (λ y. y / 4 ^ n) xs) (e ∙ sym (last_of-map (λ y. y / 4 ^ n) x xs))

-- a prefix that the last number had not
prefixes-new : (n c x : ℕ) (xs : List ℕ) → (c / 4 ^ n ≡ last_of x xs / 4 ^ n → ⊥)
    → prefixes n (x ∷ xs ++ c ∷ []) ≡ prefixes n (x ∷ xs) ++ c / 4 ^ n ∷ []
unfolding prefixes
prefixes-new n c x xs e =
    ap (once_from (x / 4 ^ n)) (map-append (λ y. y / 4 ^ n) xs (c ∷ []))
    ∙ once_from-new (x / 4 ^ n) (c / 4 ^ n) (map (λ y. y / 4 ^ n) xs) (λ is. e (is ∙ last_of-map (λ y. y / 4 ^ n) x xs))

-- the prefixes of one number more
is_in-more : (n c z : ℕ) (xs : List ℕ)
    → is_in (prefixes n (xs ++ c ∷ [])) z ≡ (is_in (prefixes n xs) z || (c / 4 ^ n == z))
is_in-more n c z xs =
    any-prefixes (λ other. other == z) n (xs ++ c ∷ []) ∙ list_any-append (λ x. x / 4 ^ n == z) xs (c ∷ [])
    ∙ grind (arith, any-prefixes (λ other. other == z) n xs)

-- a test that has come true at one number alone
mark : (f g : ℕ → Bool) (p : ℕ) → ((z : ℕ) → g z ≡ (f z || (p == z))) → (n i : ℕ) (xs : List ℕ) → Rises n xs
    → i < length xs → get_or xs i 0 ≡ p → map g xs ≡ set (map f xs) i true
mark f g p more n i [] up within here = absurd (omega arith)
mark f g p more n zero (x ∷ xs) up within here =
    let one : g x ≡ true = grind (arith, nat_tests, more x) in
    rw one (ap (λ ys. true ∷ ys) (kept (suc x) xs up.1 (omega (arith, here))))
  where
    kept : (n : ℕ) (xs : List ℕ) → Rises n xs → p < n → map g xs ≡ map f xs
    kept n [] up above = refl
    kept n (x ∷ xs) up above =
        let low : n ≤ x = up.0 in
        let same : g x ≡ f x = grind (arith, nat_tests, more x) in
        rw same (ap (λ ys. f x ∷ ys) (kept (suc x) xs up.1 (omega arith)))
mark f g p more n (suc i) (x ∷ xs) up within here =
    let later = Rises-place (suc x) i xs up.1 (omega arith) in
    let same : g x ≡ f x = grind (arith, nat_tests, more x, later, here) in
    rw same (ap (λ ys. f x ∷ ys) (mark f g p more (suc x) i xs up.1 (omega arith) here))

-- one number more sets one bit in the last group: given the prefixes of the level above, and that the last is the
-- number's
level_more : (w n c : ℕ) (above : List ℕ) (f g : ℕ → Bool) (grown : List Bool) → Rises 0 above → 0 < length above
    → get_or above (length above - 1) 0 ≡ c / 4 ^ (w + n) → ((z : ℕ) → g z ≡ (f z || (c / 4 ^ n == z)))
    → grown ≡ map f (children_of_prefixes (fan_of w) above)
    → (fan_of w ≤ length grown)
    × (map g (children_of_prefixes (fan_of w) above) ≡ set grown (length grown - fan_of w + c / 4 ^ n % fan_of w) true)
level_more w n c above f g grown up some last more is =
    let k : ℕ = fan_of w in
    let m : ℕ = length above - 1 in
    let d : ℕ = c / 4 ^ n % k in
    let small : d < k = mod-lt (c / 4 ^ n) (fan_pos w) in
    let count : length above ≡ suc m = omega arith in
    let long : length grown ≡ k * suc m =
    ap length is ∙ length-map (children_of_prefixes k above) f ∙ length-children_of_prefixes k above ∙ ap (λ x. k * x) count in
    let place : length grown - k + d ≡ k * m + d = omega (arith, long) in
    let here : get_or (children_of_prefixes k above) (k * m + d) 0 ≡ c / 4 ^ n =
    get_or-children_of_prefixes k above m d (omega arith) small ∙ ap (λ q. k * q + d) (last ∙ sym (div-pow_add c n w))
    ∙ div-add-mod (c / 4 ^ n) k in
    let none : k * 0 ≡ 0 = omega arith in
    let up' : Rises 0 (children_of_prefixes k above) = rw none at (children_of_prefixes-rises k 0 above up) in
    let inside : k * m + d < length (children_of_prefixes k above) =
    omega (arith, length-children_of_prefixes k above, ap (λ x. k * x) count) in (
      omega (arith, long),
      mark f g (c / 4 ^ n) more 0 (k * m + d) (children_of_prefixes k above) up' inside here
          ∙ ap (λ ys. set ys (k * m + d) true) (sym is) ∙ ap (λ j. set grown j true) (sym place),
    )

-- what fails on all children of a square gives a group of zeros
fresh : (size q : ℕ) (f : ℕ → Bool) (start m : ℕ) → 0 < size → size * q ≤ start → start + m ≤ size * q + size
    → ((z : ℕ) → z / size ≡ q → f z ≡ false) → map f (range_with_len start m) ≡ replicate m false
fresh size q f start zero some low high none = refl
fresh size q f start (suc m) some low high none =
    rw (none start (div-group size q start low (omega arith))) (ap (λ bs. false ∷ bs)
    (fresh size q f (start + 1) m some (omega arith) (omega arith) none))

-- the longer prefixes of one prefix more
pub children_of_prefixes-snoc : (size : ℕ) (xs : List ℕ) (q : ℕ)
    → children_of_prefixes size (xs ++ q ∷ []) ≡ children_of_prefixes size xs ++ range_with_len (size * q) size
unfolding children_of_prefixes
children_of_prefixes-snoc size xs q =
    flat_map-append (λ p. range_with_len (size * p) size) xs (q ∷ [])
    ∙ ap (λ ys. children_of_prefixes size xs ++ ys) (append-nil (range_with_len (size * q) size))

-- what rises after a list is not in it
absent_last : (n q : ℕ) (xs : List ℕ) → Rises n (xs ++ q ∷ []) → (is_in xs q ≡ false) × (n ≤ q)
absent_last n q [] up = (refl, up.0)
absent_last n q (x ∷ xs) up =
    let rest = absent_last (suc x) q xs up.1 in
    let low : suc x ≤ q = rest.1 in
    let first : n ≤ x = up.0 in
    (grind (arith, nat_tests, rest.0), omega arith)

Rises-take : (n i : ℕ) (xs : List ℕ) → Rises n xs → Rises n (take i xs)
Rises-take n zero xs up = tt
Rises-take n (suc i) [] up = tt
Rises-take n (suc i) (x ∷ xs) up = (up.0, Rises-take (suc x) i xs up.1)

last_of-take : (x j : ℕ) (xs : List ℕ) → j ≤ length xs → last_of x (take j xs) ≡ get_or (x ∷ xs) j 0
last_of-take x zero xs within = refl
last_of-take x (suc j) [] within = absurd (omega arith)
last_of-take x (suc j) (y ∷ ys) within = last_of-take y j ys (omega arith)

-- another number opens a group in which nothing was
grown_new : (w n c x : ℕ) (xs : List ℕ) → Rises 0 (x ∷ xs ++ c ∷ [])
    → (c / 4 ^ (w + n) ≡ last_of x xs / 4 ^ (w + n) → ⊥)
    → level_bits w n (x ∷ xs) ++ replicate (fan_of w) false
    ≡ map (is_in (prefixes n (x ∷ xs))) (children_of_prefixes (fan_of w) (prefixes (w + n) (x ∷ xs ++ c ∷ [])))
unfolding level_bits
grown_new w n c x xs up differ =
    let old : List ℕ = prefixes (w + n) (x ∷ xs) in
    let q : ℕ = c / 4 ^ (w + n) in
    let f : ℕ → Bool = is_in (prefixes n (x ∷ xs)) in
    let k : ℕ = fan_of w in
    let group : List ℕ = range_with_len (k * q) k in
    let new : prefixes (w + n) (x ∷ xs ++ c ∷ []) ≡ old ++ q ∷ [] = prefixes-new (w + n) c x xs differ in
    let rises : Rises 0 (old ++ q ∷ []) = subst (Rises 0) new (prefixes-rise (w + n) (x ∷ xs ++ c ∷ []) up) in
    let none : (z : ℕ) → z / k ≡ q → f z ≡ false =
    λ z parent.
    grind (arith, prefixes-shorter w n (x ∷ xs) z, ap (is_in old) parent ∙ (absent_last 0 q old rises).0) in
    let zeros : map f group ≡ replicate k false = fresh k q f (k * q) k (fan_pos w) (omega arith) (omega arith) none in
    sym (ap (λ ps. map f (children_of_prefixes k ps)) new ∙ ap (map f) (children_of_prefixes-snoc k old q)
    ∙ map-append f (children_of_prefixes k old) group
    ∙ ap (λ bits. map f (children_of_prefixes k old) ++ bits) zeros)

-- with the room for the next number, the level has the groups of that number too
grown : (w n i : ℕ) (codes : List ℕ) → i < length codes → Rises 0 (take i codes ++ get_or codes i 0 ∷ [])
    → level_bits w n (take i codes) ++ room (fan_of w) (w + n) codes i
    ≡ map (is_in (prefixes n (take i codes)))
    (children_of_prefixes (fan_of w) (prefixes (w + n) (take i codes ++ get_or codes i 0 ∷ [])))
unfolding level_bits prefixes children_of_prefixes
grown w n zero codes within up =
    let c : ℕ = get_or codes 0 0 in
    let k : ℕ = fan_of w in
    let q : ℕ = c / 4 ^ (w + n) in
    let one : prefixes (w + n) (c ∷ []) ≡ q ∷ [] = only (w + n) c in
    let f : ℕ → Bool = is_in (prefixes n []) in
    let zeros : map f (range_with_len (k * q) k) ≡ replicate k false =
    fresh k q f (k * q) k (fan_pos w) (omega arith) (omega arith) (λ z parent. nothing n z) in
    empty w n (replicate k false) ∙ sym (ap (λ ps. map f (children_of_prefixes k ps)) one ∙ ap (map f) (children_of_prefixes-snoc k [] q)
    ∙ map-append f (children_of_prefixes k []) (range_with_len (k * q) k) ∙ ap (λ bits. map f (children_of_prefixes k []) ++ bits) zeros
    ∙ none_longer k f (replicate k false))
  where
    only : (m c : ℕ) → prefixes m (c ∷ []) ≡ c / 4 ^ m ∷ []
    only m c = refl

    nothing : (n z : ℕ) → is_in (prefixes n []) z ≡ false
    nothing n z = refl

    empty : (w n : ℕ) (bits : List Bool) → map (is_in (prefixes n [])) (children_of_prefixes (fan_of w) (prefixes (w + n) [])) ++ bits
        ≡ bits
    empty w n bits = refl

    none_longer : (k : ℕ) (f : ℕ → Bool) (bits : List Bool) → map f (children_of_prefixes k []) ++ bits ≡ bits
    none_longer k f bits = refl
grown w n (suc j) [] within up = absurd (omega arith)
grown w n (suc j) (x ∷ rest) within up =
    let c : ℕ = get_or (x ∷ rest) (suc j) 0 in
    let before : ℕ = get_or (x ∷ rest) j 0 in
    let last : last_of x (take j rest) ≡ before = last_of-take x j rest (omega arith) in
    let p : 2 ^ (2 * (w + n)) ≡ 4 ^ (w + n) = two_bits (w + n) in
    rw p (elim (by_test (before / 4 ^ (w + n)) (c / 4 ^ (w + n))) [
      | inl same ↦
          let old = prefixes-same (w + n) c x (take j rest) (sym same.0 ∙ ap (λ z. z / 4 ^ (w + n)) (sym last)) in
          rw (same.1, old) (append-nil (level_bits w n (x ∷ take j rest)))
      | inr differ ↦
          rw differ.1 (grown_new w n c x (take j rest) up
          (λ e. differ.0 (ap (λ z. z / 4 ^ (w + n)) (sym last) ∙ sym e)))
    ])

-- one number more
pub level_step : (w n i : ℕ) (codes : List ℕ) (front old : List Bool) → Rises 0 codes → i < length codes
    → old ≡ front ++ level_bits w n (take i codes)
    → (fan_of w ≤ length (old ++ room (fan_of w) (w + n) codes i))
    × (set (old ++ room (fan_of w) (w + n) codes i)
    (length (old ++ room (fan_of w) (w + n) codes i) - fan_of w + get_or codes i 0 / 4 ^ n % fan_of w) true
    ≡ front ++ level_bits w n (take (i + 1) codes))
unfolding level_bits
level_step w n i codes front old up within is =
    let k : ℕ = fan_of w in
    let c : ℕ = get_or codes i 0 in
    let xs : List ℕ = take i codes in
    let r : List Bool = room k (w + n) codes i in
    let level : List Bool = level_bits w n xs ++ r in
    let e : i + 1 ≡ suc i = omega arith in
    let snoc : take (i + 1) codes ≡ xs ++ c ∷ [] = ap (λ m. take m codes) e ∙ take-suc codes i 0 within in
    let up' : Rises 0 (xs ++ c ∷ []) = subst (Rises 0) snoc (Rises-take 0 (i + 1) codes up) in
    let above : List ℕ = prefixes (w + n) (xs ++ c ∷ []) in
    let last = prefixes-last (w + n) c xs in
    let more = level_more w n c above (is_in (prefixes n xs)) (is_in (prefixes n (xs ++ c ∷ []))) level
    (prefixes-rise (w + n) (xs ++ c ∷ []) up') last.0 last.1 (λ z. is_in-more n c z xs) (grown w n i codes within up')
    in
    let enough : k ≤ length level = more.0 in
    let whole : old ++ r ≡ front ++ level = ap (λ bs. bs ++ r) is ∙ append_assoc front (level_bits w n xs) r in
    let long : length (old ++ r) ≡ length front + length level = ap length whole ∙ length-append front level in
    let d : ℕ = c / 4 ^ n % k in
    let j : ℕ = length (old ++ r) - k + d in
    let place : j - length front ≡ length level - k + d = omega arith in
    let behind : length front ≤ j = omega arith in (
      omega arith,
      ap (λ bs. set bs j true) whole
          ∙ set-append_right front level (length front) j true refl behind
          ∙ ap (λ m. front ++ set level m true) place ∙ ap (λ bs. front ++ bs) (sym more.1)
          ∙ ap (λ ys. front ++ level_bits w n ys) (sym snoc),
    )

-- no number, no bits
pub level_bits-none : (w n : ℕ) → level_bits w n [] ≡ []
unfolding level_bits prefixes children_of_prefixes
level_bits-none w n = refl

-- one level more
pub levels_step : (w level below : ℕ) (codes : List ℕ) (bits done all : List Bool) → 0 < level
    → bits ++ levels_bits (levels_with w level) below codes ≡ all
    → done ≡ bits ++ level_bits w (w * (level - 1) + below) codes
    → done ++ levels_bits (levels_with w (level - 1)) below codes ≡ all
unfolding levels_bits levels_with
levels_step w zero below codes bits done all some is made = absurd (omega arith)
levels_step w (suc k) below codes bits done all some is made =
    let e : suc k - 1 ≡ k = omega arith in
    let n : ℕ = w * k + below in
    let ws : List ℕ = levels_with w k in
    let digits : digits_in ws + below ≡ n = omega (arith, digits_in-levels_with w k) in
    let made' : done ≡ bits ++ level_bits w n codes = made ∙ ap (λ m. bits ++ level_bits w (w * m + below) codes) e in
    ap (λ m. done ++ levels_bits (levels_with w m) below codes) e
    ∙ ap (λ bs. bs ++ levels_bits ws below codes) made'
    ∙ append_assoc bits (level_bits w n codes) (levels_bits ws below codes)
    ∙ ap (λ m. bits ++ (level_bits w m codes ++ levels_bits ws below codes)) (sym digits) ∙ is

-- after the last level
pub levels_end : (w level below : ℕ) (codes : List ℕ) (bits all : List Bool) → level ≡ 0
    → bits ++ levels_bits (levels_with w level) below codes ≡ all → bits ≡ all
unfolding levels_bits levels_with
levels_end w zero below codes bits all last is = sym (append-nil bits) ∙ is
levels_end w (suc level) below codes bits all last is = absurd (omega arith)

-- the wide levels and the others are a tree's
pub levels_joined : (height wide : ℕ) (codes : List ℕ)
    → levels_bits (levels_with 2 wide) (height - 2 * wide) codes
    ++ levels_bits (levels_with 1 (height - 2 * wide)) 0 codes ≡ morton_bits (widths_of height wide) codes
unfolding morton_bits levels_with levels_bits digits_in
levels_joined height wide codes =
    let low : ℕ = height - 2 * wide in
    let ones : List ℕ = levels_with 1 low in
    let digits : digits_in ones ≡ low = omega (arith, digits_in-levels_with 1 low) in
    let lower : morton_bits ones codes ≡ levels_bits ones 0 codes =
    ap (λ ws. morton_bits ws codes) (sym (append-nil ones)) ∙ morton_bits-parted ones [] codes
    ∙ append-nil (levels_bits ones 0 codes) in
    sym (morton_bits-parted (levels_with 2 wide) ones codes
    ∙ ap (λ n. levels_bits (levels_with 2 wide) n codes ++ morton_bits ones codes) digits
    ∙ ap (λ bits. levels_bits (levels_with 2 wide) low codes ++ bits) lower)

-- the wide levels have sixteen bits for each square that they split
pub upper_bits : (height wide : ℕ) (codes : List ℕ)
    → length (levels_bits (levels_with 2 wide) (height - 2 * wide) codes) ≡ 16 * upper_squares height wide codes
upper_bits height wide codes =
    length-levels_bits (levels_with 2 wide) (height - 2 * wide) codes
    ∙ bits_above-same 2 wide (height - 2 * wide) codes ∙ omega arith
