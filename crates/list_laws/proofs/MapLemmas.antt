-- Mapped lists: laid end to end, side by side, from the last on, what a test keeps of them, and what leaves a list as it is.
use Rattle.std.proofs.Common.{zero, ◌≡◌, ◌≢◌, ◌<◌, set, Bool, List, [], ◌∷◌, ◌++◌, length, map, filter, All, refl, sym, ◌∙◌, ap, arith, inl, inr, subst, suc, ℕ, ◌≤◌, ◌+◌}
use Rattle.std.specs.List.{Contains, flat_map, range_with_len, zip}
use Rattle.std.proofs.lemmas.List.{get_or-map, length-map, map-append, reverse-append}
use Rattle.std.specs.Prelude.{reverse}
use Rattle.list_laws.proofs.MemberLemmas.{first_member, later_member, member_cases, no_member}

-- what a test keeps of a mapped list
pub filter-map : {X Y : Type 0} (p : Y → Bool) (f : X → Y) (xs : List X)
    → filter p (map f xs) ≡ map f (filter (λ x. p (f x)) xs)
filter-map p f [] = refl
filter-map p f (x ∷ xs) = grind (arith, filter-map p f xs)

-- what is made of the elements of lists laid end to end
pub map-flat_map : {X A B : Type 0} (g : A → B) (f : X → List A) (xs : List X)
    → map g (flat_map f xs) ≡ flat_map (λ x. map g (f x)) xs
map-flat_map g f [] = refl
map-flat_map g f (x ∷ xs) = map-append g (f x) (flat_map f xs) ∙ ap (λ ys. map g (f x) ++ ys) (map-flat_map g f xs)

-- a function that leaves each element as it is
pub map-fixed : {X : Type 0} (f : X → X) (xs : List X) → ((x : X) → Contains xs x → f x ≡ x) → map f xs ≡ xs
map-fixed f [] same = refl
map-fixed f (x ∷ xs) same =
    let rest = map-fixed f xs (λ y inside. same y (later_member y x xs inside)) in
    ap (λ y. y ∷ map f xs) (same x (first_member x xs)) ∙ ap (λ ys. x ∷ ys) rest

-- what agrees on all elements makes the same list
pub map_alike : {X Y : Type 0} (f g : X → Y) (xs : List X) → All (λ x. f x ≡ g x) xs → map f xs ≡ map g xs
map_alike f g [] each = refl
map_alike f g (x ∷ xs) each =
    let first : f x ≡ g x = each 0 x (omega arith) in
    ap (λ y. y ∷ map f xs) first ∙ ap (λ ys. g x ∷ ys) (map_alike f g xs (λ k d below. each (suc k) d (omega arith)))

-- what is made of numbers from one on, where it is the same of each
pub map-range_agree : {Y : Type 0} (f g : ℕ → Y) (a n : ℕ) → ((i : ℕ) → a ≤ i → i < a + n → f i ≡ g i) →
    map f (range_with_len a n) ≡ map g (range_with_len a n)
map-range_agree f g a zero same = refl
map-range_agree f g a (suc n) same =
    ap (λ y. y ∷ map f (range_with_len (a + 1) n)) (same a (omega arith) (omega arith))
    ∙ ap (λ ys. g a ∷ ys) (map-range_agree f g (a + 1) n (λ i low high. same i (omega arith) (omega arith)))

-- where two give the same for all numbers but one, the one is set
pub set-map-range : {X : Type 0} (f g : ℕ → X) (from count place own : ℕ) → own ≡ from + place → ((n : ℕ) → n ≢ own → f n ≡ g n) → place < count →
    set (map f (range_with_len from count)) place (g own) ≡ map g (range_with_len from count)
set-map-range f g from zero place own is others within = absurd (omega arith)
set-map-range f g from (suc count) zero own is others within =
    let here : own ≡ from = omega arith in
    let rest : map f (range_with_len (from + 1) count) ≡ map g (range_with_len (from + 1) count) =
    map-range_agree f g (from + 1) count (λ n low high. others n (λ same. omega arith)) in
    rw (here, rest) refl
set-map-range f g from (suc count) (suc place) own is others within =
    let here : f from ≡ g from = others from (λ same. omega arith) in
    let rest = set-map-range f g (from + 1) count place own (omega arith) others (omega arith) in
    rw (here, rest) refl

-- what leads back from each image leads back from the list of them
pub map-back : {X Y : Type 0} (f : X → Y) (g : Y → X) (xs : List X) → All (λ x. g (f x) ≡ x) xs → map g (map f xs) ≡ xs
map-back f g [] back = refl
map-back f g (x ∷ xs) back =
    rw (back 0 x (omega arith)) (ap (λ ys. x ∷ ys) (map-back f g xs (λ k d h. back (suc k) d (omega arith))))

-- elements side by side, of which two functions make the same lists
pub zip-agree : {X Y Z : Type 0} (f : X → Z) (g : Y → Z) (xs : List X) (ys : List Y) (x : X) (y : Y)
    → map f xs ≡ map g ys → Contains (zip xs ys) (x, y) → f x ≡ g y
zip-agree f g [] ys x y same inside = no_member (x, y) inside
zip-agree f g (a ∷ xs) [] x y same inside = no_member (x, y) inside
zip-agree {X} {Y} f g (a ∷ xs) (b ∷ ys) x y same inside =
    let front : f a ≡ g b = cc in
    let rest : map f xs ≡ map g ys = cc in
    elim (member_cases (x, y) (a, b) (zip xs ys) inside) [
      | inl is ↦ ap (λ (p : X × Y). f p.0) (sym is) ∙ front ∙ ap (λ (p : X × Y). g p.1) is
      | inr later ↦ zip-agree f g xs ys x y rest later
    ]

-- the elements that stand side by side are those of the two lists
pub member_of_zip : {X Y : Type 0} (xs : List X) (ys : List Y) (x : X) (y : Y) → Contains (zip xs ys) (x, y)
    → Contains xs x × Contains ys y
member_of_zip [] ys x y inside = no_member (x, y) inside
member_of_zip (a ∷ xs) [] x y inside = no_member (x, y) inside
member_of_zip {X} {Y} (a ∷ xs) (b ∷ ys) x y inside = elim (member_cases (x, y) (a, b) (zip xs ys) inside) [
  | inl is ↦ (
    subst (Contains (a ∷ xs)) (ap (λ (p : X × Y). p.0) is) (first_member a xs),
    subst (Contains (b ∷ ys)) (ap (λ (p : X × Y). p.1) is) (first_member b ys),
  )
  | inr later ↦
      let rest = member_of_zip xs ys x y later in
      (later_member x a xs rest.0, later_member y b ys rest.1)
]

-- what holds of all that is made holds, through the function, of what it is made of
pub All-from_map : {X Y : Type 0} (P : Y → Type 0) (f : X → Y) (xs : List X) → All P (map f xs) → All (λ x. P (f x)) xs
All-from_map P f xs all k d below =
    let there : k < length (map f xs) = rw length-map below in
    rw (get_or-map f xs k d (f d) below) at (all k (f d) there)

-- what is made of each element, from the last on
pub map-reverse : {X Y : Type 0} (f : X → Y) (xs : List X) → map f (reverse xs) ≡ reverse (map f xs)
map-reverse f [] = refl
map-reverse f (x ∷ xs) =
    ap (map f) (reverse-append (x ∷ []) xs) ∙ map-append f (reverse xs) (x ∷ []) ∙ ap (λ ys. ys ++ f x ∷ []) (map-reverse f xs)
    ∙ sym (reverse-append (f x ∷ []) (map f xs))
