-- Members of lists that are mapped, filtered, joined and searched.
use Rattle.std.proofs.Common.{◌≡◌, ◌⊎◌, ℕ, zero, suc, ◌<◌, Bool, true, false, List, [], ◌∷◌, length, get_or, map, filter, find, None, Some, refl, sym, ◌∙◌, ap, arith, inl, inr}
use Rattle.std.specs.List.{Contains, flat_map, list_any}
use Rattle.std.proofs.Math.ListN.{get_or-map}
use Rattle.std.proofs.lemmas.Bool.{cases_Bool}
use Rattle.std.proofs.lemmas.List.{length-map}
use Rattle.std.proofs.lemmas.List.Elements.{Contains-append_cases, Contains-append_left, Contains-append_right}

-- the first element is a member, and so is each later one
pub first_member : {X : Type 0} (x : X) (xs : List X) → Contains (x ∷ xs) x
first_member x xs = (0, omega arith, refl)

pub later_member : {X : Type 0} (x y : X) (ys : List X) → Contains ys x → Contains (y ∷ ys) x
later_member x y ys inside = (suc inside.0, (let below : inside.0 < length ys = inside.1 in omega arith), inside.2)

-- there are no other members
member_at : {X : Type 0} (x y : X) (ys : List X) (k : ℕ) → k < length (y ∷ ys) → get_or (y ∷ ys) k x ≡ x →
    (y ≡ x) ⊎ Contains ys x
member_at x y ys zero below is = inl is
member_at x y ys (suc k) below is = inr (k, omega arith, is)

pub member_cases : {X : Type 0} (x y : X) (ys : List X) → Contains (y ∷ ys) x → (y ≡ x) ⊎ Contains ys x
member_cases x y ys inside = member_at x y ys inside.0 inside.1 inside.2

pub no_member : {X : Type 0} {P : Type 0} (x : X) → Contains [] x → P
no_member x inside = let below : inside.0 < 0 = inside.1 in absurd (omega arith)

-- the members of a mapped list
pub Contains-map : {X Y : Type 0} (f : X → Y) (xs : List X) (x : X) → Contains xs x → Contains (map f xs) (f x)
Contains-map f xs x inside = let below : inside.0 < length xs = inside.1 in
    (inside.0, rw length-map below, get_or-map f xs inside.0 x ∙ ap f inside.2)

-- a filter keeps the members that pass
pub Contains-filter : {X : Type 0} (p : X → Bool) (xs : List X) (x : X) → p x ≡ true → Contains xs x →
    Contains (filter p xs) x
Contains-filter p [] x passes inside = no_member x inside
Contains-filter p (y ∷ ys) x passes inside = elim (member_cases x y ys inside) [
  | inl same ↦ rw (same, passes) (first_member x (filter p ys))
  | inr later ↦ elim (cases_Bool (p y)) [
    | inl meets ↦ rw meets (later_member x y (filter p ys) (Contains-filter p ys x passes later))
    | inr fails ↦ rw fails (Contains-filter p ys x passes later)
  ]
]

-- the members of the lists that are joined
pub Contains-flat_map : {X A : Type 0} (f : X → List A) (xs : List X) (x : X) (a : A) → Contains xs x →
    Contains (f x) a →
    Contains (flat_map f xs) a
Contains-flat_map f [] x a inside part = no_member x inside
Contains-flat_map f (y ∷ ys) x a inside part = elim (member_cases x y ys inside) [
  | inl same ↦ Contains-append_left (f y) (flat_map f ys) a (rw same part)
  | inr later ↦ Contains-append_right (f y) (flat_map f ys) a (Contains-flat_map f ys x a later part)
]

-- what a filter, a map or a search gives came from the list
pub member_of_filter : {X : Type 0} (p : X → Bool) (xs : List X) (x : X) → Contains (filter p xs) x →
    Contains xs x × (p x ≡ true)
member_of_filter p [] x inside = no_member x inside
member_of_filter p (y ∷ ys) x inside = elim (cases_Bool (p y)) [
  | inl meets ↦ elim (member_cases x y (filter p ys) (rw meets at inside)) [
    | inl same ↦ (rw (sym same) (first_member y ys), rw (sym same) meets)
    | inr later ↦ let from = member_of_filter p ys x later in (later_member x y ys from.0, from.1)
  ]
  | inr fails ↦ let from = member_of_filter p ys x (rw fails at inside) in (later_member x y ys from.0, from.1)
]

pub member_of_map : {X Y : Type 0} (f : X → Y) (xs : List X) (y : Y) → Contains (map f xs) y →
    (x : X) × Contains xs x × (f x ≡ y)
member_of_map f [] y inside = no_member y inside
member_of_map f (x ∷ xs) y inside = elim (member_cases y (f x) (map f xs) inside) [
  | inl same ↦ (x, first_member x xs, same)
  | inr later ↦ let from = member_of_map f xs y later in (from.0, later_member from.0 x xs from.1, from.2)
]

pub member_of_find : {X : Type 0} (p : X → Bool) (xs : List X) (x : X) → find p xs ≡ Some x → Contains xs x
member_of_find p [] x found = absurd (cc)
member_of_find p (y ∷ ys) x found = elim (cases_Bool (p y)) [
  | inl meets ↦ let first : Some y ≡ Some x = rw meets at found in let same : y ≡ x =
      cc in rw (sym same) (first_member y ys)
  | inr fails ↦ later_member x y ys (member_of_find p ys x (rw fails at found))
]

-- and it passes
pub find-passes : {X : Type 0} (p : X → Bool) (xs : List X) (x : X) → find p xs ≡ Some x → p x ≡ true
find-passes p [] x found = absurd (cc)
find-passes p (y ∷ ys) x found = elim (cases_Bool (p y)) [
  | inl meets ↦ let first : Some y ≡ Some x = rw meets at found in let same : y ≡ x = cc in rw (sym same) meets
  | inr fails ↦ find-passes p ys x (rw fails at found)
]

-- nothing passes a filter
pub filter-none : {X : Type 0} (p : X → Bool) (xs : List X) → ((x : X) → Contains xs x → p x ≡ false) → filter p xs ≡ []
filter-none p [] fails = refl
filter-none p (y ∷ ys) fails =
    rw (fails y (first_member y ys)) (filter-none p ys (λ x among. fails x (later_member x y ys among)))

-- a search finds the only member that passes
pub find-only : {X : Type 0} (p : X → Bool) (xs : List X) (z : X) → Contains xs z → p z ≡ true →
    ((x : X) → Contains xs x → p x ≡ true → x ≡ z) → find p xs ≡ Some z
find-only p [] z inside passes only = no_member z inside
find-only p (y ∷ ys) z inside passes only = elim (cases_Bool (p y)) [
  | inl meets ↦ rw (meets, only y (first_member y ys) meets) refl
  | inr fails ↦ elim (member_cases z y ys inside) [
    | inl same ↦ absurd (let not_met : p z ≡ false = rw same at fails in cc)
    | inr later ↦ rw fails (find-only p ys z later passes (λ x among. only x (later_member x y ys among)))
  ]
]

-- a test that no member passes
pub list_any-none : {X : Type 0} (p : X → Bool) (xs : List X) → ((x : X) → Contains xs x → p x ≡ false) →
    list_any p xs ≡ false
list_any-none p [] fails = refl
list_any-none p (y ∷ ys) fails =
    rw (fails y (first_member y ys)) (list_any-none p ys (λ x among. fails x (later_member x y ys among)))

pub none_from_list_any : {X : Type 0} (p : X → Bool) (xs : List X) (x : X) → list_any p xs ≡ false → Contains xs x →
    p x ≡ false
none_from_list_any p [] x none inside = no_member x inside
none_from_list_any p (y ∷ ys) x none inside = elim (cases_Bool (p y)) [
  | inl meets ↦ absurd (let some : true ≡ false = rw meets at none in cc)
  | inr fails ↦ elim (member_cases x y ys inside) [
    | inl same ↦ rw (sym same) fails
    | inr later ↦ none_from_list_any p ys x (rw fails at none) later
  ]
]

-- a search finds a member that passes, or no member passes
pub find_cases : {X : Type 0} (p : X → Bool) (xs : List X) →
    (((x : X) → Contains xs x → p x ≡ false) × (find p xs ≡ None))
    ⊎ ((x : X) × Contains xs x × (p x ≡ true) × (find p xs ≡ Some x))
find_cases p [] = inl ((λ x inside. no_member x inside), refl)
find_cases p (y ∷ ys) = elim (cases_Bool (p y)) [
  | inl meets ↦ inr (y, first_member y ys, meets, (rw meets refl))
  | inr fails ↦ elim (find_cases p ys) [
    | inl none ↦ inl (
      (λ x inside. elim (member_cases x y ys inside) [
        | inl same ↦ rw (sym same) fails
        | inr later ↦ none.0 x later
      ]),
      (rw fails none.1),
    )
    | inr found ↦ inr (found.0, later_member found.0 y ys found.1, found.2, (rw fails found.3))
  ]
]

-- what is in lists laid end to end is in one of them
pub member_of_flat_map : {X A : Type 0} (f : X → List A) (xs : List X) (a : A) → Contains (flat_map f xs) a →
    (x : X) × Contains xs x × Contains (f x) a
member_of_flat_map f [] a inside = no_member a inside
member_of_flat_map f (x ∷ xs) a inside = elim (Contains-append_cases (f x) (flat_map f xs) a inside) [
  | inl here ↦ (x, first_member x xs, here)
  | inr later ↦ let from = member_of_flat_map f xs a later in (from.0, later_member from.0 x xs from.1, from.2)
]

-- tests that agree pass for some element alike
pub list_any-agree : {X : Type 0} (p q : X → Bool) → ((x : X) → p x ≡ q x) → (xs : List X) → list_any p xs ≡ list_any q xs
list_any-agree p q agree [] = refl
list_any-agree p q agree (x ∷ xs) = rw (agree x, list_any-agree p q agree xs) refl

-- a list has an element where one passes a test
pub some_from_any : {X : Type 0} (p : X → Bool) (xs : List X) → list_any p xs ≡ true → 0 < length xs
some_from_any p [] any = absurd (cc)
some_from_any p (x ∷ xs) any = omega arith
