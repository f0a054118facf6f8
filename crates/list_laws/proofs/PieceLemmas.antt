-- Pieces of a list: where each of lists laid end to end stands, and where each of the kept elements.
use Rattle.std.proofs.Common.{All, ◌≡◌, ℕ, zero, suc, ◌+◌, ◌-◌, ◌<◌, ◌≤◌, Bool, true, List, [], ◌∷◌, ◌++◌, length}
use Rattle.std.proofs.Common.{filter, take, drop, get_or, refl, ap, ◌∙◌, arith, inl, inr, None, Option, Some}
use Rattle.std.specs.List.{Contains, cons_option, filter_map, flat_map, slice_range}
use Rattle.std.specs.List.Sorted.{IsNonDecreasingBy}
use Rattle.std.proofs.Math.Seq.{drop-append_seam, get_or-append_right, take-append_seam}
use Rattle.std.proofs.lemmas.Bool.{cases_Bool, cases_lt}
use Rattle.std.proofs.lemmas.List.{append-nil, append_assoc, get_or_append_left, length-append}
use Rattle.std.proofs.lemmas.List.Concat.{flat_map-append}
use Rattle.list_laws.proofs.MemberLemmas.{first_member, later_member, member_cases, no_member}
use Rattle.list_laws.proofs.RuleLemmas.{parted_at}

-- the part of a list after what is in front of it
pub slice_range-middle : {A : Type 0} (before part after : List A)
    → slice_range (before ++ (part ++ after)) (length before) (length before + length part) ≡ part
slice_range-middle before part after =
    let long : length before + length part - length before ≡ length part = omega arith in
    rw (long, drop-append_seam before (part ++ after)) (take-append_seam part after)

-- lists laid end to end, parted before and after one of them
pub flat_map-parted : {X A : Type 0} (f : X → List A) (xs : List X) (k : ℕ) (d : X) → k < length xs
    → flat_map f xs ≡ flat_map f (take k xs) ++ (f (get_or xs k d) ++ flat_map f (drop (k + 1) xs))
flat_map-parted f xs k d within =
    let last : flat_map f (get_or xs k d ∷ []) ≡ f (get_or xs k d) = append-nil (f (get_or xs k d)) in
    ap (flat_map f) (parted_at xs k d within)
    ∙ flat_map-append f (take k xs ++ get_or xs k d ∷ []) (drop (k + 1) xs)
    ∙ ap (λ ys. ys ++ flat_map f (drop (k + 1) xs)) (flat_map-append f (take k xs) (get_or xs k d ∷ []))
    ∙ append_assoc (flat_map f (take k xs)) (flat_map f (get_or xs k d ∷ [])) (flat_map f (drop (k + 1) xs))
    ∙ ap (λ ys. flat_map f (take k xs) ++ (ys ++ flat_map f (drop (k + 1) xs))) last

-- an element that passes stands among those that do, after those before it
pub get_or-filter : {X : Type 0} (p : X → Bool) (xs : List X) (k : ℕ) (d : X) → k < length xs → p (get_or xs k d) ≡ true
    → (length (filter p (take k xs)) < length (filter p xs))
    × (get_or (filter p xs) (length (filter p (take k xs))) d ≡ get_or xs k d)
get_or-filter p [] k d within passes = absurd (omega arith)
get_or-filter p (x ∷ xs) zero d within passes = rw passes (omega arith, refl)
get_or-filter p (x ∷ xs) (suc k) d within passes =
    let rest = get_or-filter p xs k d (omega arith) passes in
    elim (cases_Bool (p x)) [
      | inl kept ↦ rw kept (omega (arith, rest.0), rest.1)
      | inr gone ↦ rw gone rest
    ]

-- what does not fall, and after it what is not below and does not fall
pub IsNonDecreasingBy-append : {X : Type 0} (f : X → ℕ) (n : ℕ) (xs ys : List X) → IsNonDecreasingBy f xs
    → All (λ x. f x ≤ n) xs → IsNonDecreasingBy f ys → All (λ y. n ≤ f y) ys → IsNonDecreasingBy f (xs ++ ys)
IsNonDecreasingBy-append f n xs ys up low up' high i j d before within =
    let long = length-append xs ys in
    elim (cases_lt j (length xs)) [
      | inl left ↦
          rw (get_or_append_left xs ys d i (omega arith), get_or_append_left xs ys d j left) (up i j d before left)
      | inr right ↦
          let last : get_or (xs ++ ys) j d ≡ get_or ys (j - length xs) d = get_or-append_right xs ys j d right in
          elim (cases_lt i (length xs)) [
            | inl left ↦
                let below : f (get_or xs i d) ≤ n = low i d left in
                let above : n ≤ f (get_or ys (j - length xs) d) = high (j - length xs) d (omega arith) in
                rw (get_or_append_left xs ys d i left, last) (omega arith)
            | inr both ↦
                rw (get_or-append_right xs ys i d both, last)
                (up' (i - length xs) (j - length xs) d (omega arith) (omega arith))
          ]
    ]

-- what is made of a member is among what is made of some members
pub Contains-filter_map : {X Y : Type 0} (make : X → Option Y) (xs : List X) (x : X) (y : Y) → Contains xs x
    → make x ≡ Some y → Contains (filter_map make xs) y
Contains-filter_map make [] x y inside makes = no_member x inside
Contains-filter_map {X} {Y} make (z ∷ zs) x y inside makes = elim (member_cases x z zs inside) [
  | inl same ↦ rw (ap make same ∙ makes) (first_member y (filter_map make zs))
  | inr later ↦ behind (make z) (Contains-filter_map make zs x y later makes)
]
  where
    behind : (made : Option Y) → Contains (filter_map make zs) y → Contains (cons_option made (filter_map make zs)) y
    behind None rest = rest
    behind (Some first) rest = later_member y first (filter_map make zs) rest
