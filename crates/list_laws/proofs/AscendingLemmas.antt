-- Lists in strict order: by their members, and by what a search for each key finds.
use Rattle.std.proofs.Common.{◌≡◌, Bool, false, List, [], ◌∷◌, Ordering, Some, None, refl, sym, ◌∙◌, ap, inl, inr, subst}
use Rattle.std.specs.Prelude.{find}
use Rattle.std.specs.Cmp.{IsTotalOrder}
use Rattle.std.specs.List.{Contains}
use Rattle.std.specs.List.Sorted.{IsStrictlySortedBy}
use Rattle.std.specs.Ordering.{eq_by_cmp, ordering_reverse}
use Rattle.std.specs.declared.cmp.Ordering.TheVariants.{Less, Equal, Greater}
use Rattle.std.proofs.lemmas.Cmp.{tied_itself}
use Rattle.std.proofs.lemmas.List.Elements.{All-contains, All-from_recursion}
use Rattle.std.proofs.lemmas.Map.Keys.{sorted_head, sorted_tail}
use Rattle.list_laws.proofs.MemberLemmas.{first_member, later_member, member_cases, member_of_find, no_member}

-- the first element is below each other one
pub first_below : {K : Type 0} (R : K → K → Ordering) (x y : K) (xs : List K) → IsStrictlySortedBy R (x ∷ xs) → Contains xs y → R x y ≡ Less
first_below R x y xs up inside = All-contains (λ z. R x z ≡ Less) xs y (All-from_recursion (λ z. R x z ≡ Less) xs (sorted_head R x xs up)) inside

-- tests that agree find the same
pub find-agree : {X : Type 0} (p q : X → Bool) → ((x : X) → p x ≡ q x) → (xs : List X) → find p xs ≡ find q xs
find-agree p q agree [] = refl
find-agree p q agree (x ∷ xs) = rw (agree x, find-agree p q agree xs) refl

-- nothing is found where no member passes
pub find-none : {X : Type 0} (p : X → Bool) (xs : List X) → ((z : X) → Contains xs z → p z ≡ false) → find p xs ≡ None
find-none p [] fails = refl
find-none p (x ∷ xs) fails =
    rw (fails x (first_member x xs)) (find-none p xs (λ z inside. fails z (later_member z x xs inside)))

module _ {K : Type 0} {R : K → K → Ordering} (o : IsTotalOrder R) where
  never_below_itself : {P : Type 0} (x y : K) → x ≡ y → R x y ≡ Less → P
  never_below_itself x y is below =
      let same : R x y ≡ R y y = ap (λ z. R z y) is in
      let tied : R y y ≡ Equal = tied_itself o y in
      cc

  -- the first elements of two lists with the same members
  same_first : (x y : K) (xs ys : List K) → IsStrictlySortedBy R (x ∷ xs) → IsStrictlySortedBy R (y ∷ ys) →
      Contains (y ∷ ys) x → Contains (x ∷ xs) y → x ≡ y
  same_first x y xs ys up up' in_ys in_xs =
      elim (member_cases x y ys in_ys) [
        | inl is ↦ sym is
        | inr later ↦ elim (member_cases y x xs in_xs) [
          | inl is ↦ is
          | inr later' ↦
              let below : R x y ≡ Less = first_below R x y xs up later' in
              let back : R y x ≡ Less = first_below R y x ys up' later in
              let around : R x x ≡ Less = o.trans x y x below back in
              never_below_itself x x refl around
        ]
      ]

  -- the members after the first of two lists that begin alike
  members_behind : (x y : K) (xs ys : List K) → x ≡ y → IsStrictlySortedBy R (x ∷ xs) →
      ((z : K) → Contains (x ∷ xs) z → Contains (y ∷ ys) z) → (z : K) → Contains xs z → Contains ys z
  members_behind x y xs ys is up into z inside =
      elim (member_cases z y ys (into z (later_member z x xs inside))) [
        | inl first ↦ never_below_itself x z (is ∙ first) (first_below R x z xs up inside)
        | inr later ↦ later
      ]

  -- two lists in strict order are equal where they have the same members
  pub same_from_members : (xs ys : List K) → IsStrictlySortedBy R xs → IsStrictlySortedBy R ys →
      ((z : K) → Contains xs z → Contains ys z) → ((z : K) → Contains ys z → Contains xs z) → xs ≡ ys
  same_from_members [] [] up up' into back = refl
  same_from_members [] (y ∷ ys) up up' into back = no_member y (back y (first_member y ys))
  same_from_members (x ∷ xs) [] up up' into back = no_member x (into x (first_member x xs))
  same_from_members (x ∷ xs) (y ∷ ys) up up' into back =
      let first : x ≡ y = same_first x y xs ys up up' (into x (first_member x xs)) (back y (first_member y ys)) in
      let rest : xs ≡ ys = same_from_members xs ys (sorted_tail R x xs up) (sorted_tail R y ys up')
      (members_behind x y xs ys first up into) (members_behind y x ys xs (sym first) up' back) in
      cc

  -- a search for a member's key finds that member
  pub find-member : (xs : List K) (z : K) → IsStrictlySortedBy R xs → Contains xs z → find (eq_by_cmp R z) xs ≡ Some z
  find-member [] z up inside = no_member z inside
  find-member (x ∷ xs) z up inside =
      elim (member_cases z x xs inside) [
        | inl is ↦
            let tied : R z x ≡ Equal = subst (λ w. R z w ≡ Equal) (sym is) (tied_itself o z) in
            rw tied (ap Some is)
        | inr later ↦
            let below : R x z ≡ Less = first_below R x z xs up later in
            let above : R z x ≡ Greater = o.antisymm z x ∙ ap ordering_reverse below in
            rw above (find-member xs z (sorted_tail R x xs up) later)
      ]

  -- two lists in strict order are equal where a search for each key finds the same
  pub same_from_finds : (xs ys : List K) → IsStrictlySortedBy R xs → IsStrictlySortedBy R ys →
      ((z : K) → find (eq_by_cmp R z) xs ≡ find (eq_by_cmp R z) ys) → xs ≡ ys
  same_from_finds xs ys up up' finds =
      same_from_members xs ys up up'
      (λ z inside. member_of_find (eq_by_cmp R z) ys z (sym (finds z) ∙ find-member xs z up inside))
      (λ z inside. member_of_find (eq_by_cmp R z) xs z (finds z ∙ find-member ys z up' inside))
