-- The first pair of two lists that passes a test, where the front of either list has none.
use Rattle.std.proofs.Common.{◌≡◌, Bool, true, false, List, [], ◌∷◌, ◌++◌, filter, map, Option, Some, None, refl, ap, sym, ◌∙◌, All, inl, inr}
use Rattle.std.specs.Prelude.{◌&&◌, find}
use Rattle.std.specs.Option.{option_or}
use Rattle.std.proofs.lemmas.Bool.{cases_Bool}
use Rattle.std.proofs.lemmas.Grind.{flat_map-append}
use Rattle.std.proofs.lemmas.List.{map-append}
use Rattle.std.proofs.lemmas.List.Elements.{All-head, All-tail}
use Rattle.std.proofs.lemmas.List.Folds.{find-append}
use Rattle.track_types.specs.declared.stop.Stop.{Stop}
use Rattle.track_types.specs.Meeting.{pairs_of}

or-none : (found : Option (Stop × Stop)) → option_or found None ≡ found
or-none None = refl
or-none (Some pair) = refl

module _ (test : Stop → Stop → Bool) where
  -- no stop of one list passes with one of the other
  abbrev pub Apart : List Stop → List Stop → Type 0
  Apart lefts rights = All (λ left. All (λ right. test left right ≡ false) rights) lefts

  -- the first pair that passes
  abbrev pub first_pair : List Stop → List Stop → Option (Stop × Stop)
  first_pair lefts rights = find (λ pair. test pair.0 pair.1) (pairs_of lefts rights)

  -- one stop with each of a list
  abbrev pub with_each : Stop → List Stop → Option (Stop × Stop)
  with_each left rights = find (λ pair. test pair.0 pair.1) (map (λ right. (left, right)) rights)

  none_with : (left : Stop) (rights : List Stop) → All (λ right. test left right ≡ false) rights →
      with_each left rights ≡ None
  none_with left [] apart = refl
  none_with left (right ∷ rights) apart =
      rw (All-head (λ r. test left r ≡ false) right rights apart)
      (none_with left rights (All-tail (λ r. test left r ≡ false) right rights apart))

  -- by the first stop
  pub first_pair-cons : (left : Stop) (lefts rights : List Stop) →
      first_pair (left ∷ lefts) rights ≡ option_or (with_each left rights) (first_pair lefts rights)
  unfolding pairs_of
  first_pair-cons left lefts rights =
      find-append (λ pair. test pair.0 pair.1) (map (λ right. (left, right)) rights) (pairs_of lefts rights)

  pub first_pair-apart : (lefts rights : List Stop) → Apart lefts rights → first_pair lefts rights ≡ None
  unfolding pairs_of
  first_pair-apart [] rights apart = refl
  first_pair-apart (left ∷ lefts) rights apart =
      let head = All-head (λ l. All (λ right. test l right ≡ false) rights) left lefts apart in
      let tail = All-tail (λ l. All (λ right. test l right ≡ false) rights) left lefts apart in
      first_pair-cons left lefts rights
      ∙ ap (λ found. option_or found (first_pair lefts rights)) (none_with left rights head)
      ∙ first_pair-apart lefts rights tail

  -- the front of the first list has no meeting
  pub first_pair-left : (front lefts rights : List Stop) → Apart front rights →
      first_pair (front ++ lefts) rights ≡ first_pair lefts rights
  unfolding pairs_of
  first_pair-left front lefts rights apart =
      ap (find (λ pair. test pair.0 pair.1))
      (flat_map-append (λ left. map (λ right. (left, right)) rights) front lefts)
      ∙ find-append (λ pair. test pair.0 pair.1) (pairs_of front rights) (pairs_of lefts rights)
      ∙ ap (λ found. option_or found (first_pair lefts rights)) (first_pair-apart front rights apart)

  -- the front of the second list has no meeting
  pub first_pair-right : (lefts front rights : List Stop) → Apart lefts front →
      first_pair lefts (front ++ rights) ≡ first_pair lefts rights
  unfolding pairs_of
  first_pair-right [] front rights apart = refl
  first_pair-right (left ∷ lefts) front rights apart =
      let head = All-head (λ l. All (λ right. test l right ≡ false) front) left lefts apart in
      let tail = All-tail (λ l. All (λ right. test l right ≡ false) front) left lefts apart in
      let here : with_each left (front ++ rights) ≡ with_each left rights =
      ap (find (λ pair. test pair.0 pair.1)) (map-append (λ right. (left, right)) front rights)
      ∙ find-append (λ pair. test pair.0 pair.1) (map (λ right. (left, right)) front)
      (map (λ right. (left, right)) rights)
      ∙ ap (λ found. option_or found (with_each left rights)) (none_with left front head) in
      first_pair-cons left lefts (front ++ rights)
      ∙ ap (λ found. option_or found (first_pair lefts (front ++ rights))) here
      ∙ ap (option_or (with_each left rights)) (first_pair-right lefts front rights tail)
      ∙ sym (first_pair-cons left lefts rights)

  -- the first stops of both are one
  pub first_pair-found : (left right : Stop) (lefts rights : List Stop) → test left right ≡ true →
      first_pair (left ∷ lefts) (right ∷ rights) ≡ Some (left, right)
  unfolding pairs_of
  first_pair-found left right lefts rights met = rw met refl

  -- the back of the second list has no meeting
  pub first_pair-back : (lefts rights back : List Stop) → Apart lefts back →
      first_pair lefts (rights ++ back) ≡ first_pair lefts rights
  unfolding pairs_of
  first_pair-back [] rights back apart = refl
  first_pair-back (left ∷ lefts) rights back apart =
      let head = All-head (λ l. All (λ right. test l right ≡ false) back) left lefts apart in
      let tail = All-tail (λ l. All (λ right. test l right ≡ false) back) left lefts apart in
      let here : with_each left (rights ++ back) ≡ with_each left rights =
      ap (find (λ pair. test pair.0 pair.1)) (map-append (λ right. (left, right)) rights back)
      ∙ find-append (λ pair. test pair.0 pair.1) (map (λ right. (left, right)) rights)
      (map (λ right. (left, right)) back)
      ∙ ap (option_or (with_each left rights)) (none_with left back head)
      ∙ or-none (with_each left rights) in
      first_pair-cons left lefts (rights ++ back)
      ∙ ap (λ found. option_or found (first_pair lefts (rights ++ back))) here
      ∙ ap (option_or (with_each left rights)) (first_pair-back lefts rights back tail)
      ∙ sym (first_pair-cons left lefts rights)

  -- two lists in two parts, of which neither front has a meeting with the other back
  pub first_pair-split : (front lefts other rights : List Stop) → Apart front rights → Apart lefts other →
      first_pair (front ++ lefts) (other ++ rights) ≡ option_or (first_pair front other) (first_pair lefts rights)
  unfolding pairs_of
  first_pair-split front lefts other rights back early =
      ap (find (λ pair. test pair.0 pair.1))
      (flat_map-append (λ left. map (λ right. (left, right)) (other ++ rights)) front lefts)
      ∙ find-append (λ pair. test pair.0 pair.1) (pairs_of front (other ++ rights)) (pairs_of lefts (other ++ rights))
      ∙ ap (λ found. option_or found (first_pair lefts (other ++ rights))) (first_pair-back front other rights back)
      ∙ ap (option_or (first_pair front other)) (first_pair-right lefts other rights early)

  -- a window that takes each partner of what it takes
  module _ (inside : Stop → Bool)
      (partners : (left right : Stop) → inside left ≡ true → test left right ≡ true → inside right ≡ true) where
    each-window : (left : Stop) (rights : List Stop) → inside left ≡ true →
        with_each left (filter inside rights) ≡ with_each left rights
    each-window left [] taken = refl
    each-window left (right ∷ rights) taken = elim (cases_Bool (inside right)) [
      | inl kept ↦ elim (cases_Bool (test left right)) [
        | inl met ↦ rw (kept, met) refl
        | inr apart ↦ rw (kept, apart) (each-window left rights taken)
      ]
      | inr gone ↦
          let apart : test left right ≡ false = (elim (cases_Bool (test left right)) [
            | inl met ↦ let kept = partners left right taken met in absurd (cc)
            | inr other ↦ other
          ]) in
          rw (gone, apart) (each-window left rights taken)
    ]

-- a window on both lists is one on the first stop of each pair
module _ (test : Stop → Stop → Bool) (inside : Stop → Bool)
    (partners : (left right : Stop) → inside left ≡ true → test left right ≡ true → inside right ≡ true) where
  abbrev both : Stop → Stop → Bool
  both left right = inside left && test left right

  each-both : (left : Stop) (rights : List Stop) → inside left ≡ true →
      with_each both left rights ≡ with_each test left rights
  each-both left [] taken = refl
  each-both left (right ∷ rights) taken = elim (cases_Bool (test left right)) [
    | inl met ↦ rw (taken, met) refl
    | inr apart ↦ rw (taken, apart) (each-both left rights taken)
  ]

  each-none : (left : Stop) (rights : List Stop) → inside left ≡ false → with_each both left rights ≡ None
  each-none left [] gone = refl
  each-none left (right ∷ rights) gone = rw gone (each-none left rights gone)

  pub first_pair-window : (lefts rights : List Stop) →
      first_pair test (filter inside lefts) (filter inside rights) ≡ first_pair both lefts rights
  unfolding pairs_of
  first_pair-window [] rights = refl
  first_pair-window (left ∷ lefts) rights = elim (cases_Bool (inside left)) [
    | inl kept ↦
        rw kept (first_pair-cons test left (filter inside lefts) (filter inside rights)
        ∙ ap (λ found. option_or found (first_pair test (filter inside lefts) (filter inside rights)))
        (each-window test inside partners left rights kept ∙ sym (each-both left rights kept))
        ∙ ap (option_or (with_each both left rights)) (first_pair-window lefts rights)
        ∙ sym (first_pair-cons both left lefts rights))
    | inr gone ↦
        rw gone (first_pair-window lefts rights
        ∙ sym (first_pair-cons both left lefts rights
        ∙ ap (λ found. option_or found (first_pair both lefts rights)) (each-none left rights gone)))
  ]
