-- Lists of one element or none, and what is made of some members of a list.
use Rattle.std.proofs.Common.{◌≡◌, ◌⊎◌, Bool, false, List, [], ◌∷◌, ◌++◌, filter, All, Option, Some, None, refl, ap, inl, inr, ◌∙◌}
use Rattle.std.specs.List.{cons_option, filter_map, flat_map}
use Rattle.std.specs.Option.{option_to_list}
use Rattle.std.proofs.lemmas.Bool.{cases_Bool}
use Rattle.std.proofs.lemmas.List.Elements.{All-nil, All-cons, All-head, All-tail}

-- a value is there or not
pub made_cases : {X : Type 0} (x : Option X) → (x ≡ None) ⊎ ((y : X) × (x ≡ Some y))
made_cases None = inl refl
made_cases (Some y) = inr (y, refl)

-- one in front of others, or none
pub append-option : {X : Type 0} (one : Option X) (xs : List X) → option_to_list one ++ xs ≡ cons_option one xs
append-option None xs = refl
append-option (Some x) xs = refl

-- lists of one or none, laid end to end
pub flat_map-options : {X Y : Type 0} (f : X → List Y) (g : X → Option Y) → ((x : X) → f x ≡ option_to_list (g x))
    → (xs : List X) → flat_map f xs ≡ filter_map g xs
flat_map-options f g same [] = refl
flat_map-options f g same (x ∷ xs) =
    rw (same x, flat_map-options f g same xs) (append-option (g x) (filter_map g xs))

module _ {X Y : Type 0} (make : X → Option Y) where
  -- nothing is lost where a test keeps each member of which something is made
  pub filter_map-filter : (p : X → Bool) (xs : List X) → All (λ x. p x ≡ false → make x ≡ None) xs
      → filter_map make (filter p xs) ≡ filter_map make xs
  filter_map-filter p [] each = refl
  filter_map-filter p (x ∷ xs) each =
      let Q : X → Type 0 = λ z. p z ≡ false → make z ≡ None in
      let rest = filter_map-filter p xs (All-tail Q x xs each) in
      elim (cases_Bool (p x)) [
        | inl kept ↦ rw kept (ap (cons_option (make x)) rest)
        | inr gone ↦ let none : make x ≡ None = All-head Q x xs each gone in rw (gone, none) rest
      ]

  -- what holds of all that is made of some members
  pub All-made : (Q : X → Type 0) (P : Y → Type 0) → ((x : X) (y : Y) → Q x → make x ≡ Some y → P y)
      → (xs : List X) → All Q xs → All P (filter_map make xs)
  All-made Q P each [] all = All-nil P
  All-made Q P each (x ∷ xs) all =
      let rest = All-made Q P each xs (All-tail Q x xs all) in
      elim (made_cases (make x)) [
        | inl none ↦ rw none rest
        | inr some ↦
            let holds = each x some.0 (All-head Q x xs all) some.1 in
            rw some.1 (All-cons P some.0 (filter_map make xs) holds rest)
      ]

  -- what is made of what is drawn, in one step and in two
  module _ {W : Type 0} (draw : W → Option X) where
    abbrev pub made_of : Option X → List Y
    made_of None = []
    made_of (Some x) = option_to_list (make x)

    pub flat_map-made : (ws : List W) → flat_map (λ w. made_of (draw w)) ws ≡ filter_map make (filter_map draw ws)
    flat_map-made [] = refl
    flat_map-made (w ∷ ws) = elim (made_cases (draw w)) [
      | inl none ↦ rw none (flat_map-made ws)
      | inr some ↦
          rw some.1 (append-option (make some.0) (flat_map (λ w. made_of (draw w)) ws)
          ∙ ap (cons_option (make some.0)) (flat_map-made ws))
    ]
