-- Places of the desk.
use Rattle.std.proofs.Common.{◌≡◌, ℕ, ◌+◌, ◌<◌, zero, suc, ◌≤◌, List, [], ◌∷◌, ◌++◌, length, map, set, get_or, sym}
use Rattle.std.proofs.Common.{refl, ap, ◌∙◌, arith, inl, inr, Bool, true, false, ◌||◌, Ok}
use Rattle.std.specs.Prelude.{◌==◌, ◌⊎◌, ◌&&◌, if◌then◌else◌, IsTrue, Option, Some, None, is_some, option_map}
use Rattle.std.specs.Option.{option_map_or}
use Rattle.std.proofs.lemmas.Bool.{cases_eq, cases_lt, eq-eqb, ne_eqb}
use Rattle.std.proofs.lemmas.List.{get_or-map, get_or-set_same, length-map, map-set}
use Rattle.std.proofs.lemmas.List.Sums.{sum_by-set}
use Rattle.step_count.specs.Reads.{Read, ReadsWithin}
use Rattle.track_types.specs.declared.question.Question.{Question}
use Rattle.track_types.specs.declared.question.Question.TheVariants as question
use Rattle.track_types.specs.declared.stop.Stop.{Stop}
use Rattle.question_shell.specs.Desk.{DeskView, Draws, NeedsNoMore, NeedsWithin, budget_in, budget_of, held_of}
use Rattle.question_shell.specs.Desk.{is_held_in, no_needs, slot_needs, slot_stops, slot_walk}
use Rattle.question_shell.specs.Items.{stops_at}
use Rattle.question_shell.specs.Kinds.{own_memory}
use Rattle.question_shell.specs.Needs.{needs_after, slot_needs_after}
use Rattle.question_shell.specs.Session.{slot_memory, takes_memory}
use Rattle.question_shell.specs.SlotParts.{OfNoSlot, SlotPart, ToDraw, ToEmpty, ToHold, slot_part}

-- a desk by its places, of which each shows what is seen of its walk
module _ {W : Type 0} (seen : W → List Stop × ℕ) (places : List (Option W)) (desk : DeskView) (slot : ℕ)
    (shown : map (option_map seen) places ≡ desk)
  where
    -- a place was given another walk, or none
    pub shown-set : (place : Option W) →
        map (option_map seen) (set places slot place) ≡ set desk slot (option_map seen place)
    shown-set place = map-set (option_map seen) places slot place ∙ ap (λ desk. set desk slot (option_map seen place)) shown

    pub shown-below : slot < length places → slot < length desk
    shown-below below = omega (arith, below, ap length shown, length-map places (option_map seen))

    -- what a place shows
    pub shown-place : (place default : Option W) → slot < length places → get_or places slot default ≡ place →
        slot_walk desk slot ≡ option_map seen place
    shown-place place default below is = sym (ap (λ desk. get_or desk slot None) shown)
        ∙ (get_or-map (option_map seen) places slot default None below ∙ ap (option_map seen) is)

-- A walk in one place of a desk was drawn from, and stands there again.
pub record IsDrawn (desk now : DeskView) (slot : ℕ) (old new : List Stop × ℕ) : Type 0 where
  pub below : slot < length desk
  pub before : slot_walk desk slot ≡ Some old
  pub after : now ≡ set desk slot (Some new)

module _ {desk now : DeskView} {slot : ℕ} {old new : List Stop × ℕ} (drawn : IsDrawn desk now slot old new) where
  place-now : slot_walk now slot ≡ Some new
  place-now = ap (λ desk. slot_walk desk slot) drawn.after ∙ get_or-set_same desk slot (Some new) None drawn.below

  pub draws-found : (first : List Stop) → old.0 ≡ first ++ new.0 → slot_stops desk slot ≡ first ++ slot_stops now slot
  draws-found first found = ap (λ place. option_map_or (λ walk. walk.0) place []) drawn.before
      ∙ (found ∙ ap (λ place. first ++ option_map_or (λ walk. walk.0) place []) (sym place-now))

  pub draws-cost : (start end : ℕ) → end + new.1 ≤ start + old.1 →
      end + budget_in now slot ≤ start + budget_in desk slot
  draws-cost start end cost = omega (
    arith,
    cost,
    ap (λ place. option_map_or (λ walk. walk.1) place 0) drawn.before,
    ap (λ place. option_map_or (λ walk. walk.1) place 0) place-now,
  )

  pub draws-held : is_held_in now slot ≡ is_held_in desk slot
  draws-held = ap is_some place-now ∙ sym (ap is_some drawn.before)

  pub draws-others : now ≡ set desk slot (slot_walk now slot)
  draws-others = drawn.after ∙ ap (set desk slot) (sym place-now)

-- the stops in a place, by the lists that the desk holds
pub stops_at-held : (desk : DeskView) (slot : ℕ) →
    stops_at (held_of desk) slot ≡ option_map (λ walk. walk.0) (slot_walk desk slot)
stops_at-held desk slot = shown_at (option_map (λ walk. walk.0)) refl desk slot
  where
    shown_at : (f : Option (List Stop × ℕ) → Option (List Stop)) → f None ≡ None → (desk : DeskView) (slot : ℕ) →
        stops_at (map f desk) slot ≡ f (slot_walk desk slot)
    shown_at f empty [] slot = sym empty
    shown_at f empty (place ∷ desk) zero = refl
    shown_at f empty (place ∷ desk) (suc slot) = shown_at f empty desk slot

-- the lists and the budget of a desk of which a place was given another walk, or none
module _ (desk : DeskView) (slot : ℕ) (place : Option (List Stop × ℕ)) where
  pub held_of-set : held_of (set desk slot place) ≡ set (held_of desk) slot (option_map (λ walk. walk.0) place)
  held_of-set = map-set (option_map (λ walk. walk.0)) desk slot place

  pub budget_of-set : slot < length desk →
      budget_of (set desk slot place) + budget_in desk slot
      ≡ budget_of desk + option_map_or (λ walk. walk.1) place 0
  budget_of-set below = sum_by-set (λ place. option_map_or (λ walk. walk.1) place 0) desk slot place None below

-- a place past the last
set_beyond : (desk : DeskView) (slot : ℕ) (place : Option (List Stop × ℕ)) → length desk ≤ slot → set desk slot place ≡ desk
set_beyond [] slot place beyond = refl
set_beyond (other ∷ desk) zero place beyond = absurd (omega (arith, beyond))
set_beyond (other ∷ desk) (suc slot) place beyond =
    ap (λ desk. other ∷ desk) (set_beyond desk slot place (omega (arith, beyond)))

-- a place that is emptied may read nothing more
pub budget_of-emptied : (desk : DeskView) (slot : ℕ) → budget_of (set desk slot None) ≤ budget_of desk
budget_of-emptied desk slot = elim (cases_lt slot (length desk)) [
  | inl below ↦ omega (arith, budget_of-set desk slot None below)
  | inr beyond ↦ omega (arith, ap budget_of (set_beyond desk slot None beyond))
]

module _ (before between : DeskView) (slot start here : ℕ) (draws : Draws before between slot start here) where
  -- what the desk may read falls by what was read
  pub draws-due : here + budget_of between ≤ start + budget_of before
  draws-due = elim (cases_lt slot (length before)) [
    | inl below ↦ omega (
      arith,
      draws.cost,
      budget_of-set before slot (slot_walk between slot) below,
      ap budget_of draws.others,
    )
    | inr beyond ↦
        let same : between ≡ before = draws.others ∙ set_beyond before slot (slot_walk between slot) beyond in
        omega (arith, draws.cost, ap budget_of same, ap (λ desk. budget_in desk slot) same)
  ]

-- nothing is needed
pub within-none : (may : Read → Bool) → ReadsWithin no_needs may
within-none may read none = absurd (cc none)

-- one of two
either-left : (one other : Bool) → IsTrue one → IsTrue (one || other)
either-left true other is = refl
either-left false other is = absurd (cc is)

either-right : (one other : Bool) → IsTrue other → IsTrue (one || other)
either-right true other is = refl
either-right false other is = is

module _ {W : Type 0} (needs : W → Read → Bool) where
  -- what is needed where a place was given another walk, or none
  needs-set : (these : Read → Bool) (walks : List (Option W)) (slot : ℕ) (held : Option W) →
      ReadsWithin (option_map_or needs held no_needs) these → (place : ℕ) (read : Read) →
      IsTrue (slot_needs needs (set walks slot held) place read) →
      IsTrue (slot_needs needs walks place read) ⊎ ((slot ≡ place) × IsTrue (these read))
  needs-set these [] slot held own place read is = inl is
  needs-set these (first ∷ walks) zero held own zero read is = inr (refl, own read is)
  needs-set these (first ∷ walks) zero held own (suc place) read is = inl is
  needs-set these (first ∷ walks) (suc slot) held own zero read is = inl is
  needs-set these (first ∷ walks) (suc slot) held own (suc place) read is =
      elim (needs-set these walks slot held own place read is) [
        | inl before ↦ inl before
        | inr new ↦ inr (ap suc new.0, new.1)
      ]

  -- nothing where it was given none
  none-set : (walks : List (Option W)) (slot : ℕ) (read : Read) →
      IsTrue (slot_needs needs (set walks slot None) slot read) → IsTrue false
  none-set [] slot read is = is
  none-set (first ∷ walks) zero read is = is
  none-set (first ∷ walks) (suc slot) read is = none-set walks slot read is

  -- a walk was put into a place
  pub needs-held : (these : Read → Bool) (walks : List (Option W)) (slot : ℕ) (walk : W) →
      ReadsWithin (needs walk) these → NeedsWithin needs (set walks slot (Some walk))
      (λ place read. slot_needs needs walks place read || (slot == place && these read))
  needs-held these walks slot walk own place read is =
      elim (needs-set these walks slot (Some walk) own place read is) [
        | inl before ↦ either-left (slot_needs needs walks place read) (slot == place && these read) before
        | inr new ↦ either-right (slot_needs needs walks place read) (slot == place && these read)
            (rw (eq-eqb slot place new.0) new.1)
      ]

  -- a place was emptied
  pub needs-emptied : (walks : List (Option W)) (slot : ℕ) → NeedsWithin needs (set walks slot None)
      (λ place read. if slot == place then false else slot_needs needs walks place read)
  needs-emptied walks slot place read is = elim (cases_eq slot place) [
    | inl same ↦
        let there : IsTrue (slot_needs needs (set walks place None) place read) = rw same at is in
        let none : IsTrue false = none-set walks place read there in
        absurd (cc none)
    | inr apart ↦ elim (needs-set no_needs walks slot None (within-none no_needs) place read is) [
      | inl before ↦ rw (ne_eqb slot place apart) before
      | inr new ↦ absurd (apart new.0)
    ]
  ]

  -- memory was refused: no place stands emptied
  pub needs-refused : (asks : Question → Read → Bool) (desk : List (Option (List Stop))) (walks : List (Option W))
      (asked : Question) → takes_memory desk (Ok (Some asked)) ≡ true →
      NeedsWithin needs walks (needs_after asks (slot_needs needs walks) asked)
  needs-refused asks desk walks asked = by_part (own_memory asked) (slot_part asked)
    where
      by_part : (own : Bool) (part : SlotPart) → slot_memory own desk part ≡ true →
          NeedsWithin needs walks (slot_needs_after asks (slot_needs needs walks) part)
      by_part own (ToHold slot object from to) takes place read is =
          either-left (slot_needs needs walks place read) (slot == place && asks (question.Path object from to) read) is
      by_part own (ToDraw slot count) takes place read is = is
      by_part own (ToEmpty slot) takes place read is = absurd (cc takes)
      by_part own OfNoSlot takes place read is = is

  -- what is needed where the walk in a place was drawn from
  pub needs-drawn : (walks : List (Option W)) (slot : ℕ) (old new : W) (default : Option W) →
      get_or walks slot default ≡ Some old → ReadsWithin (needs new) (needs old) →
      NeedsNoMore needs walks (set walks slot (Some new))
  needs-drawn [] slot old new default place within other = λ read is. is
  needs-drawn (first ∷ walks) zero old new default place within zero = rw place within
  needs-drawn (first ∷ walks) zero old new default place within (suc other) = λ read is. is
  needs-drawn (first ∷ walks) (suc slot) old new default place within zero = λ read is. is
  needs-drawn (first ∷ walks) (suc slot) old new default place within (suc other) =
      needs-drawn walks slot old new default place within other
