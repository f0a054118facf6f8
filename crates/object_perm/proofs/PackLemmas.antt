-- Shortcuts in groups: a group more, and what the groups say of a place.
use Rattle.std.proofs.Common.{◌≡◌, ℕ, ◌+◌, ◌*◌, ◌/◌, ◌%◌, ◌^◌, ◌<◌, ◌≤◌, min, Option, None, Some, List, [], ◌∷◌, ◌++◌, length, get_or, slice_get, take, drop, inl, inr, refl, ap, sym, ◌∙◌, arith, subst, length-append}
use Rattle.std.proofs.lemmas.Option.{get_or_from_slice_get}
use Rattle.std.specs.Int.{bit_at}
use Rattle.std.specs.Int.RustNames.{count_ones}
use Rattle.std.proofs.lemmas.Bool.{cases_eq, cases_lt, eq-eqb, ne_eqb}
use Rattle.std.proofs.lemmas.List.{get_or_append_left, get_or-append-add, get_or_at, get_or_past, get_or-drop, drop-drop, drop_at, drop_min}
use Rattle.std.proofs.lemmas.List.FromFn.{length-map-range_with_len, get_or-map-range_with_len}
use Rattle.object_perm.specs.Marks.{Group, marks_of, targets_of, empty_group, target_index, shortcut_in, shortcut_at, shortcuts_of, HasEach}
use Rattle.object_perm.specs.Shortcuts.{HoldsShortcuts}
use Rattle.object_perm.proofs.MarksLemmas.{mark_of, bit_at-marks_of, ones-marks_of, target-here}

-- a place with a mark
pub shortcut_in-marked : (group : Group) (targets : List ℕ) (bit : ℕ) → bit_at group.0 bit ≡ 1 →
    shortcut_in group targets bit ≡ Some (get_or targets (target_index group bit) 0)
unfolding shortcut_in
shortcut_in-marked group targets bit marked = rw (eq-eqb (bit_at group.0 bit) 1 marked) refl

-- a place without one
pub shortcut_in-unmarked : (group : Group) (targets : List ℕ) (bit : ℕ) → (bit_at group.0 bit ≡ 1 → ⊥) →
    shortcut_in group targets bit ≡ None
unfolding shortcut_in
shortcut_in-unmarked group targets bit unmarked = rw (ne_eqb (bit_at group.0 bit) 1 unmarked) refl

-- more targets change no group's shortcuts
pub shortcut_in-more : (group : Group) (targets more : List ℕ) (bit : ℕ) →
    (bit_at group.0 bit ≡ 1 → target_index group bit < length targets) →
    shortcut_in group (targets ++ more) bit ≡ shortcut_in group targets bit
shortcut_in-more group targets more bit within =
    elim (cases_eq (bit_at group.0 bit) 1) [
      | inl marked ↦ shortcut_in-marked group (targets ++ more) bit marked
          ∙ ap Some (get_or_append_left targets more 0 (target_index group bit) (within marked))
          ∙ sym (shortcut_in-marked group targets bit marked)
      | inr unmarked ↦ shortcut_in-unmarked group (targets ++ more) bit unmarked
          ∙ sym (shortcut_in-unmarked group targets bit unmarked)
    ]

-- a group that was packed from places, after the targets that there were
pub record IsGroupOf (group : Group) (targets : List ℕ) (places : List (Option ℕ)) : Type 0 where
  pub marks : group.0 ≡ marks_of places
  pub before : group.1 ≡ length targets

-- the mark of a place of the group
pub bit_at-group : (group : Group) (targets : List ℕ) (places : List (Option ℕ)) (bit : ℕ) →
    IsGroupOf group targets places →
    bit_at group.0 bit ≡ mark_of (get_or places bit None)
bit_at-group group targets places bit packed = ap (λ n. bit_at n bit) packed.marks ∙ bit_at-marks_of places bit

-- where the target of a place of the group stands
pub target_index-group : (group : Group) (targets : List ℕ) (places : List (Option ℕ)) (bit : ℕ) →
    IsGroupOf group targets places →
    target_index group bit ≡ length targets + length (targets_of (take bit places))
target_index-group group targets places bit packed =
    let ones : count_ones (group.0 % 2 ^ bit) ≡ length (targets_of (take bit places)) =
    ap (λ n. count_ones (n % 2 ^ bit)) packed.marks ∙ ones-marks_of places bit in
    omega (arith, ones, packed.before)

-- the target of a marked place of the group is there
pub target_index-within : (group : Group) (targets : List ℕ) (places : List (Option ℕ)) (bit : ℕ) →
    IsGroupOf group targets places →
    bit_at group.0 bit ≡ 1 → target_index group bit < length (targets ++ targets_of places)
target_index-within group targets places bit packed marked = go (get_or places bit None) refl
  where
    go : (here : Option ℕ) → get_or places bit None ≡ here →
        target_index group bit < length (targets ++ targets_of places)
    go None here = let none = bit_at-group group targets places bit packed ∙ ap mark_of here in absurd (omega arith)
    go (Some target) here =
        let stands = target-here places bit target here in
        let index = target_index-group group targets places bit packed in
        omega (arith, stands.0, index, length-append targets (targets_of places))

-- the group has the shortcuts of its places
pub shortcut_in-group : (group : Group) (targets : List ℕ) (places : List (Option ℕ)) (bit : ℕ) →
    IsGroupOf group targets places →
    shortcut_in group (targets ++ targets_of places) bit ≡ get_or places bit None
shortcut_in-group group targets places bit packed = go (get_or places bit None) refl
  where
    all : List ℕ
    all = targets ++ targets_of places

    go : (here : Option ℕ) → get_or places bit None ≡ here → shortcut_in group (targets ++ targets_of places) bit ≡ here
    go None here =
        let none = bit_at-group group targets places bit packed ∙ ap mark_of here in
        shortcut_in-unmarked group (targets ++ targets_of places) bit (λ marked. omega (arith, none, marked))
    go (Some target) here =
        let marked = bit_at-group group targets places bit packed ∙ ap mark_of here in
        let stands = target-here places bit target here in
        let index = target_index-group group targets places bit packed in
        let found : get_or (targets ++ targets_of places) (target_index group bit) 0 ≡ target =
        ap (λ i. get_or (targets ++ targets_of places) i 0) index
        ∙ get_or-append-add targets (targets_of places) (length (targets_of (take bit places))) 0 ∙ stands.1 in
        shortcut_in-marked group (targets ++ targets_of places) bit marked ∙ ap Some found

-- what is left of a list once a chunk was taken from its front
pub rest-more : (places chunk left rest : List (Option ℕ)) (n : ℕ) → left ≡ drop (32 * n) places →
    left ≡ chunk ++ rest →
    length chunk ≡ min 32 (length left) → rest ≡ drop (32 * (n + 1)) places
rest-more places chunk left rest n is_left parts size =
    let next : 32 * n + 32 ≡ 32 * (n + 1) = omega arith in
    sym (drop_at chunk rest (min 32 (length left)) size)
    ∙ ap (drop (min 32 (length left))) (sym parts)
    ∙ drop_min 32 left
    ∙ ap (drop 32) is_left
    ∙ drop-drop 32 (32 * n) places
    ∙ ap (λ k. drop k places) next

-- a place of the next group is the same place of its chunk
chunk-place : (places chunk left rest : List (Option ℕ)) (n bit : ℕ) → left ≡ drop (32 * n) places →
    left ≡ chunk ++ rest →
    length chunk ≡ min 32 (length left) → bit < 32 → get_or chunk bit None ≡ get_or places (32 * n + bit) None
chunk-place places chunk left rest n bit is_left parts size small =
    let there : get_or left bit None ≡ get_or places (32 * n + bit) None =
    ap (λ xs. get_or xs bit None) is_left ∙ get_or-drop (32 * n) places bit None in
    elim (cases_lt bit (length chunk)) [
      | inl inside ↦ sym (get_or_append_left chunk rest None bit inside) ∙ ap (λ xs. get_or xs bit None) (sym parts)
          ∙ there
      | inr past ↦
          let past_left : length left ≤ bit = omega arith in
          get_or_past chunk bit None past ∙ sym (get_or_past left bit None past_left) ∙ there
    ]

-- a group more, packed from the next places: what it says, and that the others say what they did
pub held-more : (places chunk left rest : List (Option ℕ)) (groups : List Group) (group : Group) (targets : List ℕ) →
    left ≡ drop (32 * length groups) places → left ≡ chunk ++ rest → length chunk ≡ min 32 (length left) →
    IsGroupOf group targets chunk → HasEach groups targets →
    ((place : ℕ) → place < 32 * length groups → shortcut_at groups targets place ≡ get_or places place None) →
    (place : ℕ) → place < 32 * length (groups ++ group ∷ []) →
    shortcut_at (groups ++ group ∷ []) (targets ++ targets_of chunk) place ≡ get_or places place None
unfolding shortcut_at
held-more places chunk left rest groups group targets is_left parts size packed each held place within =
    let bit : ℕ = place % 32 in
    let number : ℕ = place / 32 in
    let small : bit < 32 = omega arith in
    elim (cases_lt number (length groups)) [
      | inl earlier ↦
          let here : get_or (groups ++ group ∷ []) number empty_group ≡ get_or groups number empty_group =
          get_or_append_left groups (group ∷ []) empty_group number earlier in
          ap (λ g. shortcut_in g (targets ++ targets_of chunk) bit) here
          ∙ shortcut_in-more (get_or groups number empty_group) targets (targets_of chunk) bit
          (each number bit earlier small)
          ∙ held place (omega arith)
      | inr later ↦
          let last : number ≡ length groups = omega (arith, length-append groups (group ∷ [])) in
          let here : get_or (groups ++ group ∷ []) number empty_group ≡ group =
          get_or_at groups group [] empty_group number (sym last) in
          let sum : 32 * length groups + bit ≡ place = omega (arith, last) in
          ap (λ g. shortcut_in g (targets ++ targets_of chunk) bit) here
          ∙ shortcut_in-group group targets chunk bit packed
          ∙ chunk-place places chunk left rest (length groups) bit is_left parts size small
          ∙ ap (λ p. get_or places p None) sum
    ]

-- each mark has its target, a group further
pub each-more : (chunk : List (Option ℕ)) (groups : List Group) (group : Group) (targets : List ℕ) →
    IsGroupOf group targets chunk → HasEach groups targets →
    HasEach (groups ++ group ∷ []) (targets ++ targets_of chunk)
each-more chunk groups group targets packed each number bit within small marked =
    elim (cases_lt number (length groups)) [
      | inl earlier ↦
          let here : get_or (groups ++ group ∷ []) number empty_group ≡ get_or groups number empty_group =
          get_or_append_left groups (group ∷ []) empty_group number earlier in
          let was = ap (λ (g : Group). bit_at g.0 bit) (sym here) ∙ marked in
          let before = each number bit earlier small was in
          let same = ap (λ g. target_index g bit) here in
          omega (arith, before, same, length-append targets (targets_of chunk))
      | inr later ↦
          let last : number ≡ length groups = omega (arith, length-append groups (group ∷ [])) in
          let here : get_or (groups ++ group ∷ []) number empty_group ≡ group =
          get_or_at groups group [] empty_group number (sym last) in
          let was = ap (λ (g : Group). bit_at g.0 bit) (sym here) ∙ marked in
          let P : Group → Type 0 = λ g. target_index g bit < length (targets ++ targets_of chunk) in
          subst P (sym here) (target_index-within group targets chunk bit packed was)
    ]

-- how many places the groups have
pub length-shortcuts_of : (groups : List Group) (targets : List ℕ) →
    length (shortcuts_of groups targets) ≡ 32 * length groups
unfolding shortcuts_of
length-shortcuts_of groups targets = length-map-range_with_len (shortcut_at groups targets) 0 (32 * length groups)

-- the shortcut of a place
pub get_or-shortcuts_of : (groups : List Group) (targets : List ℕ) (place : ℕ) → place < 32 * length groups →
    get_or (shortcuts_of groups targets) place None ≡ shortcut_at groups targets place
unfolding shortcuts_of
get_or-shortcuts_of groups targets place within =
    get_or-map-range_with_len (shortcut_at groups targets) 0 (32 * length groups) place place None within (omega arith)

-- groups that say what the places say, and leave none over
pub holds-all : (places : List (Option ℕ)) (groups : List Group) (targets : List ℕ) →
    length places ≤ 32 * length groups →
    ((place : ℕ) → place < 32 * length groups → shortcut_at groups targets place ≡ get_or places place None) →
    HoldsShortcuts places (shortcuts_of groups targets)
holds-all places groups targets covers held =
    let long = length-shortcuts_of groups targets in
    record {
      covers = omega (arith, long);
      same = λ place. elim (cases_lt place (32 * length groups)) [
        | inl inside ↦ get_or-shortcuts_of groups targets place inside ∙ held place inside
        | inr past ↦
            let past_groups : length (shortcuts_of groups targets) ≤ place = omega (arith, long) in
            let past_places : length places ≤ place = omega arith in
            get_or_past (shortcuts_of groups targets) place None past_groups
            ∙ sym (get_or_past places place None past_places)
      ];
    }

-- the shortcut of a place, from the group that was read for it
pub get_or-group : (groups : List Group) (targets : List ℕ) (place : ℕ) (group : Group) → place < 32 * length groups →
    slice_get groups (place / 32) ≡ Some group → get_or
    (shortcuts_of groups targets) place None ≡ shortcut_in group targets (place % 32)
unfolding shortcut_at
get_or-group groups targets place group within read =
    get_or-shortcuts_of groups targets place within
    ∙ ap (λ g. shortcut_in g targets (place % 32)) (get_or_from_slice_get groups (place / 32) group empty_group read)

-- the target of a marked place stands where the group says
pub index_within : (groups : List Group) (targets : List ℕ) (place : ℕ) (group : Group) → HasEach groups targets →
    place < 32 * length groups →
    slice_get groups (place / 32) ≡ Some group → bit_at group.0 (place % 32) ≡ 1 →
    target_index group (place % 32) < length targets
index_within groups targets place group each within read marked =
    let below : place / 32 < length groups = omega arith in
    let same : get_or groups (place / 32) empty_group ≡ group =
    get_or_from_slice_get groups (place / 32) group empty_group read in
    let P : Group → Type 0 = λ g. target_index g (place % 32) < length targets in
    subst P same (each (place / 32) (place % 32) below (omega arith)
    (ap (λ (g : Group). bit_at g.0 (place % 32)) same ∙ marked))
