-- Places that were seen, places that have shortcuts, and places between the last one stored and the walk.
use Rattle.std.proofs.Common.{◌≡◌, ◌≢◌, ℕ, ◌+◌, ◌<◌, Bool, true, false, cond, List, length, get_or, set, Option, None, Some, ◌⊎◌, inl, inr, refl, ap, sym, ◌∙◌, arith, subst}
use Rattle.std.proofs.lemmas.Bool.{cases_eq, cases_lt}
use Rattle.std.proofs.lemmas.List.{get_or-set_same, get_or-set_other, get_or_past}
use Rattle.std.proofs.lemmas.List.Sums.{sum_by-set}
use Rattle.object_perm.specs.Walk.{along}
use Rattle.object_perm.specs.Shortcuts.{has_shortcut}
use Rattle.object_perm.specs.Settled.{IsSeen, MeetsSeen}
use Rattle.object_perm.proofs.CycleWalk.{IsOpen, unseen_count}
use Rattle.object_perm.proofs.WalkLemmas.{along-split, along-next}

-- a place that was seen is within the list
pub seen_within : (seen : List Bool) (place : ℕ) → IsSeen seen place → place < length seen
seen_within seen place is_seen =
    elim (cases_lt place (length seen)) [
      | inl below ↦ below
      | inr past ↦ let not_seen = get_or_past seen place false past in absurd (cc)
    ]

-- a place more is seen: what was seen stays so
pub seen_kept : (seen : List Bool) (i place : ℕ) → i < length seen → IsSeen seen place → IsSeen (set seen i true) place
seen_kept seen i place within is_seen =
    elim (cases_eq place i) [
      | inl e ↦ rw (e, get_or-set_same seen i true false within) refl
      | inr other ↦ rw (get_or-set_other seen i place true false other) is_seen
    ]

-- a place more is seen: that one alone
pub seen_cases : (seen : List Bool) (i place : ℕ) → IsSeen (set seen i true) place → (place ≡ i) ⊎ IsSeen seen place
seen_cases seen i place is_seen =
    elim (cases_eq place i) [
      | inl e ↦ inl e
      | inr other ↦ inr (rw get_or-set_other at is_seen)
    ]

-- a place that is still unseen
pub unseen_before : (seen : List Bool) (i place : ℕ) → i < length seen → get_or (set seen i true) place false ≡ false →
    (place ≢ i) × (get_or seen place false ≡ false)
unseen_before seen i place within unseen =
    let other : place ≢ i = λ e. let same = get_or-set_same seen i true false within in let there =
    ap (λ x. get_or (set seen i true) x false) e in cc in
    (other, sym (get_or-set_other seen i place true false other) ∙ unseen)

-- a shortcut more: what had one has one
pub shortcut_kept : (shortcuts : List (Option ℕ)) (i target place : ℕ) → i < length shortcuts →
    has_shortcut shortcuts place ≡ true →
    has_shortcut (set shortcuts i (Some target)) place ≡ true
shortcut_kept shortcuts i target place within has =
    elim (cases_eq place i) [
      | inl e ↦ rw (e, get_or-set_same shortcuts i (Some target) None within) refl
      | inr other ↦ rw (get_or-set_other shortcuts i place (Some target) None other) has
    ]

pub shortcut_made : (shortcuts : List (Option ℕ)) (i target : ℕ) → i < length shortcuts →
    has_shortcut (set shortcuts i (Some target)) i ≡ true
shortcut_made shortcuts i target within = rw (get_or-set_same shortcuts i (Some target) None within) refl

-- what met a shortcut still does when more is seen and more shortcuts are made
pub meets_kept : (values : List ℕ) (seen seen' : List Bool) (shortcuts shortcuts' : List (Option ℕ)) (place : ℕ) →
    ((x : ℕ) → IsSeen seen x → IsSeen seen' x) → ((x : ℕ) → has_shortcut shortcuts x ≡ true →
    has_shortcut shortcuts' x ≡ true) →
    MeetsSeen values seen shortcuts place → MeetsSeen values seen' shortcuts' place
meets_kept values seen seen' shortcuts shortcuts' place keeps_seen keeps_shortcut meets =
    record {
      moves = meets.moves;
      some = meets.some;
      few = meets.few;
      end = elim meets.end [
        | inl self ↦ inl self
        | inr found ↦ inr (
          keeps_seen (along values meets.moves place) found.0,
          keeps_shortcut (along values meets.moves place) found.1,
        )
      ];
    }

-- from a place that lies open, the moves that are left lead to where the walk is
pub open_path : (values : List ℕ) (stored gap place y : ℕ) → along values gap stored ≡ place →
    (opened : IsOpen values stored gap y) →
    along values opened.before y ≡ place
open_path values stored gap place y path opened =
    let sum : opened.before + opened.behind ≡ gap = let s = opened.split in omega arith in
    ap (along values opened.before) opened.path ∙ sym (along-split values opened.before opened.behind gap stored sum)
    ∙ path

-- a place that lies open meets the next place of the walk, once that has a shortcut
pub open_meets : (values : List ℕ) (seen : List Bool) (shortcuts : List (Option ℕ)) (place stored gap next y : ℕ) →
    along values gap stored ≡ place → gap < 16 → next ≡ get_or values place 0 → IsSeen seen next →
    has_shortcut shortcuts next ≡ true →
    IsOpen values stored gap y → MeetsSeen values seen shortcuts y
open_meets values seen shortcuts place stored gap next y path short is_next is_seen has opened =
    let reached : along values (opened.before + 1) y ≡ next =
    along-next values opened.before y place (open_path values stored gap place y path opened) ∙ sym is_next in
    let split = opened.split in
    record {
      moves = opened.before + 1;
      some = omega arith;
      few = omega arith;
      end = inr (
        (let P : ℕ → Type 0 = λ x. IsSeen seen x in subst P (sym reached) is_seen),
        (let Q : ℕ → Type 0 = λ x. has_shortcut shortcuts x ≡ true in subst Q (sym reached) has),
      );
    }

-- a place more is seen: one fewer is not
pub unseen_count-set : (seen : List Bool) (i : ℕ) → i < length seen → get_or seen i false ≡ false →
    unseen_count (set seen i true) < unseen_count seen
unseen_count-set seen i within unseen =
    let f : Bool → ℕ = λ is_seen. cond is_seen 0 1 in
    let sums = sum_by-set f seen i true false within in
    let one : f (get_or seen i false) ≡ 1 = rw unseen refl in
    omega (arith, sums, one)
