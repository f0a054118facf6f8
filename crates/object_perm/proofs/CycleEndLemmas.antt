-- The end of the walk that marks a cycle.
use Rattle.std.proofs.Common.{◌≡◌, ◌≢◌, ℕ, ◌+◌, ◌<◌, Bool, true, false, List, length, get_or, set, Option, None, Some, inl, inr, ap, sym, ◌∙◌, arith, subst}
use Rattle.std.proofs.lemmas.Bool.{cases_eq}
use Rattle.std.proofs.lemmas.List.{get_or-set_same, get_or-set_other, length-set}
use Rattle.object_perm.specs.Permutation.{PermutesPlaces}
use Rattle.object_perm.specs.Walk.{along}
use Rattle.object_perm.specs.Shortcuts.{has_shortcut}
use Rattle.object_perm.specs.Settled.{IsSeen, IsSettled}
use Rattle.object_perm.proofs.CycleWalk.{IsInCycle}
use Rattle.object_perm.proofs.SeenLemmas.{seen_within, shortcut_kept, shortcut_made, meets_kept, open_meets}
use Rattle.object_perm.proofs.WalkLemmas.{along-add, along-split, along-next}

-- the walk is back at its leader: what came before a place seen was seen
pub closed_at_end : (values : List ℕ) (seen : List Bool) (shortcuts : List (Option ℕ)) (leader place stored gap : ℕ) →
    PermutesPlaces values → IsInCycle values seen shortcuts leader place stored gap → get_or values place 0 ≡ leader →
    (y : ℕ) → y < length values → IsSeen seen (get_or values y 0) → IsSeen seen y
closed_at_end values seen shortcuts leader place stored gap permutes walk back y below is_seen =
    let place_below : place < length values = let b = seen_within seen place walk.here in
    omega (arith, walk.seen_length) in
    elim (cases_eq (get_or values y 0) leader) [
      | inl e ↦ let same : y ≡ place = permutes.apart y place below place_below (e ∙ sym back) in
          let P : ℕ → Type 0 = λ x. IsSeen seen x in subst P (sym same) walk.here
      | inr other ↦ walk.closed y below is_seen other
    ]

-- the walk is back at its leader after at most sixteen moves
pub cycle_ends_short : (values : List ℕ) (seen : List Bool) (shortcuts : List (Option ℕ))
    (leader place stored gap : ℕ) →
    PermutesPlaces values → IsInCycle values seen shortcuts leader place stored gap → get_or values place 0 ≡ leader →
    stored ≡ leader →
    IsSettled values seen shortcuts
cycle_ends_short values seen shortcuts leader place stored gap permutes walk back root =
    record {
      seen_length = walk.seen_length;
      same_length = walk.same_length;
      closed = closed_at_end values seen shortcuts leader place stored gap permutes walk back;
      empty = walk.empty;
      target = walk.target;
      stored = λ y target is_seen has. elim (walk.store y target is_seen has) [
        | inl has_one ↦ has_one
        | inr rootless ↦ absurd (rootless.1 root)
      ];
      back = walk.back;
      ahead = λ y is_seen. elim (walk.ahead y is_seen) [
        | inl meets ↦ meets
        | inr opened ↦
            let round : along values (gap + 1) stored ≡ stored = along-next values gap stored place walk.path ∙ back
            ∙ sym root in
            let commute : (gap + 1) + opened.behind ≡ opened.behind + (gap + 1) = omega arith in
            record {
              moves = gap + 1;
              some = omega arith;
              few = let s = walk.short in omega arith;
              end = inl (ap (along values (gap + 1)) opened.path
                  ∙ sym (along-add values (gap + 1) opened.behind stored)
                  ∙ along-split values opened.behind (gap + 1) ((gap + 1) + opened.behind) stored (sym commute)
                  ∙ ap (along values opened.behind) round
                  ∙ sym opened.path);
            }
      ];
    }

-- the walk is back at its leader, which leads back to the last place that was stored
pub cycle_ends_long : (values : List ℕ) (seen : List Bool) (shortcuts : List (Option ℕ)) (leader place stored gap : ℕ) →
    PermutesPlaces values → IsInCycle values seen shortcuts leader place stored gap → get_or values place 0 ≡ leader →
    stored ≢ leader →
    IsSettled values seen (set shortcuts leader (Some stored))
cycle_ends_long values seen shortcuts leader place stored gap permutes walk back apart =
    let leader_in : leader < length shortcuts = let b = seen_within seen leader walk.started in
    omega (arith, walk.seen_length, walk.same_length) in
    let shortcuts' : List (Option ℕ) = set shortcuts leader (Some stored) in
    let kept_shortcuts : (y : ℕ) → has_shortcut shortcuts y ≡ true → has_shortcut shortcuts' y ≡ true =
    λ y has. shortcut_kept shortcuts leader stored y leader_in has in
    let has_leader : has_shortcut shortcuts' leader ≡ true = shortcut_made shortcuts leader stored leader_in in
    let has_stored : has_shortcut shortcuts' stored ≡ true = elim walk.rooted [
      | inl root ↦ absurd (apart root)
      | inr rooted ↦ kept_shortcuts stored rooted
    ] in
    let as_before : (y target : ℕ) → y ≢ leader → get_or shortcuts' y None ≡ Some target →
    get_or shortcuts y None ≡ Some target =
    λ y target other has. sym (get_or-set_other shortcuts leader y (Some stored) None other) ∙ has in
    let made : (y target : ℕ) → y ≡ leader → get_or shortcuts' y None ≡ Some target → target ≡ stored =
    λ y target e has. let new = get_or-set_same shortcuts leader (Some stored) None leader_in in
    let same = ap (λ x. get_or shortcuts' x None) e in cc in
    record {
      seen_length = walk.seen_length;
      same_length = rw (length-set shortcuts leader (Some stored)) walk.same_length;
      closed = closed_at_end values seen shortcuts leader place stored gap permutes walk back;
      empty = λ y not_seen.
          let other : y ≢ leader = λ e. let started = walk.started in let same = ap (λ x. get_or seen x false) e in
          cc in
          get_or-set_other shortcuts leader y (Some stored) None other ∙ walk.empty y not_seen;
      target = λ y target is_seen has. elim (cases_eq y leader) [
        | inl e ↦ let P : ℕ → Type 0 = λ x. IsSeen seen x in subst P (sym (made y target e has)) walk.base
        | inr other ↦ walk.target y target is_seen (as_before y target other has)
      ];
      stored = λ y target is_seen has. elim (cases_eq y leader) [
        | inl e ↦ let P : ℕ → Type 0 = λ x. has_shortcut shortcuts' x ≡ true in
            subst P (sym (made y target e has)) has_stored
        | inr other ↦ elim (walk.store y target is_seen (as_before y target other has)) [
          | inl has_one ↦ kept_shortcuts target has_one
          | inr root ↦ let P : ℕ → Type 0 = λ x. has_shortcut shortcuts' x ≡ true in subst P (sym root.0) has_leader
        ]
      ];
      back = λ y target is_seen has. elim (cases_eq y leader) [
        | inl e ↦ record {
          moves = gap + 1;
          some = omega arith;
          few = let s = walk.short in omega arith;
          path = ap (along values (gap + 1)) (made y target e has) ∙ along-next values gap stored place walk.path
              ∙ back ∙ sym e;
        }
        | inr other ↦ walk.back y target is_seen (as_before y target other has)
      ];
      ahead = λ y is_seen. elim (walk.ahead y is_seen) [
        | inl meets ↦ meets_kept values seen seen shortcuts shortcuts' y (λ x seen_x. seen_x) kept_shortcuts meets
        | inr opened ↦ open_meets values seen shortcuts' place stored gap leader y walk.path walk.short
            (sym back) walk.started has_leader opened
      ];
    }
