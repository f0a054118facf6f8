-- The steps of the walk that marks a cycle.
use Rattle.std.proofs.Common.{◌≡◌, ◌≢◌, ℕ, ◌+◌, ◌<◌, Bool, true, false, List, length, get_or, set, Option, None, Some, inl, inr, refl, ap, sym, ◌∙◌, arith, subst}
use Rattle.std.proofs.lemmas.Bool.{cases_Bool}
use Rattle.std.proofs.lemmas.List.{get_or-set_same, get_or-set_other, length-set}
use Rattle.object_perm.specs.Permutation.{PermutesPlaces}
use Rattle.object_perm.specs.Walk.{along}
use Rattle.object_perm.specs.Shortcuts.{has_shortcut}
use Rattle.object_perm.specs.Settled.{IsSeen, KeepsMarks, IsSettled}
use Rattle.object_perm.proofs.CycleWalk.{IsInCycle, unseen_count}
use Rattle.object_perm.proofs.SeenLemmas.{seen_within, seen_kept, seen_cases, unseen_before, shortcut_kept, shortcut_made, meets_kept, open_meets, unseen_count-set}
use Rattle.object_perm.proofs.WalkLemmas.{along-zero, along-next}

-- the walk begins at its leader
pub cycle_begins : (values : List ℕ) (seen : List Bool) (shortcuts : List (Option ℕ)) (leader : ℕ) →
    leader < length values → get_or seen leader false ≡ false → IsSettled values seen shortcuts →
    IsInCycle values (set seen leader true) shortcuts leader leader leader 0
cycle_begins values seen shortcuts leader within unseen settled =
    let at_leader : leader < length seen = omega (arith, settled.seen_length) in
    let seen' : List Bool = set seen leader true in
    let kept : KeepsMarks seen seen' = λ place is_seen. seen_kept seen leader place at_leader is_seen in
    let begun : IsSeen seen' leader = get_or-set_same seen leader true false at_leader in
    let no_shortcut : (y target : ℕ) → y ≡ leader → get_or shortcuts y None ≡ Some target → ⊥ =
    λ y target e has. let none = settled.empty leader unseen in let same = ap (λ x. get_or shortcuts x None) e in cc in
    let before : (y : ℕ) → y < length values → IsSeen seen' (get_or values y 0) → get_or values y 0 ≢ leader →
    IsSeen seen y =
    λ y below is_seen other. elim (seen_cases seen leader (get_or values y 0) is_seen) [
      | inl e ↦ absurd (other e)
      | inr old ↦ settled.closed y below old
    ] in
    record {
      seen_length = rw (length-set seen leader true) settled.seen_length;
      same_length = settled.same_length;
      started = begun;
      here = begun;
      base = begun;
      short = omega arith;
      path = along-zero values leader;
      rooted = inl refl;
      closed = λ y below is_seen other. kept y (before y below is_seen other);
      ahead_unseen = λ y below is_seen other e. let there = before y below is_seen other in let same =
          ap (λ x. get_or seen x false) e in cc;
      empty = λ y not_seen. settled.empty y (unseen_before seen leader y at_leader not_seen).1;
      target = λ y target is_seen has. elim (seen_cases seen leader y is_seen) [
        | inl e ↦ absurd (no_shortcut y target e has)
        | inr old ↦ kept target (settled.target y target old has)
      ];
      store = λ y target is_seen has. elim (seen_cases seen leader y is_seen) [
        | inl e ↦ absurd (no_shortcut y target e has)
        | inr old ↦ inl (settled.stored y target old has)
      ];
      back = λ y target is_seen has. elim (seen_cases seen leader y is_seen) [
        | inl e ↦ absurd (no_shortcut y target e has)
        | inr old ↦ settled.back y target old has
      ];
      ahead = λ y is_seen. elim (seen_cases seen leader y is_seen) [
        | inl e ↦ inr (record {
          behind = 0;
          before = 0;
          split = omega arith;
          path = e
              ∙ sym (along-zero values leader);
        })
        | inr old ↦ inl (meets_kept values seen seen' shortcuts shortcuts y kept (λ x has. has) (settled.ahead y old))
      ];
    }

-- the next place of the walk was not seen yet
pub next_unseen : (values : List ℕ) (seen : List Bool) (shortcuts : List (Option ℕ)) (leader place stored gap : ℕ) →
    IsInCycle values seen shortcuts leader place stored gap → get_or values place 0 ≢ leader →
    get_or seen (get_or values place 0) false ≡ false
next_unseen values seen shortcuts leader place stored gap walk other =
    let below : place < length values = let b = seen_within seen place walk.here in omega (arith, walk.seen_length) in
    elim (cases_Bool (get_or seen (get_or values place 0) false)) [
      | inl is_seen ↦ absurd (walk.ahead_unseen place below is_seen other refl)
      | inr not_seen ↦ not_seen
    ]

-- what came before a place is seen, once the walk has gone on to the next
pub closed_after : (values : List ℕ) (seen : List Bool) (shortcuts : List (Option ℕ))
    (leader place stored gap next : ℕ) →
    PermutesPlaces values → IsInCycle values seen shortcuts leader place stored gap →
    next ≡ get_or values place 0 → next ≢ leader →
    (y : ℕ) → y < length values → IsSeen (set seen next true) (get_or values y 0) → get_or values y 0 ≢ leader →
    IsSeen seen y
closed_after values seen shortcuts leader place stored gap next permutes walk is_next other y below is_seen apart =
    let place_below : place < length values = let b = seen_within seen place walk.here in
    omega (arith, walk.seen_length) in
    elim (seen_cases seen next (get_or values y 0) is_seen) [
      | inl e ↦ let same : y ≡ place = permutes.apart y place below place_below (e ∙ is_next) in
          let P : ℕ → Type 0 = λ x. IsSeen seen x in subst P (sym same) walk.here
      | inr old ↦ walk.closed y below old apart
    ]

-- one move further, to a place that gets no shortcut
pub cycle_goes_on : (values : List ℕ) (seen : List Bool) (shortcuts : List (Option ℕ))
    (leader place stored gap next : ℕ) →
    PermutesPlaces values → IsInCycle values seen shortcuts leader place stored gap →
    next ≡ get_or values place 0 → next ≢ leader → gap + 1 < 16 →
    IsInCycle values (set seen next true) shortcuts leader next stored (gap + 1)
cycle_goes_on values seen shortcuts leader place stored gap next permutes walk is_next other still_short =
    let place_below : place < length values = let b = seen_within seen place walk.here in
    omega (arith, walk.seen_length) in
    let next_below : next < length seen = let b = permutes.within place place_below in
    omega (arith, walk.seen_length) in
    let seen' : List Bool = set seen next true in
    let kept : KeepsMarks seen seen' = λ y is_seen. seen_kept seen next y next_below is_seen in
    let fresh : get_or seen next false ≡ false =
    let other' : get_or values place 0 ≢ leader = λ e. other (is_next ∙ e) in
    ap (λ x. get_or seen x false) is_next ∙ next_unseen values seen shortcuts leader place stored gap walk other' in
    let no_shortcut : (y target : ℕ) → y ≡ next → get_or shortcuts y None ≡ Some target → ⊥ =
    λ y target e has. let none = walk.empty next fresh in let same = ap (λ x. get_or shortcuts x None) e in cc in
    let before : (y : ℕ) → y < length values → IsSeen seen' (get_or values y 0) → get_or values y 0 ≢ leader →
    IsSeen seen y =
    closed_after values seen shortcuts leader place stored gap next permutes walk is_next other in
    record {
      seen_length = rw (length-set seen next true) walk.seen_length;
      same_length = walk.same_length;
      started = kept leader walk.started;
      here = get_or-set_same seen next true false next_below;
      base = kept stored walk.base;
      short = still_short;
      path = along-next values gap stored place walk.path ∙ sym is_next;
      rooted = walk.rooted;
      closed = λ y below is_seen apart. kept y (before y below is_seen apart);
      ahead_unseen = λ y below is_seen apart e.
          let there = before y below is_seen apart in let same = ap (λ x. get_or seen x false) e in cc;
      empty = λ y not_seen. walk.empty y (unseen_before seen next y next_below not_seen).1;
      target = λ y target is_seen has. elim (seen_cases seen next y is_seen) [
        | inl e ↦ absurd (no_shortcut y target e has)
        | inr old ↦ kept target (walk.target y target old has)
      ];
      store = λ y target is_seen has. elim (seen_cases seen next y is_seen) [
        | inl e ↦ absurd (no_shortcut y target e has)
        | inr old ↦ walk.store y target old has
      ];
      back = λ y target is_seen has. elim (seen_cases seen next y is_seen) [
        | inl e ↦ absurd (no_shortcut y target e has)
        | inr old ↦ walk.back y target old has
      ];
      ahead = λ y is_seen. elim (seen_cases seen next y is_seen) [
        | inl e ↦ inr (record {
          behind = gap + 1;
          before = 0;
          split = omega arith;
          path = e ∙ is_next ∙ sym (along-next values gap stored place walk.path);
        })
        | inr old ↦ elim (walk.ahead y old) [
          | inl meets ↦ inl (meets_kept values seen seen' shortcuts shortcuts y kept (λ x has. has) meets)
          | inr opened ↦ inr (record {
            behind = opened.behind;
            before = opened.before + 1;
            split = let s = opened.split in omega arith;
            path = opened.path;
          })
        ]
      ];
    }

-- one move further, to the sixteenth place after the one that was stored last: it leads back there
pub cycle_stores : (values : List ℕ) (seen : List Bool) (shortcuts : List (Option ℕ))
    (leader place stored gap next : ℕ) →
    PermutesPlaces values → IsInCycle values seen shortcuts leader place stored gap →
    next ≡ get_or values place 0 → next ≢ leader →
    IsInCycle values (set seen next true) (set shortcuts next (Some stored)) leader next next 0
cycle_stores values seen shortcuts leader place stored gap next permutes walk is_next other =
    let place_below : place < length values = let b = seen_within seen place walk.here in
    omega (arith, walk.seen_length) in
    let next_below : next < length seen = let b = permutes.within place place_below in
    omega (arith, walk.seen_length) in
    let next_in : next < length shortcuts = omega (arith, walk.seen_length, walk.same_length) in
    let seen' : List Bool = set seen next true in
    let shortcuts' : List (Option ℕ) = set shortcuts next (Some stored) in
    let kept : KeepsMarks seen seen' = λ y is_seen. seen_kept seen next y next_below is_seen in
    let kept_shortcuts : (y : ℕ) → has_shortcut shortcuts y ≡ true → has_shortcut shortcuts' y ≡ true =
    λ y has. shortcut_kept shortcuts next stored y next_in has in
    let fresh : get_or seen next false ≡ false =
    let other' : get_or values place 0 ≢ leader = λ e. other (is_next ∙ e) in
    ap (λ x. get_or seen x false) is_next ∙ next_unseen values seen shortcuts leader place stored gap walk other' in
    let seen_other : (y : ℕ) → IsSeen seen y → y ≢ next =
    λ y is_seen e. let same = ap (λ x. get_or seen x false) e in cc in
    let as_before : (y target : ℕ) → IsSeen seen y → get_or shortcuts' y None ≡ Some target →
    get_or shortcuts y None ≡ Some target =
    λ y target is_seen has. sym (get_or-set_other shortcuts next y (Some stored) None (seen_other y is_seen)) ∙ has in
    let made : (y target : ℕ) → y ≡ next → get_or shortcuts' y None ≡ Some target → target ≡ stored =
    λ y target e has. let new = get_or-set_same shortcuts next (Some stored) None next_in in
    let same = ap (λ x. get_or shortcuts' x None) e in cc in
    let before : (y : ℕ) → y < length values → IsSeen seen' (get_or values y 0) → get_or values y 0 ≢ leader →
    IsSeen seen y =
    closed_after values seen shortcuts leader place stored gap next permutes walk is_next other in
    let is_seen_next : IsSeen seen' next = get_or-set_same seen next true false next_below in
    record {
      seen_length = rw (length-set seen next true) walk.seen_length;
      same_length = rw (length-set shortcuts next (Some stored)) walk.same_length;
      started = kept leader walk.started;
      here = is_seen_next;
      base = is_seen_next;
      short = omega arith;
      path = along-zero values next;
      rooted = inr (shortcut_made shortcuts next stored next_in);
      closed = λ y below is_seen apart. kept y (before y below is_seen apart);
      ahead_unseen = λ y below is_seen apart e. seen_other y (before y below is_seen apart) e;
      empty = λ y not_seen.
          let old = unseen_before seen next y next_below not_seen in
          get_or-set_other shortcuts next y (Some stored) None old.0 ∙ walk.empty y old.1;
      target = λ y target is_seen has. elim (seen_cases seen next y is_seen) [
        | inl e ↦ let P : ℕ → Type 0 = λ x. IsSeen seen' x in
            subst P (sym (made y target e has)) (kept stored walk.base)
        | inr old ↦ kept target (walk.target y target old (as_before y target old has))
      ];
      store = λ y target is_seen has. elim (seen_cases seen next y is_seen) [
        | inl e ↦ elim walk.rooted [
          | inl root ↦ inr (made y target e has ∙ root, other)
          | inr rooted ↦ let P : ℕ → Type 0 = λ x. has_shortcut shortcuts' x ≡ true in
              inl (subst P (sym (made y target e has)) (kept_shortcuts stored rooted))
        ]
        | inr old ↦ elim (walk.store y target old (as_before y target old has)) [
          | inl has_one ↦ inl (kept_shortcuts target has_one)
          | inr root ↦ inr (root.0, other)
        ]
      ];
      back = λ y target is_seen has. elim (seen_cases seen next y is_seen) [
        | inl e ↦ record {
          moves = gap + 1;
          some = omega arith;
          few = let s = walk.short in omega arith;
          path = ap (along values (gap + 1)) (made y target e has) ∙ along-next values gap stored place walk.path
              ∙ sym is_next ∙ sym e;
        }
        | inr old ↦ walk.back y target old (as_before y target old has)
      ];
      ahead = λ y is_seen. elim (seen_cases seen next y is_seen) [
        | inl e ↦ inr (record { behind = 0; before = 0; split = omega arith; path = e ∙ sym (along-zero values next) })
        | inr old ↦ inl (elim (walk.ahead y old) [
          | inl meets ↦ meets_kept values seen seen' shortcuts shortcuts' y kept kept_shortcuts meets
          | inr opened ↦ open_meets values seen' shortcuts' place stored gap next y walk.path walk.short is_next is_seen_next
              (shortcut_made shortcuts next stored next_in) opened
        ])
      ];
    }

-- where the walk goes on is within the list
pub next_within : (values : List ℕ) (seen : List Bool) (shortcuts : List (Option ℕ)) (leader place stored gap : ℕ) →
    PermutesPlaces values → IsInCycle values seen shortcuts leader place stored gap →
    get_or values place 0 < length seen
next_within values seen shortcuts leader place stored gap permutes walk =
    let place_below : place < length values = let b = seen_within seen place walk.here in
    omega (arith, walk.seen_length) in
    let next_below = permutes.within place place_below in
    omega (arith, walk.seen_length, next_below)

-- a move of the walk leaves fewer places unseen
pub unseen_falls : (values : List ℕ) (seen : List Bool) (shortcuts : List (Option ℕ)) (leader place stored gap : ℕ) →
    PermutesPlaces values → IsInCycle values seen shortcuts leader place stored gap → get_or values place 0 ≢ leader →
    unseen_count (set seen (get_or values place 0) true) < unseen_count seen
unseen_falls values seen shortcuts leader place stored gap permutes walk other =
    unseen_count-set seen (get_or values place 0) (next_within values seen shortcuts leader place stored gap permutes walk)
    (next_unseen values seen shortcuts leader place stored gap walk other)
