-- Two walks side by side: the stop that comes first may be let go, where it is no meeting.
use Rattle.std.proofs.Common.{◌≡◌, ℕ, suc, ◌+◌, ◌*◌, ◌<◌, ◌≤◌, ℤ, ◌≤ℤ◌, ◌<ℤ◌, Bool, true, false, List, [], ◌∷◌, ◌++◌, append_assoc, length, map, filter, get_or, Option, Some, None, refl, ap, sym, subst, ◌∙◌, arith, All, inl, inr}
use Rattle.std.specs.Prelude.{nat_le}
use Rattle.std.specs.Int.Signed.{le_z}
use Rattle.std.specs.Option.{IfSome}
use Rattle.std.specs.Ordering.{int_eq}
use Rattle.std.proofs.lemmas.Bool.{and_parts, cases_Bool}
use Rattle.std.proofs.lemmas.Bool.Decides.{nat_tests}
use Rattle.std.proofs.lemmas.Int.{ints}
use Rattle.std.proofs.lemmas.List.{get_or-map, length-map}
use Rattle.std.proofs.lemmas.List.Elements.{All-cons, All-filter, All-map, All-nil, All-tail}
use Rattle.std.proofs.lemmas.List.Kept.{IsStrictlySortedBy-filter}
use Rattle.std.proofs.lemmas.Map.Keys.{Less-from_sorted}
use Rattle.std.specs.declared.cmp.Ordering.TheVariants.{Less}
use Rattle.track_types.specs.ByFilter.{is_row_between, path_of, stop_of}
use Rattle.track_types.specs.Chart.{ChartView}
use Rattle.track_types.specs.Near.{IsCellWithin}
use Rattle.track_types.specs.Region.{squared_distance}
use Rattle.track_types.specs.Row.{row_order}
use Rattle.track_types.specs.StopWalk.{IsDrawnInTime}
use Rattle.track_types.specs.Table.{IsTable}
use Rattle.track_types.specs.declared.meeting.Meeting.{Meeting}
use Rattle.track_types.specs.declared.row.Row.{Row}
use Rattle.track_types.specs.declared.stop.Stop.{Stop}
use Rattle.track_types.specs.Meeting.{are_together, first_together, pairs_of}
use Rattle.encounter.specs.Walked.{AreReadInTime, AreWalked, IsTrack}
use Rattle.encounter.proofs.PairLemmas.{first_pair-apart, first_pair-found, first_pair-left, first_pair-right}

-- what a test keeps passes it
filter-holds : (p : Row → Bool) (rows : List Row) → All (λ row. p row ≡ true) (filter p rows)
filter-holds p [] = All-nil (λ row. p row ≡ true)
filter-holds p (row ∷ rows) = elim (cases_Bool (p row)) [
  | inl kept ↦ rw kept (All-cons (λ r. p r ≡ true) row (filter p rows) kept (filter-holds p rows))
  | inr gone ↦ rw gone (filter-holds p rows)
]

instant-lt : (a b : Row) → row_order a b ≡ Less → a.object ≡ b.object → a.instant <ℤ b.instant
instant-lt a b less same = grind (arith, ints, nat_tests)

of-object : (object : ℕ) (from to : ℤ) (row : Row) → is_row_between object from to row ≡ true → object ≡ row.object
of-object object from to row holds = grind (arith, nat_tests)

-- the path of an object in a table is a track
pub IsTrack-path : (chart : ChartView) → IsTable chart → (object : ℕ) (from to : ℤ) →
    IsTrack (path_of chart.rows object from to)
IsTrack-path chart table object from to =
    let test : Row → Bool = is_row_between object from to in
    let rows = filter test chart.rows in
    let sorted = IsStrictlySortedBy-filter row_order test chart.rows table.ascending in
    let holds = filter-holds test chart.rows in
    record {
      ascending = λ i j d before within.
          let row : Row = record { object = object; instant = d.instant; cell = d.cell } in
          let long = length-map rows stop_of in
          let inside : j < length rows = omega (arith, within, long) in
          let less = Less-from_sorted row_order rows i j row sorted before inside in
          let one = of-object object from to (get_or rows i row) (holds i row (omega (arith, before, inside))) in
          let other = of-object object from to (get_or rows j row) (holds j row inside) in
          let first : get_or (map stop_of rows) i d ≡ stop_of (get_or rows i row) =
          get_or-map stop_of rows i row d (omega (arith, before, inside)) in
          let second : get_or (map stop_of rows) j d ≡ stop_of (get_or rows j row) =
          get_or-map stop_of rows j row d inside in
          rw (first, second) (instant-lt (get_or rows i row) (get_or rows j row) less (sym one ∙ other));
      near = All-map (λ (stop : Stop). IsCellWithin stop.cell) stop_of rows
          (All-filter test (λ (row : Row). IsCellWithin row.cell) chart.rows (λ k d within. (table.rows k d within).cell));
    }

-- a track without its first stop, which comes before the others
pub track-tail : (stop : Stop) (stops : List Stop) → IsTrack (stop ∷ stops) → IsTrack stops
track-tail stop stops is = record {
  ascending = λ i j d before within. is.ascending (suc i) (suc j) d (omega (arith, before)) (omega (arith, within));
  near = All-tail (λ (s : Stop). IsCellWithin s.cell) stop stops is.near;
}

after-first : (stop : Stop) (stops : List Stop) → IsTrack (stop ∷ stops) → All (λ s. stop.instant <ℤ s.instant) stops
after-first stop stops is = λ k d within. is.ascending 0 (suc k) d (omega arith) (omega (arith, within))

pub at-first : (stop : Stop) (stops : List Stop) → IsTrack (stop ∷ stops) →
    All (λ s. stop.instant ≤ℤ s.instant) (stop ∷ stops)
at-first stop stops is =
    All-cons (λ (s : Stop). stop.instant ≤ℤ s.instant) stop stops (omega (arith, ints))
    (λ k d within. let late = after-first stop stops is k d within in omega (arith, ints, late))

-- a stop goes over to those that were drawn
one-more : (all drawn : List Stop) (stop : Stop) (left now : List Stop) → all ≡ drawn ++ (stop ∷ left) → left ≡ now →
    all ≡ (drawn ++ (stop ∷ [])) ++ now
one-more all drawn stop left now is are =
    is ∙ ap (λ stops. drawn ++ (stop ∷ stops)) are ∙ sym (append_assoc drawn (stop ∷ []) now)

module _ (reach : ℕ) where
  -- two stops that are together are at one instant
  pub together-instant : (left right : Stop) → are_together reach left right ≡ true → right.instant ≡ left.instant
  together-instant left right met =
      let parts = and_parts (int_eq left.instant right.instant)
      (nat_le (squared_distance left.cell right.cell) (reach * reach)) met in
      grind (arith, ints, parts.0)

  pub untogether : (left right : Stop) → (left.instant ≡ right.instant → ⊥) → are_together reach left right ≡ false
  untogether left right differ = elim (cases_Bool (are_together reach left right)) [
    | inl met ↦
        let same : left.instant ≡ right.instant = (let parts = and_parts (int_eq left.instant right.instant)
        (nat_le (squared_distance left.cell right.cell) (reach * reach)) met in grind (arith, ints, parts.0)) in
        absurd (differ same)
    | inr apart ↦ apart
  ]

  module _ (left right : Stop) (more others : List Stop) (left_is : IsTrack (left ∷ more))
      (right_is : IsTrack (right ∷ others)) where
    -- the second one is earlier
    pub drop-right : right.instant <ℤ left.instant →
        first_together reach (left ∷ more) (right ∷ others) ≡ first_together reach (left ∷ more) others
    unfolding first_together
    drop-right early =
        first_pair-right (are_together reach) (left ∷ more) (right ∷ []) others
        (λ k d within. All-cons (λ r. are_together reach (get_or (left ∷ more) k d) r ≡ false) right []
        (untogether (get_or (left ∷ more) k d) right (λ same.
        let late = at-first left more left_is k d within in
        absurd (omega (arith, ints, late, early, same))))
        (All-nil (λ r. are_together reach (get_or (left ∷ more) k d) r ≡ false)))

    -- the first one is not later, and no meeting
    pub drop-left : left.instant ≤ℤ right.instant → are_together reach left right ≡ false →
        first_together reach (left ∷ more) (right ∷ others) ≡ first_together reach more (right ∷ others)
    unfolding first_together
    drop-left early apart =
        first_pair-left (are_together reach) (left ∷ []) more (right ∷ others)
        (All-cons (λ l. All (λ r. are_together reach l r ≡ false) (right ∷ others)) left []
        (All-cons (λ r. are_together reach left r ≡ false) right others apart
        (λ k d within. untogether left (get_or others k d) (λ same.
        let late = after-first right others right_is k d within in
        absurd (omega (arith, ints, late, early, same)))))
        (All-nil (λ l. All (λ r. are_together reach l r ≡ false) (right ∷ others))))

    pub both-found : are_together reach left right ≡ true →
        first_together reach (left ∷ more) (right ∷ others) ≡ Some (left, right)
    unfolding first_together
    both-found met = first_pair-found (are_together reach) left right more others met

  pub none-left : (rights : List Stop) → first_together reach [] rights ≡ None
  unfolding first_together pairs_of
  none-left rights = refl

  pub none-right : (lefts : List Stop) → first_together reach lefts [] ≡ None
  unfolding first_together
  none-right lefts =
      first_pair-apart (are_together reach) lefts [] (λ k d within i e inside. absurd (omega (arith, inside)))

  -- what two walks have done by their first draws
  pub drawn-both : (lefts rights : List Stop) (budget : ℕ) (left right : Stop) (more others : List Stop) (steps rest : ℕ) →
      IsTrack lefts → IsTrack rights → lefts ≡ left ∷ more → rights ≡ right ∷ others → steps + rest ≤ budget →
      AreWalked reach lefts rights budget left right more others steps rest
  drawn-both lefts rights budget left right more others steps rest one other is are reads = record {
    same = ap (λ stops. first_together reach stops rights) is ∙ ap (first_together reach (left ∷ more)) are;
    left_is = subst IsTrack is one;
    right_is = subst IsTrack are other;
    reads = reads;
    drawn = [];
    left_all = is;
    passed = [];
    right_all = are;
  }

  -- what two walks have done, by one more draw
  module _ (lefts rights : List Stop) (budget : ℕ) (left right : Stop) (more others : List Stop) (steps rest : ℕ)
      (is : AreWalked reach lefts rights budget left right more others steps rest) where
    pub drawn-right : right.instant <ℤ left.instant → (next : Stop) (later : List Stop) (reads now : ℕ) →
        others ≡ next ∷ later → reads + now ≤ steps + rest →
        AreWalked reach lefts rights budget left next more later reads now
    drawn-right early next later reads now are cost = record {
      same = is.same ∙ drop-right left right more others is.left_is is.right_is early
          ∙ ap (first_together reach (left ∷ more)) are;
      left_is = is.left_is;
      right_is = subst IsTrack are (track-tail right others is.right_is);
      reads = omega (arith, is.reads, cost);
      drawn = is.drawn;
      left_all = is.left_all;
      passed = is.passed ++ (right ∷ []);
      right_all = one-more rights is.passed right others (next ∷ later) is.right_all are;
    }

    pub ended-right : right.instant <ℤ left.instant → others ≡ [] → first_together reach lefts rights ≡ None
    ended-right early end =
        is.same ∙ drop-right left right more others is.left_is is.right_is early
        ∙ ap (first_together reach (left ∷ more)) end ∙ none-right (left ∷ more)

    module _ (early : left.instant ≤ℤ right.instant) (apart : are_together reach left right ≡ false) where
      pub drawn-left : (next : Stop) (later : List Stop) (reads now : ℕ) → more ≡ next ∷ later →
          reads + now ≤ steps + rest → AreWalked reach lefts rights budget next right later others reads now
      drawn-left next later reads now are cost = record {
        same = is.same ∙ drop-left left right more others is.left_is is.right_is early apart
            ∙ ap (λ stops. first_together reach stops (right ∷ others)) are;
        left_is = subst IsTrack are (track-tail left more is.left_is);
        right_is = is.right_is;
        reads = omega (arith, is.reads, cost);
        drawn = is.drawn ++ (left ∷ []);
        left_all = one-more lefts is.drawn left more (next ∷ later) is.left_all are;
        passed = is.passed;
        right_all = is.right_all;
      }

      pub ended-left : more ≡ [] → first_together reach lefts rights ≡ None
      ended-left end =
          is.same ∙ drop-left left right more others is.left_is is.right_is early apart
          ∙ ap (λ stops. first_together reach stops (right ∷ others)) end ∙ none-left (right ∷ others)

    pub drawn-found : are_together reach left right ≡ true → first_together reach lefts rights ≡ Some (left, right)
    drawn-found met = is.same ∙ both-found left right more others is.left_is is.right_is met

-- a stop before an instant is not at it or after it
not-past : (instant : ℤ) (stop : Stop) → stop.instant <ℤ instant → le_z instant stop.instant ≡ false
not-past instant stop before = grind (arith, ints)

-- the next stop of a track comes after the first
pub next-after : (stop next : Stop) (more later : List Stop) → IsTrack (stop ∷ more) → more ≡ next ∷ later →
    stop.instant <ℤ next.instant
next-after stop next more later is are =
    let track = subst IsTrack (ap (λ stops. stop ∷ stops) are) is in track.ascending 0 1 stop (omega arith) (omega arith)

-- what both walks have read by their first draws
pub in_time-both : (begun middle steps : ℕ) (one other mine theirs : ℤ → ℕ) (left right : Stop)
    → IsDrawnInTime one mine begun middle (Some left) → IsDrawnInTime other theirs middle steps (Some right)
    → AreReadInTime begun (λ instant. one instant + other instant) left right mine theirs steps
in_time-both begun middle steps one other mine theirs left right first second = record {
  until = λ instant _ _. omega (arith, first instant, second instant);
}

module _ (begun steps : ℕ) (before mine theirs : ℤ → ℕ) (left right : Stop)
    (is : AreReadInTime begun before left right mine theirs steps) where
  -- and by one more draw
  module _ (now : ℕ) (later : ℤ → ℕ) (next : Stop) where
    pub in_time-right : right.instant <ℤ left.instant → IsDrawnInTime theirs later steps now (Some next)
        → AreReadInTime begun before left next mine later now
    in_time-right early drawn = record {
      until = λ instant here there.
          let so_far = rw (not-past instant right (omega (arith, ints, early, here))) at
          (is.until instant here (omega (arith, ints, early, here))) in
          omega (arith, so_far, drawn instant);
    }

    pub in_time-left : left.instant <ℤ next.instant → IsDrawnInTime mine later steps now (Some next)
        → AreReadInTime begun before next right later theirs now
    in_time-left early drawn = record {
      until = λ instant here there.
          let so_far = rw (not-past instant left (omega (arith, ints, early, here))) at
          (is.until instant (omega (arith, ints, early, here)) there) in
          omega (arith, so_far, drawn instant);
    }

  -- no more was read than until the instant at which both are
  pub in_time-found : right.instant ≡ left.instant → steps ≤ begun + before left.instant
  in_time-found same =
      let here : left.instant ≤ℤ left.instant = omega (arith, ints) in
      let there : right.instant ≤ℤ left.instant = omega (arith, ints, same) in
      omega (arith, is.until left.instant here there)

-- where less is read up to each instant, less is read up to a meeting
pub sooner-found : (found : Option Meeting) (steps begun : ℕ) (one other mine theirs : ℤ → ℕ)
    → IfSome found (λ (meeting : Meeting). steps ≤ begun + (one meeting.instant + other meeting.instant))
    → ((instant : ℤ) → one instant ≤ mine instant) → ((instant : ℤ) → other instant ≤ theirs instant)
    → IfSome found (λ (meeting : Meeting). steps ≤ begun + (mine meeting.instant + theirs meeting.instant))
sooner-found None steps begun one other mine theirs reads first second = tt
sooner-found (Some meeting) steps begun one other mine theirs reads first second =
    omega (arith, reads, first meeting.instant, second meeting.instant)
