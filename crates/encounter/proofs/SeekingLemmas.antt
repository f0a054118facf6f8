-- When two objects first met, period by period.
use Rattle.std.proofs.Common.{◌≡◌, ℕ, suc, ◌+◌, ◌*◌, ◌-◌, ◌<◌, ◌≤◌, ℤ, ◌≤ℤ◌, ◌<ℤ◌, Bool, true, List, [], ◌++◌, get_or, map, Option, Some, None, refl, ap, subst, ◌∙◌, arith, All}
use Rattle.std.proofs.Math.Nat.{mul-le-mul_right}
use Rattle.std.specs.List.{range_with_len, sum_by}
use Rattle.std.specs.Option.{option_map, option_or}
use Rattle.std.proofs.lemmas.Int.{ints}
use Rattle.std.proofs.lemmas.List.Elements.{All-filter}
use Rattle.std.proofs.lemmas.List.FromFn.{get_or-range_with_len, length-range_with_len}
use Rattle.std.proofs.lemmas.List.Sums.{sum_by-append, sum_by-cons}
use Rattle.list_laws.proofs.FirstLemmas.{map-none}
use Rattle.list_laws.proofs.FlatLemmas.{All-flat_map}
use Rattle.list_laws.proofs.MemberLemmas.{find-passes, member_of_find, member_of_flat_map, member_of_map}
use Rattle.list_laws.proofs.RangeLemmas.{range-parts, sum_by-range_part}
use Rattle.track_types.specs.ByFilter.{path_of}
use Rattle.track_types.specs.Frame.{periods_of}
use Rattle.track_types.specs.Meeting.{are_together, first_together, meeting_at, meeting_of, pairs_of}
use Rattle.track_types.specs.Region.{is_between}
use Rattle.track_types.specs.declared.meeting.Meeting.{Meeting}
use Rattle.track_types.specs.declared.parts.Parts.{Parts}
use Rattle.track_types.specs.declared.stop.Stop.{Stop}
use Rattle.rule_store.specs.Log.{in_window}
use Rattle.rule_store.specs.View.{RulesView}
use Rattle.log_cursor.specs.Start.{start_at}
use Rattle.log_cursor.specs.declared.start.Start.{Start}
use Rattle.snapshots.specs.IndexCost.{is_met}
use Rattle.snapshots.specs.Parts.{anchored_at, chart_in, end_in, first_in, index_in, log_in, rules_in, snapshot_in, stops_in}
use Rattle.snapshots.specs.SoundParts.{IsValid}
use Rattle.snapshots.specs.View.{block_of}
use Rattle.snapshots.specs.declared.anchored.Anchored.{Anchored}
use Rattle.object_track.specs.Between.{stops_between}
use Rattle.object_track.specs.Met.{AreMet}
use Rattle.object_track.proofs.BetweenLemmas.{stops_between-met, stops_between-none, stops_between-step}
use Rattle.object_track.proofs.ChartLemmas.{path_of-unknown}
use Rattle.object_track.proofs.MetLemmas.{period-before}
use Rattle.object_track.proofs.StopsLemmas.{All-stops_in}
use Rattle.encounter.specs.MeetCost.{meet_cost, meet_cost_until, period_meet_cost}
use Rattle.encounter.specs.Seeking.{EndsAt, IsSeekingMeeting, meet_cost_between, meeting_between}
use Rattle.encounter.specs.Span.{BlockTree, log_tree}
use Rattle.encounter.specs.Window.{have_met, meeting_among}
use Rattle.encounter.proofs.PairLemmas.{Apart, first_pair-apart, first_pair-split, first_pair-window}
use Rattle.encounter.proofs.WalkedLemmas.{none-left, none-right, untogether}

-- the first of two choices, of what is made of them
map-or : (a b : Option (Stop × Stop)) →
    option_map meeting_at (option_or a b) ≡ option_or (option_map meeting_at a) (option_map meeting_at b)
map-or None b = refl
map-or (Some pair) b = refl

-- no stops have no meeting
pub meeting_among-left : (from to : ℤ) (reach : ℕ) (rights : List Stop) → meeting_among from to reach [] rights ≡ None
unfolding meeting_among pairs_of
meeting_among-left from to reach rights = refl

pub meeting_among-right : (from to : ℤ) (reach : ℕ) (lefts : List Stop) → meeting_among from to reach lefts [] ≡ None
unfolding meeting_among
meeting_among-right from to reach lefts =
    first_pair-apart (have_met from to reach) lefts [] (λ k d within i e inside. absurd (omega (arith, inside)))

module _ (parts : Parts) (number index : ℕ) where
  -- an object without a block in a period
  pub stops-absent : None ≡ block_of (snapshot_in parts number) index → stops_in parts index number ≡ []
  unfolding stops_in
  stops-absent none = rw (← none) refl

  -- one with a block, whose parse trees are these
  pub stops-present : (block : Anchored) (rules : RulesView) (log : List ℕ) (start : Start) (tree : BlockTree) →
      Some block ≡ block_of (snapshot_in parts number) index → rules ≡ rules_in parts → log ≡ log_in parts block →
      start ≡ start_at (anchored_at parts.frame number block) block.cell → tree ≡ log_tree rules start log →
      tree.stops ≡ stops_in parts index number
  unfolding stops_in
  stops-present block rules log start tree present of its_log its_start is =
      ap (λ (t : BlockTree). t.stops) is ∙ (rw (of, its_log, its_start, ← present) refl)

-- in a window two stops are together where they have met in it
together-window : (from to : ℤ) (reach : ℕ) (lefts rights : List Stop) →
    first_together reach (in_window from to lefts) (in_window from to rights)
    ≡ meeting_among from to reach lefts rights
unfolding first_together meeting_among in_window
together-window from to reach lefts rights =
    first_pair-window (are_together reach) (λ stop. is_between from to stop.instant) partners lefts rights
  where
    partners : (left right : Stop) → is_between from to left.instant ≡ true → are_together reach left right ≡ true →
        is_between from to right.instant ≡ true
    partners left right taken met = grind (arith, ints)

-- stops of which those of one list are all later than those of the other
module _ (reach : ℕ) (z : ℤ) (early late : List Stop) (low : All (λ stop. stop.instant ≤ℤ z) early)
    (high : All (λ stop. z <ℤ stop.instant) late) where
  early-late : Apart (are_together reach) early late
  early-late k d within i e inside =
      untogether reach (get_or early k d) (get_or late i e) (λ same.
      let one = low k d within in
      let other = high i e inside in
      absurd (omega (arith, ints, one, other, same)))

  late-early : Apart (are_together reach) late early
  late-early k d within i e inside =
      untogether reach (get_or late k d) (get_or early i e) (λ same.
      let one = high k d within in
      let other = low i e inside in
      absurd (omega (arith, ints, one, other, same)))

module _ (parts : Parts) (valid : IsValid parts) (from to : ℤ) (next behind : ℕ) (less : next < behind)
    (within : behind ≤ periods_of parts.frame) where
  -- the stops of a period are not later than its end, and those of the periods after it are
  stops-early : (index : ℕ) →
      All (λ stop. stop.instant ≤ℤ end_in parts.frame next) (in_window from to (stops_in parts index next))
  unfolding in_window
  stops-early index =
      All-filter (λ stop. is_between from to stop.instant) (λ stop. stop.instant ≤ℤ end_in parts.frame next)
      (stops_in parts index next)
      (λ k d inside. (All-stops_in parts valid index next (omega (arith, less, within)) k d inside).below)

  stops-late : (index : ℕ) →
      All (λ stop. end_in parts.frame next <ℤ stop.instant) (stops_between parts index from to (next + 1) behind)
  unfolding in_window stops_between
  stops-late index =
      let numbers : List ℕ = range_with_len (next + 1) (behind - (next + 1)) in
      let long = length-range_with_len (next + 1) (behind - (next + 1)) in
      All-flat_map (λ (stop : Stop). end_in parts.frame next <ℤ stop.instant)
      (λ number. in_window from to (stops_in parts index number)) numbers
      (λ k d inside.
      let number : ℕ = get_or numbers k d in
      let is : number ≡ (next + 1) + k =
      get_or-range_with_len (next + 1) (behind - (next + 1)) k d (omega (arith, inside, long)) in
      let known : number < periods_of parts.frame = omega (arith, is, inside, long, within, less) in
      let before = period-before parts.frame valid.shaped.header next number (omega (arith, is)) known in
      All-filter (λ stop. is_between from to stop.instant) (λ stop. end_in parts.frame next <ℤ stop.instant)
      (stops_in parts index number)
      (λ i e there.
      let low = (All-stops_in parts valid index number known i e there).above in
      omega (arith, ints, low, before)))

  module _ (left right reach : ℕ) where
    -- the first meeting is that of the next period, or else that of those after it
    meeting_between-step : meeting_between parts left right from to reach next behind
        ≡ option_or (meeting_among from to reach (stops_in parts left next) (stops_in parts right next))
        (meeting_between parts left right from to reach (next + 1) behind)
    unfolding meeting_between first_together
    meeting_between-step =
        let z = end_in parts.frame next in
        let one = in_window from to (stops_in parts left next) in
        let two = in_window from to (stops_in parts right next) in
        let more = stops_between parts left from to (next + 1) behind in
        let others = stops_between parts right from to (next + 1) behind in
        ap (λ stops. first_together reach stops (stops_between parts right from to next behind))
        (stops_between-step parts left from to next behind less)
        ∙ ap (first_together reach (one ++ more)) (stops_between-step parts right from to next behind less)
        ∙ first_pair-split (are_together reach) one more two others
        (early-late reach z one others (stops-early left) (stops-late right))
        (late-early reach z two more (stops-early right) (stops-late left))
        ∙ ap (λ found. option_or found (first_together reach more others))
        (together-window from to reach (stops_in parts left next) (stops_in parts right next))

module _ (parts : Parts) (left right : ℕ) (from to : ℤ) (reach next behind : ℕ) where
  -- no period is left
  meeting_between-none : behind ≤ next → meeting_between parts left right from to reach next behind ≡ None
  unfolding meeting_between
  meeting_between-none over =
      ap (λ stops. first_together reach stops (stops_between parts right from to next behind))
      (stops_between-none parts left from to next behind over)
      ∙ none-left reach (stops_between parts right from to next behind)

  -- the reads of the next period, and of those after it
  meet_cost_between-step : next < behind → meet_cost_between parts left right from to reach next behind
      ≡ period_meet_cost parts left right from to reach next
      + meet_cost_between parts left right from to reach (next + 1) behind
  unfolding meet_cost_between
  meet_cost_between-step less =
      let one : behind - next ≡ suc (behind - (next + 1)) = omega arith in
      ap (λ n. sum_by (period_meet_cost parts left right from to reach) (range_with_len next n)) one
      ∙ sum_by-cons (period_meet_cost parts left right from to reach) next
      (range_with_len (next + 1) (behind - (next + 1)))

  -- the reads of the periods so far, and of one more
  meet_cost_between-more : (start : ℕ) → start ≤ next →
      meet_cost_between parts left right from to reach start (next + 1)
      ≡ meet_cost_between parts left right from to reach start next
      + period_meet_cost parts left right from to reach next
  unfolding meet_cost_between
  meet_cost_between-more start begun =
      let more : next + 1 - start ≡ next - start + 1 = omega arith in
      let here : start + (next - start) ≡ next = omega arith in
      let cost = period_meet_cost parts left right from to reach in
      ap (λ n. sum_by cost (range_with_len start n)) more
      ∙ ap (sum_by cost) (range-parts start (next - start) 1)
      ∙ sum_by-append cost (range_with_len start (next - start)) (range_with_len (start + (next - start)) 1)
      ∙ ap (λ n. sum_by cost (range_with_len start (next - start)) + n)
      (ap (λ n. sum_by cost (range_with_len n 1)) here ∙ sum_by-cons cost next [] ∙ omega arith)

-- a meeting that is found in a period is at an instant of the window, and not before the period
meeting-inside : (parts : Parts) → IsValid parts → (left right : ℕ) (from to : ℤ) (reach number : ℕ) →
    number < periods_of parts.frame → (found : Option (Stop × Stop)) → (meeting : Meeting) →
    meeting_among from to reach (stops_in parts left number) (stops_in parts right number) ≡ found →
    option_map meeting_at found ≡ Some meeting →
    (from ≤ℤ meeting.instant) × (first_in parts.frame number ≤ℤ meeting.instant)
unfolding meeting_among pairs_of
meeting-inside parts valid left right from to reach number within None meeting is some = absurd (cc)
meeting-inside parts valid left right from to reach number within (Some pair) meeting is some =
    let lefts = stops_in parts left number in
    let rights = stops_in parts right number in
    let test : Stop × Stop → Bool = λ p. have_met from to reach p.0 p.1 in
    let at : pair.0.instant ≡ meeting.instant = cc in
    let met : have_met from to reach pair.0 pair.1 ≡ true = find-passes test (pairs_of lefts rights) pair is in
    let low : from ≤ℤ pair.0.instant = grind (arith, ints) in
    let among = member_of_flat_map (λ l. map (λ r. (l, r)) rights) lefts pair
    (member_of_find test (pairs_of lefts rights) pair is) in
    let made = member_of_map (λ r. (among.0, r)) rights pair among.2 in
    let same : among.0 ≡ pair.0 = ap (λ (p : Stop × Stop). p.0) made.2 in
    let its : first_in parts.frame number ≤ℤ among.0.instant =
    subst (λ (s : Stop). first_in parts.frame number ≤ℤ s.instant) among.1.2
    (All-stops_in parts valid left number within among.1.0 among.0 among.1.1).above in
    let begun : first_in parts.frame number ≤ℤ pair.0.instant =
    subst (λ (s : Stop). first_in parts.frame number ≤ℤ s.instant) same its in
    (omega (arith, ints, low, at), omega (arith, ints, begun, at))

module _ (found : Option (Stop × Stop)) (budget : ℕ) (parts : Parts) (valid : IsValid parts) (left right : ℕ) (from to : ℤ)
    (reach start before next behind steps : ℕ)
    (is : IsSeekingMeeting found budget parts left right from to reach start before next behind steps) where
  module _ (less : next < behind) (within : behind ≤ periods_of parts.frame) where
    abbrev here : Option (Stop × Stop)
    here = meeting_among from to reach (stops_in parts left next) (stops_in parts right next)

    abbrev later : Option (Stop × Stop)
    later = meeting_between parts left right from to reach (next + 1) behind

    whole : found ≡ option_or here later
    whole = is.same ∙ meeting_between-step parts valid from to next behind less within left right reach

    -- the next period has none
    pub seeking-next : (reads : ℕ) → option_map meeting_at here ≡ None →
        reads ≤ steps + period_meet_cost parts left right from to reach next →
        IsSeekingMeeting found budget parts left right from to reach start before (next + 1) behind reads
    seeking-next reads none cost = record {
      same = whole ∙ ap (λ one. option_or one later) (map-none meeting_at here none);
      reads = omega (arith, is.reads, cost, meet_cost_between-step parts left right from to reach next behind less);
      begun = omega (arith, is.begun);
      past = omega (
        arith,
        is.past,
        cost,
        meet_cost_between-more parts left right from to reach next behind start is.begun,
      );
    }

    -- it has one
    pub seeking-found : (meeting : Meeting) → option_map meeting_at here ≡ Some meeting →
        option_map meeting_at found ≡ Some meeting
    seeking-found meeting one =
        ap (option_map meeting_at) whole ∙ map-or here later
        ∙ ap (λ first. option_or first (option_map meeting_at later)) one

    -- and no period after it is read
    pub seeking-ends : (meeting : Meeting) (reads : ℕ) → option_map meeting_at here ≡ Some meeting →
        reads ≤ steps + period_meet_cost parts left right from to reach next →
        EndsAt meeting.instant parts left right from to reach start behind before reads
    seeking-ends meeting reads one cost =
        let inside = meeting-inside parts valid left right from to reach next (omega (arith, less, within)) here meeting
        refl one in
        record {
          last = next;
          begun = is.begun;
          within = less;
          inside = inside.0;
          low = inside.1;
          past = omega (
            arith,
            is.past,
            cost,
            meet_cost_between-more parts left right from to reach next behind start is.begun,
          );
        }

    pub seeking-cost : steps + period_meet_cost parts left right from to reach next ≤ budget
    seeking-cost = omega (arith, is.reads, meet_cost_between-step parts left right from to reach next behind less)

  -- no period is left
  pub seeking-none : behind ≤ next → found ≡ None
  seeking-none over = is.same ∙ meeting_between-none parts left right from to reach next behind over

-- a period that the window meets is met up to an instant of the window that is in the period, or in a later one
met-sooner : (parts : Parts) → IsValid parts → (from to instant : ℤ) (number last : ℕ) → number ≤ last →
    last < periods_of parts.frame → is_met parts.frame from to number ≡ true → from ≤ℤ instant →
    first_in parts.frame last ≤ℤ instant → is_met parts.frame from instant number ≡ true
met-sooner parts valid from to instant number last order within met inside low =
    let before : number * parts.frame.period ≤ last * parts.frame.period = mul-le-mul_right parts.frame.period order in
    let begins : first_in parts.frame number ≤ℤ first_in parts.frame last = omega (arith, ints, before) in
    grind (arith, ints, begins)

-- the periods that the window meets cost what the objects' meeting does
pub meet_cost_between-met : (parts : Parts) (left right one other : ℕ) (from to : ℤ) (reach next behind : ℕ) →
    index_in parts.objects left ≡ Some one → index_in parts.objects right ≡ Some other →
    AreMet parts.frame from to next behind →
    meet_cost_between parts one other from to reach next behind ≤ meet_cost parts left right from to reach
unfolding meet_cost_between meet_cost
meet_cost_between-met parts left right one other from to reach next behind first second met =
    rw (first, second) (sum_by-range_part (period_meet_cost parts one other from to reach) (is_met parts.frame from to)
    next behind (periods_of parts.frame) met.ordered met.within met.met)

-- periods up to one that has begun by an instant cost what the objects' meeting at that instant does
pub meet_cost_until-met : (parts : Parts) → IsValid parts → (left right one other : ℕ) (from to : ℤ)
    (reach next behind before steps : ℕ) (instant : ℤ) → index_in parts.objects left ≡ Some one →
    index_in parts.objects right ≡ Some other → AreMet parts.frame from to next behind →
    EndsAt instant parts one other from to reach next behind before steps →
    steps ≤ before + meet_cost_until parts left right from to reach instant
unfolding meet_cost_between meet_cost_until
meet_cost_until-met parts valid left right one other from to reach next behind before steps instant first second met ends =
    let cost = period_meet_cost parts one other from to reach in
    let up_to : (number : ℕ) → next ≤ number → number < ends.last + 1 → is_met parts.frame from instant number ≡ true =
    λ number low high.
    met-sooner parts valid from to instant number ends.last (omega (arith, high))
    (omega (arith, ends.within, met.within)) (met.met number low (omega (arith, high, ends.within))) ends.inside ends.low in
    let most = sum_by-range_part cost (is_met parts.frame from instant) next (ends.last + 1) (periods_of parts.frame)
    (omega (arith, ends.begun)) (omega (arith, ends.within, met.within)) up_to in
    let past = ends.past in
    rw (first, second) (omega (arith, past, most))

module _ (parts : Parts) (valid : IsValid parts) (left right : ℕ) (from to : ℤ) (reach : ℕ) where
  -- an unknown object meets none
  pub meeting_of-unknown_left : index_in parts.objects left ≡ None →
      meeting_of (chart_in parts).rows left right from to reach ≡ None
  unfolding meeting_of
  meeting_of-unknown_left none =
      let rights = path_of (chart_in parts).rows right from to in
      ap (λ stops. option_map meeting_at (first_together reach stops rights))
      (path_of-unknown parts valid left none from to)
      ∙ ap (option_map meeting_at) (none-left reach rights)

  pub meeting_of-unknown_right : index_in parts.objects right ≡ None →
      meeting_of (chart_in parts).rows left right from to reach ≡ None
  unfolding meeting_of
  meeting_of-unknown_right none =
      let lefts = path_of (chart_in parts).rows left from to in
      ap (λ stops. option_map meeting_at (first_together reach lefts stops))
      (path_of-unknown parts valid right none from to)
      ∙ ap (option_map meeting_at) (none-right reach lefts)

  -- known ones meet in the periods that the window meets
  pub meeting_of-known : (one other next behind : ℕ) → index_in parts.objects left ≡ Some one →
      index_in parts.objects right ≡ Some other → AreMet parts.frame from to next behind →
      option_map meeting_at (meeting_between parts one other from to reach next behind)
      ≡ meeting_of (chart_in parts).rows left right from to reach
  unfolding meeting_of meeting_between
  meeting_of-known one other next behind first second met =
      rw (
        stops_between-met parts valid left one from to next behind first met,
        stops_between-met parts valid right other from to next behind second met,
      ) refl
