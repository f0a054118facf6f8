-- The first of all pairs that are together is the earliest, where stops ascend; so a meeting is that of the least instant.
use Rattle.std.proofs.Common.{◌≡◌, ℕ, ℤ, ◌≤ℤ◌, false, List, [], ◌∷◌, Option, Some, None, refl, ap, sym, subst, ◌∙◌, inl, inr}
use Rattle.std.specs.Prelude.{find}
use Rattle.std.specs.List.{Contains}
use Rattle.std.specs.Option.{option_map, option_or}
use Rattle.std.proofs.lemmas.Bool.{cases_Bool}
use Rattle.list_laws.proofs.FindLemmas.{find-map}
use Rattle.list_laws.proofs.MemberLemmas.{find-passes, first_member, later_member, member_cases, member_of_find, no_member}
use Rattle.track_types.specs.ByFilter.{path_of}
use Rattle.track_types.specs.Chart.{ChartView}
use Rattle.track_types.specs.Table.{IsTable}
use Rattle.track_types.specs.declared.stop.Stop.{Stop}
use Rattle.encounter.specs.Earliest.{IsEarliest}
use Rattle.track_types.specs.Meeting.{are_together, first_together, meeting_at, meeting_of}
use Rattle.track_types.specs.declared.meeting.Meeting.{Meeting}
use Rattle.encounter.specs.Walked.{IsTrack}
use Rattle.encounter.proofs.PairLemmas.{first_pair-cons}
use Rattle.encounter.proofs.WalkedLemmas.{IsTrack-path, at-first, none-left, track-tail}

-- the first stop of a track is the earliest
first-least : (stop : Stop) (stops : List Stop) → IsTrack (stop ∷ stops) → (other : Stop) → Contains (stop ∷ stops) other →
    stop.instant ≤ℤ other.instant
first-least stop stops track other (k, within, is) =
    subst (λ (s : Stop). stop.instant ≤ℤ s.instant) is (at-first stop stops track k other within)

-- a stop that is together with none of a list
none-with : (reach : ℕ) (left : Stop) (rights : List Stop) → find (are_together reach left) rights ≡ None →
    (right : Stop) → Contains rights right → are_together reach left right ≡ false
none-with reach left [] none right among = no_member right among
none-with reach left (one ∷ rights) none right among = elim (cases_Bool (are_together reach left one)) [
  | inl met ↦ let some : Some one ≡ None = rw met at none in absurd (cc)
  | inr apart ↦ elim (member_cases right one rights among) [
    | inl same ↦ subst (λ r. are_together reach left r ≡ false) same apart
    | inr later ↦ none-with reach left rights (rw apart at none) right later
  ]
]

module _ (reach : ℕ) (left : Stop) (lefts rights : List Stop) (found : Stop × Stop) (track : IsTrack (left ∷ lefts))
    (later : first_together reach lefts rights ≡ Some found → IsEarliest reach lefts rights found) where
  by-first : (one : Option Stop) → find (are_together reach left) rights ≡ one →
      option_or (option_map (λ right. (left, right)) one) (first_together reach lefts rights) ≡ Some found →
      IsEarliest reach (left ∷ lefts) rights found
  by-first (Some right) one is =
      let same : (left, right) ≡ found = cc in
      subst (IsEarliest reach (left ∷ lefts) rights) same (record {
        left = first_member left lefts;
        right = member_of_find (are_together reach left) rights right one;
        together = find-passes (are_together reach left) rights right one;
        earliest = λ other partner among beside near. first-least left lefts track other among;
      })
  by-first None none is =
      let rest = later is in
      record {
        left = later_member found.0 left lefts rest.left;
        right = rest.right;
        together = rest.together;
        earliest = λ other partner among beside near. elim (member_cases other left lefts among) [
          | inl same ↦
              let apart : are_together reach other partner ≡ false =
              subst (λ l. are_together reach l partner ≡ false) same (none-with reach left rights none partner beside) in
              absurd (cc)
          | inr behind ↦ rest.earliest other partner behind beside near
        ];
      }

-- by the first stop of the first list
first-cons : (reach : ℕ) (left : Stop) (lefts rights : List Stop) →
    first_together reach (left ∷ lefts) rights
    ≡ option_or (option_map (λ right. (left, right)) (find (are_together reach left) rights))
    (first_together reach lefts rights)
unfolding first_together
first-cons reach left lefts rights =
    first_pair-cons (are_together reach) left lefts rights
    ∙ ap (λ one. option_or one (first_together reach lefts rights))
    (find-map (λ (pair : Stop × Stop). are_together reach pair.0 pair.1) (λ right. (left, right)) rights)

-- what is found is the earliest
pub together-earliest : (reach : ℕ) (lefts rights : List Stop) (found : Stop × Stop) → IsTrack lefts →
    first_together reach lefts rights ≡ Some found → IsEarliest reach lefts rights found
together-earliest reach [] rights found track is = let none = none-left reach rights in absurd (cc)
together-earliest reach (left ∷ lefts) rights found track is =
    by-first reach left lefts rights found track
    (together-earliest reach lefts rights found (track-tail left lefts track)) (find (are_together reach left) rights) refl
    (sym (first-cons reach left lefts rights) ∙ is)

by-found : (reach : ℕ) (lefts rights : List Stop) → IsTrack lefts → (meeting : Meeting) (one : Option (Stop × Stop)) →
    first_together reach lefts rights ≡ one → option_map meeting_at one ≡ Some meeting →
    (found : Stop × Stop) × (meeting_at found ≡ meeting) × IsEarliest reach lefts rights found
by-found reach lefts rights track meeting None found is = absurd (cc)
by-found reach lefts rights track meeting (Some pair) found is =
    (pair, cc, together-earliest reach lefts rights pair track found)

-- a meeting in a table is at the earliest instant of the window at which both objects have a row within the distance
pub meeting-earliest : (chart : ChartView) → IsTable chart → (left right : ℕ) (from to : ℤ) (reach : ℕ) (meeting : Meeting) →
    meeting_of chart.rows left right from to reach ≡ Some meeting →
    (found : Stop × Stop) × (meeting_at found ≡ meeting)
    × IsEarliest reach (path_of chart.rows left from to) (path_of chart.rows right from to) found
unfolding meeting_of
meeting-earliest chart table left right from to reach meeting is =
    let lefts = path_of chart.rows left from to in
    let rights = path_of chart.rows right from to in
    by-found reach lefts rights (IsTrack-path chart table left from to) meeting (first_together reach lefts rights) refl is
