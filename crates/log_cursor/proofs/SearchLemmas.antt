-- A search for the first hit: the anchor, and else that of the log.
use Rattle.std.proofs.Common.{◌≡◌, ℕ, ℤ, ◌≤ℤ◌, ◌<ℤ◌, Bool, true, false, List, [], ◌∷◌, ◌++◌, Option, Some, None, append_assoc, refl, ap, sym, ◌∙◌, inl, inr}
use Rattle.std.specs.Option.{is_some, option_or, option_to_list}
use Rattle.std.specs.Prelude.{filter, find}
use Rattle.std.proofs.lemmas.Bool.{cases_Bool}
use Rattle.std.proofs.lemmas.List.{append-nil}
use Rattle.std.proofs.lemmas.List.Elements.{filter-append}
use Rattle.std.proofs.lemmas.List.Folds.{find-append}
use Rattle.list_laws.proofs.FirstLemmas.{option_or-none}
use Rattle.track_types.specs.Region.{in_region, is_between}
use Rattle.track_types.specs.declared.region.Region.{Region}
use Rattle.track_types.specs.declared.stop.Stop.{Stop}
use Rattle.rule_store.specs.View.{RulesView}
use Rattle.rule_store.specs.Log.{block_stops, in_window, stop_at, stops_after}
use Rattle.log_cursor.specs.Touching.{IsDrawnIn, first_among, first_hit_of, hit_left}
use Rattle.log_cursor.specs.declared.start.Start.{Start}
use Rattle.log_cursor.proofs.WalkLemmas.{in_window-empty, stops_left-over}

-- the anchor in a window is a hit, if it is in the region
pub anchor-held : (from to : ℤ) (region : Region) (stop other : Stop) → other ∷ [] ≡ in_window from to (stop ∷ []) →
    in_region region stop.cell ≡ true → Some other ≡ first_among region (in_window from to (stop ∷ []))
unfolding in_window
anchor-held from to region stop other same held = elim (cases_Bool (is_between from to stop.instant)) [
  | inl kept ↦ let one : other ∷ [] ≡ stop ∷ [] = rw kept at same in rw (kept, held) (cc)
  | inr gone ↦ let none : other ∷ [] ≡ [] = rw gone at same in absurd (cc)
]

pub anchor-apart : (from to : ℤ) (region : Region) (stop : Stop) → in_region region stop.cell ≡ false →
    None ≡ first_among region (in_window from to (stop ∷ []))
unfolding in_window
anchor-apart from to region stop apart = elim (cases_Bool (is_between from to stop.instant)) [
  | inl kept ↦ rw (kept, apart) refl
  | inr gone ↦ rw gone refl
]

-- symbols after the window have no hit
pub hit_left-over : (rules : RulesView) (from to : ℤ) (region : Region) (start : Start) (symbols : List ℕ) →
    to ≤ℤ start.instant → hit_left rules from to region start symbols ≡ None
hit_left-over rules from to region start symbols over =
    ap (first_among region) (stops_left-over rules from to start symbols over)

or-some : (anchor other : Option Stop) → is_some anchor ≡ true → option_or anchor other ≡ anchor
or-some None other some = absurd (cc)
or-some (Some stop) other some = refl

or-later : (anchor other : Option Stop) → is_some anchor ≡ false → option_or anchor other ≡ other
or-later None other none = refl
or-later (Some stop) other none = absurd (cc)

-- a window with no instant has no hit
pub first_hit_of-empty : (rules : RulesView) (log : List ℕ) (start : Start) (from to : ℤ) (region : Region) →
    to <ℤ from → first_hit_of rules log start from to region ≡ None
unfolding first_hit_of
first_hit_of-empty rules log start from to region empty =
    ap (first_among region) (in_window-empty from to (block_stops rules start.instant start.cell log) empty)

-- the first hit of a block: its anchor, and else that of its log
module _ (rules : RulesView) (log : List ℕ) (start : Start) (from to : ℤ) (region : Region) (anchor : Option Stop)
    (is : anchor ≡ first_among region (in_window from to (stop_at start.instant start.cell ∷ []))) where
  either : first_hit_of rules log start from to region ≡ option_or anchor (hit_left rules from to region start log)
  unfolding first_hit_of block_stops in_window
  either =
      let test : Stop → Bool = λ stop. is_between from to stop.instant in
      let held : Stop → Bool = λ stop. in_region region stop.cell in
      let first = stop_at start.instant start.cell ∷ [] in
      let later = stops_after rules start.instant start.cell log in
      ap (find held) (filter-append test first later) ∙ find-append held (filter test first) (filter test later)
      ∙ ap (λ found. option_or found (find held (filter test later))) (sym is)

  pub first_hit_of-anchor : is_some anchor ≡ true → anchor ≡ first_hit_of rules log start from to region
  first_hit_of-anchor some = sym (either ∙ or-some anchor (hit_left rules from to region start log) some)

  pub first_hit_of-over : to ≤ℤ start.instant → anchor ≡ first_hit_of rules log start from to region
  first_hit_of-over over =
      sym (either ∙ ap (option_or anchor) (hit_left-over rules from to region start log over) ∙ option_or-none anchor)

  pub first_hit_of-later : is_some anchor ≡ false →
      hit_left rules from to region start log ≡ first_hit_of rules log start from to region
  first_hit_of-later none = sym (either ∙ or-later anchor (hit_left rules from to region start log) none)

-- where no stop is in the region, all are passed
pub IsDrawnIn-none : (region : Region) (stops : List Stop) → first_among region stops ≡ None →
    IsDrawnIn region stops [] None
IsDrawnIn-none region stops none =
    record { passed = stops; all = sym (append-nil stops); outside = none; inside = tt; end = refl }

-- stops of which none is in the region come first
pub IsDrawnIn-after : (region : Region) (first stops left : List Stop) (hit : Option Stop) →
    first_among region first ≡ None → IsDrawnIn region stops left hit → IsDrawnIn region (first ++ stops) left hit
IsDrawnIn-after region first stops left hit none drawn = record {
  passed = first ++ drawn.passed;
  all = ap (λ s. first ++ s) drawn.all ∙ sym (append_assoc first drawn.passed (option_to_list hit ++ left));
  outside = find-append (λ (stop : Stop). in_region region stop.cell) first drawn.passed ∙ rw (none, drawn.outside) refl;
  inside = drawn.inside;
  end = drawn.end;
}

-- others come after what is left behind a hit
pub IsDrawnIn-before : (region : Region) (stops left later : List Stop) (hit : Stop) →
    IsDrawnIn region stops left (Some hit) → IsDrawnIn region (stops ++ later) (left ++ later) (Some hit)
IsDrawnIn-before region stops left later hit drawn = record {
  passed = drawn.passed;
  all = ap (λ s. s ++ later) drawn.all ∙ append_assoc drawn.passed (hit ∷ left) later;
  outside = drawn.outside;
  inside = drawn.inside;
  end = tt;
}
