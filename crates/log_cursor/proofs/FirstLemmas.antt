-- The first symbol of a log, which is read before the search that begins with it.
use Rattle.std.proofs.Common.{◌≡◌, ℕ, ◌+◌, ◌-◌, ◌<◌, ℤ, ◌≤ℤ◌, ◌<ℤ◌, false, List, [], ◌∷◌, drop, length, Option, Some, None, inl, inr, refl, ap, sym, ◌∙◌, arith}
use Rattle.std.specs.Int.Signed.{le_z}
use Rattle.std.specs.Prelude.{slice_get, slice_index}
use Rattle.std.proofs.lemmas.Bool.{cases_Bool}
use Rattle.std.proofs.lemmas.Int.{ints}
use Rattle.std.proofs.lemmas.List.{get_or-drop, get_or-take, length-drop, length-take}
use Rattle.std.proofs.lemmas.Option.{get_or_from_slice_get, slice_get-get_or, slice_get_past, slice_get_within}
use Rattle.track_types.specs.declared.region.Region.{Region}
use Rattle.track_types.specs.declared.stop.Stop.{Stop}
use Rattle.track_types.proofs.RegionLemmas.{le_z-from, le_z-is}
use Rattle.rule_store.specs.Entry.{entry_of}
use Rattle.rule_store.specs.Flaws.{AreRules}
use Rattle.rule_store.specs.Log.{in_window, log_of, stop_at}
use Rattle.rule_store.specs.View.{RulesView, symbols_in}
use Rattle.rule_store.specs.declared.entry.Entry.{Entry}
use Rattle.rule_store.specs.declared.log_view.LogView.{LogView}
use Rattle.rule_store.proofs.FlawLemmas.{no_flaws, symbol-known}
use Rattle.log_cursor.specs.Descent.{first_needed}
use Rattle.log_cursor.specs.Start.{IsWayOf}
use Rattle.log_cursor.specs.Touching.{first_among, first_hit_of, hit_left}
use Rattle.log_cursor.specs.declared.start.Start.{Start}
use Rattle.log_cursor.proofs.DescentLemmas.{IsPassed, hit-end, passing-first}
use Rattle.log_cursor.proofs.SearchLemmas.{first_hit_of-anchor, first_hit_of-later, first_hit_of-over}
use Rattle.log_cursor.proofs.StackLemmas.{own_symbol}

not-up_to : (a b : ℤ) → b <ℤ a → le_z a b ≡ false
not-up_to a b later = grind (arith, ints)

is-later : (a b : ℤ) → le_z a b ≡ false → b <ℤ a
is-later a b fails = grind (arith, ints)

no-first : (log : List ℕ) → slice_get log 0 ≡ None → log ≡ []
no-first [] none = refl
no-first (symbol ∷ log) some = absurd (cc)

module _ (log : List ℕ) (start : Start) (instant : ℤ) where
  first-late : start.instant <ℤ instant → first_needed log start instant ≡ slice_get log 0
  unfolding first_needed
  first-late late = rw (not-up_to instant start.instant late) refl

  -- none is needed up to the anchor's instant
  pub first-early : instant ≤ℤ start.instant → None ≡ first_needed log start instant
  unfolding first_needed
  first-early early = rw (le_z-from instant start.instant early) refl

  -- and none of no symbols
  pub first-none : start.instant <ℤ instant → length log ≡ 0 → None ≡ first_needed log start instant
  first-none late none = sym (first-late late ∙ slice_get_past log 0 (omega (arith, none)))

  -- the one that is read is needed
  pub first-read : (rules : RulesView) (entry : Entry) → start.instant <ℤ instant → 0 < length log →
      entry ≡ entry_of rules (slice_index log 0) → Some entry.symbol ≡ first_needed log start instant
  first-read rules entry late some is =
      ap Some (own_symbol rules (slice_index log 0) entry is)
      ∙ sym (first-late late ∙ slice_get-get_or log 0 0 some)

  -- what is known of one that is needed
  pub record IsFirst (symbol : ℕ) : Type 0 where
    pub late : start.instant <ℤ instant
    pub some : 0 < length log
    pub is : slice_index log 0 ≡ symbol

  pub first-some : (symbol : ℕ) → Some symbol ≡ first_needed log start instant → IsFirst symbol
  unfolding first_needed
  first-some symbol is = elim (cases_Bool (le_z instant start.instant)) [
    | inl early ↦ let none : Some symbol ≡ None = rw early at is in absurd (cc)
    | inr late ↦
        let read : slice_get log 0 ≡ Some symbol = sym (rw late at is) in
        record {
          late = is-later instant start.instant late;
          some = slice_get_within log 0 symbol read;
          is = get_or_from_slice_get log 0 symbol 0 read;
        }
  ]

  -- a search that begins with none ends at the anchor
  pub first-over : (rules : RulesView) (region : Region) (anchor : Option Stop) →
      anchor ≡ first_among region (in_window instant instant (stop_at start.instant start.cell ∷ [])) →
      None ≡ first_needed log start instant → anchor ≡ first_hit_of rules log start instant instant region
  unfolding first_needed
  first-over rules region (Some stop) is none =
      first_hit_of-anchor rules log start instant instant region (Some stop) is refl
  first-over rules region None is none = elim (cases_Bool (le_z instant start.instant)) [
    | inl early ↦
        first_hit_of-over rules log start instant instant region None is (le_z-is instant start.instant early)
    | inr late ↦
        let empty : log ≡ [] = no-first log (sym (rw late at none)) in
        sym (ap (hit_left rules instant instant region start) empty ∙ hit-end rules instant region start)
        ∙ first_hit_of-later rules log start instant instant region None is refl
  ]

  -- else it has read the first
  pub first-passed : (rules : RulesView) (region : Region) (before symbol : ℕ) (entry : Entry) → IsWayOf rules start log →
      Some symbol ≡ first_needed log start instant → symbol < symbols_in rules → entry ≡ entry_of rules symbol →
      IsPassed rules log start instant region before 0 start entry (before + 1)
  first-passed rules region before symbol entry way needed known is =
      let its = first-some symbol needed in
      record {
        steps = before;
        passing = passing-first rules log start instant region before way its.late;
        inside = its.some;
        is = rw its.is is;
        known = rw its.is known;
        read = omega arith;
      }

-- it is one of the rules' symbols
pub first-known : (view : LogView) (start : Start) (instant : ℤ) (symbol : ℕ) → AreRules view.rules.now →
    Some symbol ≡ first_needed (log_of view) start instant → symbol < symbols_in view.rules.now
first-known view start instant symbol sound needed =
    let its = first-some (log_of view) start instant symbol needed in
    let symbols : List ℕ = view.rules.now.symbols in
    let count = view.from + view.len - view.from in
    let fewer = length-take count (drop view.from symbols) in
    let less = length-drop view.from symbols in
    let stands : slice_index (log_of view) 0 ≡ slice_index symbols (view.from + 0) =
    get_or-take count (drop view.from symbols) 0 0 (omega (arith, its.some, fewer)) ∙ get_or-drop view.from symbols 0 0 in
    rw (sym its.is ∙ stands) (symbol-known (symbols_in view.rules.now) symbols (view.from + 0)
    (no_flaws view.rules.now sound.flawless).symbols (omega (arith, its.some, fewer, less)))
