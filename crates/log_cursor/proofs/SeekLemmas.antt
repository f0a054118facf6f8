-- The cell at an instant, symbol by symbol.
use Rattle.std.proofs.Common.{◌≡◌, ℕ, drop, max, ◌+◌, ◌<◌, ◌≤◌, ℤ, pos, ◌+ℤ◌, ◌≤ℤ◌, ◌<ℤ◌, true, IsTrue, List, [], ◌∷◌, ◌++◌, length, filter, Some, None, refl, ap, add-one, sym, subst, ◌∙◌, arith}
use Rattle.std.specs.Option.{is_some}
use Rattle.std.specs.Ordering.{int_eq}
use Rattle.std.specs.Prelude.{slice_index}
use Rattle.std.proofs.Math.ListN.{drop_of_length-le}
use Rattle.std.proofs.Math.Seq.{drop-cons}
use Rattle.std.proofs.lemmas.Int.{ints}
use Rattle.std.proofs.lemmas.Bool.Decides.{Decides-int_eq}
use Rattle.std.proofs.lemmas.List.{length-append}
use Rattle.std.proofs.lemmas.List.Elements.{filter-append}
use Rattle.list_laws.proofs.OrderedLemmas.{find-filter}
use Rattle.track_types.specs.declared.stop.Stop.{Stop}
use Rattle.rule_store.specs.View.{RulesView, symbols_in}
use Rattle.rule_store.specs.Expansion.{depth_of, values_of}
use Rattle.rule_store.specs.Cells.{cells_along}
use Rattle.rule_store.specs.Boxes.{bounding_box_of}
use Rattle.rule_store.specs.Cost.{parts_reads}
use Rattle.rule_store.specs.Entry.{entry_of}
use Rattle.rule_store.specs.Flaws.{AreRules, left_of, right_of}
use Rattle.rule_store.specs.declared.entry.Entry.{Entry}
use Rattle.rule_store.specs.Log.{block_stops, log_values, stops_after}
use Rattle.rule_store.proofs.ExpansionLemmas.{values_of-terminal}
use Rattle.rule_store.proofs.LogLemmas.{stops_after-none}
use Rattle.log_cursor.specs.Needs.{RulesWithin}
use Rattle.log_cursor.specs.Seek.{IsInside, IsSeeking, cell_among, is_stop_at}
use Rattle.log_cursor.specs.Start.{IsStart, IsWayOf, start_after, start_past}
use Rattle.log_cursor.specs.Touching.{holding_rule}
use Rattle.log_cursor.specs.Turn.{has_hull, opening_rule}
use Rattle.log_cursor.specs.declared.start.Start.{Start}
use Rattle.log_cursor.proofs.RuleLemmas.{depth_of-parts, parts-below, stops_after-parts, values_of-parts}
use Rattle.log_cursor.proofs.StackLemmas.{own_entry, own_symbol}
use Rattle.log_cursor.proofs.TouchLemmas.{opening_rule-first, opening_rule-later, opening_rule-own, opening_rule-parts}
use Rattle.log_cursor.proofs.WayLemmas.{IsWayOf-first, IsWayOf-parts, hull_is, next-way, start_after-is}
use Rattle.log_cursor.proofs.StopLemmas.{filter-stops_from, int_eq-apart, stops_after-first, symbol_stops, symbol_stops-absent, symbol_stops-fail, symbol_stops-terminal}

-- where the same stops pass, the cell is the same
pub cell_among-same : (stops others : List Stop) (instant : ℤ) →
    filter (is_stop_at instant) stops ≡ filter (is_stop_at instant) others →
    cell_among stops instant ≡ cell_among others instant
unfolding cell_among
cell_among-same stops others instant same =
    rw (find-filter (is_stop_at instant) stops, find-filter (is_stop_at instant) others, same) refl

module _ (rules : RulesView) (instant : ℤ) (start : Start) where
  -- all stops come after the instant
  kept-early : (symbols : List ℕ) → instant ≤ℤ start.instant →
      filter (is_stop_at instant) (stops_after rules start.instant start.cell symbols) ≡ []
  unfolding stops_after
  kept-early symbols early =
      filter-stops_from (is_stop_at instant) (start.instant +ℤ pos 1)
      (cells_along start.cell (log_values rules symbols))
      (λ z cell above below. int_eq-apart instant z (λ same. absurd (omega (arith, ints, same))))

  -- before a block there is no cell
  pub cell_among-early : (log : List ℕ) → instant <ℤ start.instant →
      cell_among (block_stops rules start.instant start.cell log) instant ≡ None
  unfolding block_stops cell_among
  cell_among-early log early =
      let apart = int_eq-apart instant start.instant (λ same. absurd (omega (arith, ints, same))) in
      cell_among-same (block_stops rules start.instant start.cell log) [] instant
      (rw apart (kept-early log (omega (arith, ints))))

  -- at the anchor it is the start's
  pub cell_among-anchor : (log : List ℕ) → instant ≡ start.instant →
      cell_among (block_stops rules start.instant start.cell log) instant ≡ Some start.cell
  unfolding block_stops cell_among
  cell_among-anchor log same = rw ((Decides-int_eq instant start.instant).1 same) refl

  -- after it it is among the stops of the log
  pub cell_among-log : (log : List ℕ) → start.instant <ℤ instant →
      cell_among (stops_after rules start.instant start.cell log) instant
      ≡ cell_among (block_stops rules start.instant start.cell log) instant
  unfolding block_stops cell_among
  cell_among-log log late = rw (int_eq-apart instant start.instant (λ same. absurd (omega (arith, ints, same)))) refl

  pub cell_among-end : cell_among (stops_after rules start.instant start.cell []) instant ≡ None
  unfolding cell_among
  cell_among-end = ap (λ stops. cell_among stops instant) (stops_after-none rules start.instant start.cell)

module _ (rules : RulesView) (instant : ℤ) (start : Start) (symbol : ℕ) where
  abbrev past : Start
  past = start_past start (values_of rules symbol)

  -- those of a symbol come before those of the others
  kept : (log : List ℕ) →
      filter (is_stop_at instant) (stops_after rules start.instant start.cell (symbol ∷ log))
      ≡ filter (is_stop_at instant) (symbol_stops rules start symbol)
      ++ filter (is_stop_at instant) (stops_after rules past.instant past.cell log)
  kept log =
      ap (filter (is_stop_at instant)) (stops_after-first rules start symbol log)
      ∙ filter-append (is_stop_at instant) (symbol_stops rules start symbol) (stops_after rules past.instant past.cell log)

  -- after a symbol, it is among the stops of those that follow
  pub cell_among-past : (log : List ℕ) → past.instant <ℤ instant →
      cell_among (stops_after rules start.instant start.cell (symbol ∷ log)) instant
      ≡ cell_among (stops_after rules past.instant past.cell log) instant
  cell_among-past log late =
      let none = symbol_stops-fail rules start symbol (is_stop_at instant)
      (λ z cell above below. int_eq-apart instant z (λ same. absurd (omega (arith, ints, same, late)))) in
      cell_among-same (stops_after rules start.instant start.cell (symbol ∷ log))
      (stops_after rules past.instant past.cell log) instant (rw (kept log, none) refl)

  -- within a symbol, it is among the symbol's own stops
  pub cell_among-within : (log : List ℕ) → instant ≤ℤ past.instant →
      cell_among (stops_after rules start.instant start.cell (symbol ∷ log)) instant
      ≡ cell_among (stops_after rules start.instant start.cell (symbol ∷ [])) instant
  cell_among-within log early =
      cell_among-same (stops_after rules start.instant start.cell (symbol ∷ log))
      (stops_after rules start.instant start.cell (symbol ∷ [])) instant
      (rw (kept log, kept [], kept-early rules instant past log early, kept-early rules instant past [] early) refl)

  -- a symbol of absences has none
  pub cell_among-absent : bounding_box_of (values_of rules symbol) ≡ None →
      cell_among (stops_after rules start.instant start.cell (symbol ∷ [])) instant ≡ None
  cell_among-absent none =
      rw (stops_after-first rules start symbol [], symbol_stops-absent rules start symbol none)
      (cell_among-end rules instant past)

  -- a terminal with a box has the cell to which it leads
  pub cell_among-terminal : symbol < length rules.alphabet →
      is_some (bounding_box_of (values_of rules symbol)) ≡ true → start.instant <ℤ instant →
      instant ≤ℤ past.instant →
      cell_among (stops_after rules start.instant start.cell (symbol ∷ [])) instant ≡ Some past.cell
  unfolding cell_among
  cell_among-terminal terminal some late early =
      let one = ap length (values_of-terminal rules symbol terminal) in
      let here : int_eq instant past.instant ≡ true =
      (Decides-int_eq instant past.instant).1 (omega (arith, ints, one, late, early)) in
      rw (stops_after-first rules start symbol [], symbol_stops-terminal rules start symbol terminal some, here) refl

  -- the rules that hold it in the symbols after the first one hold it in all
  pub holding_rule-later : (log : List ℕ) →
      RulesWithin (holding_rule rules past log instant) (holding_rule rules start (symbol ∷ log) instant)
  unfolding holding_rule opening_rule
  holding_rule-later log = opening_rule-later rules instant instant has_hull start symbol log

  -- so do those that hold it in the first one
  pub holding_rule-first : (log : List ℕ) →
      RulesWithin (holding_rule rules start (symbol ∷ []) instant) (holding_rule rules start (symbol ∷ log) instant)
  unfolding holding_rule opening_rule
  holding_rule-first log = opening_rule-first rules instant instant has_hull start symbol log

  -- a rule
  module _ (rule : length rules.alphabet ≤ symbol) (known : symbol < symbols_in rules)
      (left_below : left_of rules symbol < symbol) (right_below : right_of rules symbol < symbol) where
    -- holds it where it has it, and a box
    pub holding_rule-own : start.instant <ℤ instant → instant ≤ℤ past.instant →
        is_some (bounding_box_of (values_of rules symbol)) ≡ true → IsTrue (holding_rule rules start (symbol ∷ []) instant symbol)
    unfolding holding_rule opening_rule
    holding_rule-own late early some =
        opening_rule-own rules instant instant has_hull symbol [] rule known left_below right_below start
        (omega (arith, ints)) late early some

    -- and so do those that hold it in its two parts
    pub holding_rule-parts :
        RulesWithin (holding_rule rules start (left_of rules symbol ∷ right_of rules symbol ∷ []) instant)
        (holding_rule rules start (symbol ∷ []) instant)
    unfolding holding_rule opening_rule
    holding_rule-parts =
        opening_rule-parts rules instant instant has_hull symbol [] rule known left_below right_below start

-- the length of what a symbol of an entry stands for
length_is : (rules : RulesView) (entry : Entry) (symbol : ℕ) → entry ≡ entry_of rules symbol →
    entry.duration ≡ length (values_of rules symbol)
unfolding entry_of
length_is rules entry symbol is = ap (λ (e : Entry). e.duration) is

-- a search in a symbol
module _ {rules : RulesView} {outer : ℕ} {start : Start} {instant : ℤ} {before : ℕ} {inner : Entry} {at : Start}
    {steps : ℕ} (inside : IsInside rules outer start instant before inner at steps) where
  pub inside-start : IsStart (start_after at inner)
  inside-start = (next-way rules at inner [] inside.is inside.way).start_is

  -- a terminal has the cell
  pub inside-found : (next : Start) → next ≡ start_after at inner → inner.symbol < length rules.alphabet →
      is_some inner.hull ≡ true →
      Some next.cell ≡ cell_among (stops_after rules start.instant start.cell (outer ∷ [])) instant
  inside-found next leads terminal some =
      let past_is : next ≡ start_past at (values_of rules inner.symbol) =
      leads ∙ start_after-is rules at inner inner.symbol inside.is in
      let within : instant ≤ℤ next.instant = rw leads inside.within in
      let its = rw (hull_is rules inner inner.symbol inside.is) at some in
      rw past_is (sym (cell_among-terminal rules instant at inner.symbol terminal its inside.after (rw past_is at within)))
      ∙ inside.same

  -- a symbol of absences has none
  pub inside-absent : inner.hull ≡ None →
      None ≡ cell_among (stops_after rules start.instant start.cell (outer ∷ [])) instant
  inside-absent none =
      sym (cell_among-absent rules instant at inner.symbol
      (sym (hull_is rules inner inner.symbol inside.is) ∙ none))
      ∙ inside.same

  -- a rule with a box holds it
  pub inside-opens : AreRules rules → length rules.alphabet ≤ inner.symbol → is_some inner.hull ≡ true →
      IsTrue (holding_rule rules start (outer ∷ []) instant inner.symbol)
  inside-opens sound rule some =
      let below = parts-below rules inner.symbol sound rule inside.known in
      let long = length_is rules inner inner.symbol inside.is in
      let reached : instant ≤ℤ (start_past at (values_of rules inner.symbol)).instant =
      omega (arith, ints, long, inside.within) in
      let its = rw (hull_is rules inner inner.symbol inside.is) at some in
      inside.opens inner.symbol
      (holding_rule-own rules instant at inner.symbol rule inside.known below.0 below.1 inside.after reached its)

-- a rule was opened, and its two parts were read
pub record IsOpened (rules : RulesView) (outer : ℕ) (start : Start) (instant : ℤ) (before : ℕ) (inner : Entry) (at : Start)
    (left right : Entry) (after : ℕ) : Type 0 where
  pub steps : ℕ
  pub inside : IsInside rules outer start instant before inner at steps
  pub rule : length rules.alphabet ≤ inner.symbol
  pub left_below : left_of rules inner.symbol < inner.symbol
  pub right_below : right_of rules inner.symbol < inner.symbol
  pub left_is : left ≡ entry_of rules (left_of rules inner.symbol)
  pub right_is : right ≡ entry_of rules (right_of rules inner.symbol)
  pub read : after ≡ steps + parts_reads

-- one of the parts has the cell
module _ {rules : RulesView} {outer : ℕ} {start : Start} {instant : ℤ} {before : ℕ} {inner : Entry} {at : Start}
    {left right : Entry} {after : ℕ} (opened : IsOpened rules outer start instant before inner at left right after) where
  abbrev inside : IsInside rules outer start instant before inner at opened.steps
  inside = opened.inside

  one : left.symbol ≡ left_of rules inner.symbol
  one = own_symbol rules (left_of rules inner.symbol) left opened.left_is

  other : right.symbol ≡ right_of rules inner.symbol
  other = own_symbol rules (right_of rules inner.symbol) right opened.right_is

  own : left ≡ entry_of rules left.symbol
  own = own_entry rules (left_of rules inner.symbol) left opened.left_is

  ways : IsWayOf rules at (left.symbol ∷ right.symbol ∷ [])
  ways =
      rw (one, other)
      (IsWayOf-parts rules inner.symbol [] opened.rule inside.known opened.left_below opened.right_below at inside.way)

  both : cell_among (stops_after rules at.instant at.cell (left.symbol ∷ right.symbol ∷ [])) instant
      ≡ cell_among (stops_after rules start.instant start.cell (outer ∷ [])) instant
  both =
      rw (
        one,
        other,
        ← stops_after-parts rules inner.symbol opened.rule inside.known opened.left_below
            opened.right_below [] at.instant at.cell,
      ) inside.same

  depth : depth_of rules inner.symbol ≡ 1 + max (depth_of rules left.symbol) (depth_of rules right.symbol)
  depth =
      rw (one, other)
      (depth_of-parts rules inner.symbol opened.rule inside.known opened.left_below opened.right_below)

  both_hold : RulesWithin (holding_rule rules at (left.symbol ∷ right.symbol ∷ []) instant)
      (holding_rule rules start (outer ∷ []) instant)
  both_hold =
      rw (one, other) (λ rule holds. inside.opens rule
      (holding_rule-parts rules instant at inner.symbol opened.rule inside.known opened.left_below opened.right_below rule holds))

  sum : inner.duration ≡ left.duration + right.duration
  sum =
      rw (
        length_is rules inner inner.symbol inside.is,
        length_is rules left _ opened.left_is,
        length_is rules right _ opened.right_is,
        values_of-parts rules inner.symbol opened.rule inside.known opened.left_below opened.right_below,
      )
      (length-append (values_of rules (left_of rules inner.symbol)) (values_of rules (right_of rules inner.symbol)))

  pub inside-left_smaller : left.symbol < inner.symbol
  inside-left_smaller = omega (arith, one, opened.left_below)

  pub inside-right_smaller : right.symbol < inner.symbol
  inside-right_smaller = omega (arith, other, opened.right_below)

  pub inside-middle : IsStart (start_after at left)
  inside-middle = (next-way rules at left (right.symbol ∷ []) own ways).start_is

  module _ {middle : Start} (leads : middle ≡ start_after at left) where
    past_is : middle ≡ start_past at (values_of rules left.symbol)
    past_is = leads ∙ start_after-is rules at left left.symbol own

    pub inside-left : instant ≤ℤ middle.instant → IsInside rules outer start instant before left at after
    inside-left first = record {
      known = omega (arith, inside-left_smaller, inside.known);
      is = own;
      way = IsWayOf-first rules left.symbol (right.symbol ∷ []) at ways;
      after = inside.after;
      within = rw leads at first;
      same = sym (cell_among-within rules instant at left.symbol (right.symbol ∷ []) (rw past_is at first)) ∙ both;
      cost = omega (arith, depth, opened.read, inside.cost);
      opens = λ rule holds. both_hold rule (holding_rule-first rules instant at left.symbol (right.symbol ∷ []) rule holds);
    }

    pub inside-right : middle.instant <ℤ instant → IsInside rules outer start instant before right middle after
    inside-right second = record {
      known = omega (arith, inside-right_smaller, inside.known);
      is = own_entry rules (right_of rules inner.symbol) right opened.right_is;
      way = rw leads (next-way rules at left (right.symbol ∷ []) own ways);
      after = second;
      within = rw leads (omega (arith, ints, sum, inside.within));
      same = rw past_is (sym (cell_among-past rules instant at left.symbol (right.symbol ∷ []) (rw past_is at second))) ∙ both;
      cost = omega (arith, depth, opened.read, inside.cost);
      opens = rw past_is (λ rule holds. both_hold rule
          (holding_rule-later rules instant at left.symbol (right.symbol ∷ []) rule holds));
    }

-- a search in a log, at the symbol of a place, which was read
pub record IsReading (rules : RulesView) (log : List ℕ) (start : Start) (instant : ℤ) (before i : ℕ) (at : Start)
    (entry : Entry) (after : ℕ) : Type 0 where
  pub steps : ℕ
  pub seeking : IsSeeking rules log start instant before i at steps
  pub within : i < length log
  pub is : entry ≡ entry_of rules (slice_index log i)
  pub known : slice_index log i < symbols_in rules
  pub read : after ≤ steps + 1

module _ {rules : RulesView} {log : List ℕ} {start : Start} {instant : ℤ} {before i : ℕ} {at : Start} {entry : Entry}
    {after : ℕ} (reading : IsReading rules log start instant before i at entry after) where
  own_is : entry.symbol ≡ slice_index log i
  own_is = own_symbol rules (slice_index log i) entry reading.is

  split : drop i log ≡ entry.symbol ∷ drop (i + 1) log
  split = rw (own_is, add-one) (drop-cons log i 0 reading.within)

  way : IsWayOf rules at (entry.symbol ∷ drop (i + 1) log)
  way = subst (IsWayOf rules at) split reading.seeking.way

  rest : cell_among (stops_after rules at.instant at.cell (entry.symbol ∷ drop (i + 1) log)) instant
      ≡ cell_among (block_stops rules start.instant start.cell log) instant
  rest = ap (λ s. cell_among (stops_after rules at.instant at.cell s) instant) (sym split) ∙ reading.seeking.same

  rest_holds : RulesWithin (holding_rule rules at (entry.symbol ∷ drop (i + 1) log) instant)
      (holding_rule rules start log instant)
  rest_holds = rw split at reading.seeking.opens

  pub seeking-entry : entry ≡ entry_of rules entry.symbol
  seeking-entry = own_entry rules (slice_index log i) entry reading.is

  pub seeking-known : entry.symbol < symbols_in rules
  seeking-known = rw own_is reading.known

  pub seeking-start : IsStart (start_after at entry)
  seeking-start = (next-way rules at entry (drop (i + 1) log) seeking-entry way).start_is

  pub seeking-way : IsWayOf rules at (entry.symbol ∷ [])
  seeking-way = IsWayOf-first rules entry.symbol (drop (i + 1) log) at way

  pub seeking-opens : RulesWithin (holding_rule rules at (entry.symbol ∷ []) instant) (holding_rule rules start log instant)
  seeking-opens = λ rule holds. rest_holds rule (holding_rule-first rules instant at entry.symbol (drop (i + 1) log) rule holds)

  module _ {next : Start} (leads : next ≡ start_after at entry) where
    leads_to : next ≡ start_past at (values_of rules entry.symbol)
    leads_to = leads ∙ start_after-is rules at entry entry.symbol seeking-entry

    -- it is that of the symbol, if the symbol reaches the instant
    pub seeking-found : instant ≤ℤ next.instant →
        cell_among (stops_after rules at.instant at.cell (entry.symbol ∷ [])) instant
        ≡ cell_among (block_stops rules start.instant start.cell log) instant
    seeking-found reached =
        sym (cell_among-within rules instant at entry.symbol (drop (i + 1) log) (rw leads_to at reached)) ∙ rest

    -- and else comes after it
    pub seeking-next : next.instant <ℤ instant → IsSeeking rules log start instant before (i + 1) next after
    seeking-next ended = record {
      way = rw leads (next-way rules at entry (drop (i + 1) log) seeking-entry way);
      after = ended;
      same = rw leads_to (sym (cell_among-past rules instant at entry.symbol (drop (i + 1) log) (rw leads_to at ended)))
          ∙ rest;
      cost = omega (arith, reading.read, reading.seeking.cost);
      opens = rw leads_to (λ rule holds. rest_holds rule
          (holding_rule-later rules instant at entry.symbol (drop (i + 1) log) rule holds));
    }

-- a search begins after the anchor
pub seeking-first : (rules : RulesView) (log : List ℕ) (start : Start) (instant : ℤ) (before : ℕ) →
    IsWayOf rules start log → start.instant <ℤ instant → IsSeeking rules log start instant before 0 start before
seeking-first rules log start instant before way late = record {
  way = way;
  after = late;
  same = cell_among-log rules instant start log late;
  cost = omega arith;
  opens = λ rule holds. holds;
}

-- and ends after the log
pub seeking-last : {rules : RulesView} {log : List ℕ} {start : Start} {instant : ℤ} {before i : ℕ} {at : Start}
    {steps : ℕ} → IsSeeking rules log start instant before i at steps → length log ≤ i →
    None ≡ cell_among (block_stops rules start.instant start.cell log) instant
seeking-last {rules} {log} {start} {instant} {before} {i} {at} seeking end =
    sym (cell_among-end rules instant at) ∙ (rw (drop_of_length-le log end) at seeking.same)
