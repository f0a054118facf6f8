-- One turn of a walk: the next symbol is taken off with its entry, and is passed over, is opened, or has the stop that is
-- wanted. What is proved here once serves the drawing of stops and the search of a region.
use Rattle.std.proofs.Common.{◌≡◌, ℕ, suc, ◌+◌, ◌<◌, ◌≤◌, ℤ, pos, ◌+ℤ◌, ◌≤ℤ◌, ◌<ℤ◌, Bool, true, IsTrue, List, [], ◌∷◌, ◌++◌, length, Option, None, refl, ap, append_assoc, sym, subst, ◌∙◌, arith}
use Rattle.std.specs.Option.{is_some}
use Rattle.std.specs.Prelude.{find}
use Rattle.std.proofs.lemmas.Int.{ints}
use Rattle.std.proofs.lemmas.List.Folds.{find-append}
use Rattle.track_types.specs.Region.{in_region}
use Rattle.track_types.specs.declared.cell.Cell.{Cell}
use Rattle.track_types.specs.declared.cell_box.CellBox.{CellBox}
use Rattle.track_types.specs.declared.region.Region.{Region}
use Rattle.track_types.specs.declared.stop.Stop.{Stop}
use Rattle.rule_store.specs.View.{RulesView, symbols_in}
use Rattle.rule_store.specs.Boxes.{bounding_box_of}
use Rattle.rule_store.specs.Cost.{parts_reads}
use Rattle.rule_store.specs.Entry.{entry_of}
use Rattle.rule_store.specs.Expansion.{values_of}
use Rattle.rule_store.specs.Flaws.{AreRules, left_of, right_of}
use Rattle.rule_store.specs.Log.{log_values, stop_at}
use Rattle.rule_store.proofs.ExpansionLemmas.{values_of-terminal}
use Rattle.rule_store.specs.declared.entry.Entry.{Entry}
use Rattle.log_cursor.specs.Needs.{RulesWithin}
use Rattle.log_cursor.specs.Pending.{IsTaken, PendingView}
use Rattle.log_cursor.specs.Start.{IsHullAsked, IsWayOf, start_after, start_past}
use Rattle.log_cursor.specs.Touching.{touches_at}
use Rattle.log_cursor.specs.Turn.{IsWalking, has_hull, is_any, opening_count, opening_rule, turns_left}
use Rattle.log_cursor.specs.Walk.{opened_left, stops_left}
use Rattle.log_cursor.specs.declared.start.Start.{Start}
use Rattle.log_cursor.proofs.HitLemmas.{IsHullAsked-along, held-terminal}
use Rattle.log_cursor.proofs.RuleLemmas.{parts-below}
use Rattle.log_cursor.proofs.TouchLemmas.{opened_left-count, opening_count-later, opening_count-parts, opening_rule-later, opening_rule-own, opening_rule-parts}
use Rattle.log_cursor.proofs.WalkLemmas.{own_stops, own_stops-absent, own_stops-before, own_stops-terminal, stops_left-cons, stops_left-end, stops_left-over, stops_left-parts}
use Rattle.log_cursor.proofs.WayLemmas.{IsWay-front, IsWayOf-parts, hull_is, next-way, start_after-is}

-- where every stop is wanted, none was passed
pub none-passed : (passed : List Stop) → find is_any passed ≡ None → passed ≡ []
none-passed [] none = refl
none-passed (stop ∷ passed) none = absurd (cc)

-- so all are still to come
pub all-left : (stops passed rest : List Stop) → stops ≡ passed ++ rest → find is_any passed ≡ None → stops ≡ rest
all-left stops passed rest all none = rw (none-passed passed none) at all

-- what a walk finds among the stops that it passed and others
pub find-passed : (wanted : Stop → Bool) (stops passed rest : List Stop) → stops ≡ passed ++ rest → find wanted passed ≡ None →
    find wanted stops ≡ find wanted rest
find-passed wanted stops passed rest all none = rw (all, find-append wanted passed rest, none) refl

module _ {wanted : Stop → Bool} {may : Cell → Option CellBox → Bool} {rules : RulesView} {stops : List Stop} {budget : ℕ}
    {from to : ℤ} {old : PendingView} {at : Start} {steps : ℕ}
    (walking : IsWalking wanted may rules stops budget from to old at steps) where
  -- it has found nothing when no symbol is left, or the window ends
  pub walking-end : old.symbols ≡ [] → find wanted stops ≡ None
  walking-end end =
      find-passed wanted stops walking.passed _ walking.all walking.unwanted
      ∙ ap (find wanted) (stops_left-end rules from to at old.symbols end)

  pub walking-over : to ≤ℤ at.instant → find wanted stops ≡ None
  walking-over over =
      find-passed wanted stops walking.passed _ walking.all walking.unwanted
      ∙ ap (find wanted) (stops_left-over rules from to at old.symbols over)

  -- the next symbol was taken off
  module _ {now : PendingView} {entry : Entry} (taken : IsTaken old now entry) where
    pub taken-is : entry ≡ entry_of rules entry.symbol
    taken-is = rw walking.same at taken.is

    pub taken-way : IsWayOf rules at (entry.symbol ∷ now.symbols)
    taken-way = subst (IsWayOf rules at) taken.symbols walking.way

    -- it leads to a place within the numbers
    pub taken-next : IsWayOf rules (start_after at entry) now.symbols
    taken-next = next-way rules at entry now.symbols taken-is taken-way

    -- and its box is near where it is placed
    pub taken-near : IsHullAsked at.cell entry.hull
    unfolding log_values
    taken-near =
        IsHullAsked-along at.cell (values_of rules entry.symbol) entry.hull (hull_is rules entry entry.symbol taken-is)
        (IsWay-front at (values_of rules entry.symbol) (log_values rules now.symbols) taken-way).cells

-- what is left where every stop is wanted
pub walking-view : {rules : RulesView} {stops : List Stop} {budget : ℕ} {from to : ℤ} {old : PendingView} {at : Start}
    {steps : ℕ} → IsWalking is_any has_hull rules stops budget from to old at steps → (now : PendingView) (reads : ℕ) →
    now.rules ≡ old.rules → now.symbols ≡ old.symbols → reads + now.unread ≤ steps + old.unread →
    (stops ≡ stops_left now.rules from to at now.symbols)
    × (reads + (now.unread + opened_left now.rules from to at now.symbols) ≤ budget)
walking-view {rules} {stops} {budget} {from} {to} {old} {at} {steps} walking now reads same symbols cost =
    let rules_are : now.rules ≡ rules = same ∙ walking.same in
    rw (rules_are, symbols) (
      all-left stops walking.passed _ walking.all walking.unwanted,
      omega (arith, walking.reads, cost, opened_left-count rules from to at old.symbols),
    )

-- the next symbol was taken off, at a read if it is one of the log, and leads to the next place
pub record IsTurn (wanted : Stop → Bool) (may : Cell → Option CellBox → Bool) (rules : RulesView) (stops : List Stop)
    (budget : ℕ) (from to : ℤ) (old now : PendingView) (at next : Start) (steps reads : ℕ) (entry : Entry) : Type 0 where
  pub walking : IsWalking wanted may rules stops budget from to old at steps
  pub taken : IsTaken old now entry
  pub same : now.rules ≡ old.rules
  pub cost : reads + now.unread ≤ steps + old.unread
  pub leads : next ≡ start_after at entry

module _ {wanted : Stop → Bool} {may : Cell → Option CellBox → Bool} {rules : RulesView} {stops : List Stop} {budget : ℕ}
    {from to : ℤ} {old now : PendingView} {at next : Start} {steps reads : ℕ} {entry : Entry}
    (turn : IsTurn wanted may rules stops budget from to old now at next steps reads entry) where
  abbrev walking : IsWalking wanted may rules stops budget from to old at steps
  walking = turn.walking

  pub past_is : next ≡ start_past at (values_of rules entry.symbol)
  past_is = turn.leads ∙ start_after-is rules at entry entry.symbol (taken-is walking turn.taken)

  pub turn-hull : entry.hull ≡ bounding_box_of (values_of rules entry.symbol)
  turn-hull = hull_is rules entry entry.symbol (taken-is walking turn.taken)

  pub turn-rules : now.rules ≡ rules
  turn-rules = turn.same ∙ walking.same

  -- it ends no earlier than it begins, and a terminal ends an instant later
  pub turn-onward : at.instant ≤ℤ next.instant
  turn-onward = rw past_is (omega (arith, ints))

  pub turn-one : entry.symbol < length now.rules.alphabet → next.instant ≡ at.instant +ℤ pos 1
  turn-one terminal =
      let one = ap length (values_of-terminal rules entry.symbol (rw turn-rules at terminal)) in
      rw past_is (omega (arith, ints, one))

  pub turn-way : IsWayOf rules next now.symbols
  turn-way = rw turn.leads (taken-next walking turn.taken)

  -- the symbol's own stops come next, and then those of the others
  split : stops ≡ walking.passed ++ (own_stops rules from to at entry.symbol ++ stops_left rules from to next now.symbols)
  split =
      let first : stops_left rules from to at old.symbols ≡ stops_left rules from to at (entry.symbol ∷ now.symbols) =
      ap (λ s. stops_left rules from to at s) turn.taken.symbols in
      let both : stops_left rules from to at (entry.symbol ∷ now.symbols)
      ≡ own_stops rules from to at entry.symbol ++ stops_left rules from to next now.symbols =
      rw past_is (stops_left-cons rules from to at entry.symbol now.symbols) in
      walking.all ∙ ap (λ s. walking.passed ++ s) (first ∙ both)

  fewer : opening_count rules may from to next now.symbols ≤ opening_count rules may from to at old.symbols
  fewer = rw (past_is, turn.taken.symbols) (opening_count-later rules from to may at entry.symbol now.symbols)

  -- what is opened of the others was to be opened before
  pub turn-rules-left : RulesWithin (opening_rule rules may from to next now.symbols)
      (opening_rule rules may from to at old.symbols)
  turn-rules-left = rw (past_is, turn.taken.symbols) (opening_rule-later rules from to may at entry.symbol now.symbols)

  pub turn-reads : reads + (now.unread + opening_count rules may from to next now.symbols) ≤ budget
  turn-reads = omega (arith, walking.reads, turn.cost, fewer)

  pub turn-fewer : turns_left rules may from to next now.symbols < turns_left rules may from to at old.symbols
  turn-fewer = let long = ap length turn.taken.symbols in omega (arith, long, fewer)

  -- it is passed over, where none of its stops in the window is wanted
  pub turn-over : find wanted (own_stops rules from to at entry.symbol) ≡ None →
      IsWalking wanted may rules stops budget from to now next reads
  turn-over none = record {
    passed = walking.passed ++ own_stops rules from to at entry.symbol;
    same = turn-rules;
    window = walking.window;
    way = turn-way;
    all = split ∙ sym (append_assoc walking.passed (own_stops rules from to at entry.symbol) _);
    unwanted = find-append wanted walking.passed (own_stops rules from to at entry.symbol)
        ∙ rw (walking.unwanted, none) refl;
    reads = turn-reads;
  }

  pub turn-before : next.instant <ℤ from → IsWalking wanted may rules stops budget from to now next reads
  turn-before ended =
      turn-over (ap (find wanted) (own_stops-before rules from to at entry.symbol (rw past_is at ended)))

  pub turn-absent : entry.hull ≡ None → IsWalking wanted may rules stops budget from to now next reads
  turn-absent none =
      turn-over (ap (find wanted) (own_stops-absent rules from to at entry.symbol (sym turn-hull ∙ none)))

  module _ (open_end : at.instant <ℤ to) (reached : from ≤ℤ next.instant) where
    -- a terminal in the window, with a box, has the next stop
    pub turn-stop : entry.symbol < length now.rules.alphabet → is_some entry.hull ≡ true →
        stops ≡ walking.passed ++ (stop_at next.instant next.cell ∷ stops_left rules from to next now.symbols)
    turn-stop terminal some =
        let one : own_stops rules from to at entry.symbol ≡ stop_at next.instant next.cell ∷ [] =
        rw past_is (own_stops-terminal rules from to at entry.symbol (rw turn-rules at terminal) (rw turn-hull at some)
        open_end (rw past_is at reached)) in
        split ∙ ap (λ s. walking.passed ++ (s ++ stops_left rules from to next now.symbols)) one

    -- it is in a region of which its box has a cell
    pub turn-held : (region : Region) → entry.symbol < length now.rules.alphabet →
        touches_at region at.cell entry.hull ≡ true → in_region region next.cell ≡ true
    turn-held region terminal touches =
        rw past_is (held-terminal region rules at entry.symbol (rw turn-rules at terminal) (rw turn-hull at touches))

    -- a rule whose box passes
    module _ (passes : may at.cell entry.hull ≡ true) (sound : AreRules now.rules)
        (rule : length now.rules.alphabet ≤ entry.symbol) where
      is_rule : length rules.alphabet ≤ entry.symbol
      is_rule = rw turn-rules at rule

      known : entry.symbol < symbols_in rules
      known = rw walking.same at turn.taken.roomy.known

      below : (left_of rules entry.symbol < entry.symbol) × (right_of rules entry.symbol < entry.symbol)
      below = parts-below rules entry.symbol (rw turn-rules at sound) is_rule known

      -- is one that was to be opened
      pub turn-own : IsTrue (opening_rule rules may from to at old.symbols entry.symbol)
      turn-own =
          rw turn.taken.symbols (opening_rule-own rules from to may entry.symbol now.symbols is_rule known below.0 below.1 at
          walking.window open_end (rw past_is at reached) (rw turn-hull at passes))

      -- and was opened
      module _ (later : PendingView) (after : ℕ) (same : later.rules ≡ now.rules)
          (symbols : later.symbols ≡ left_of now.rules entry.symbol ∷ right_of now.rules entry.symbol ∷ now.symbols)
          (unread : later.unread ≡ now.unread) (read : after ≡ reads + parts_reads) where
        abbrev parts : List ℕ
        parts = left_of rules entry.symbol ∷ right_of rules entry.symbol ∷ now.symbols

        parts_are : later.symbols ≡ parts
        parts_are = rw turn-rules at symbols

        one_less : opening_count rules may from to at old.symbols ≡ suc (opening_count rules may from to at later.symbols)
        one_less =
            rw (turn.taken.symbols, parts_are) (opening_count-parts rules from to may entry.symbol now.symbols is_rule known
            below.0 below.1 at walking.window open_end (rw past_is at reached) (rw turn-hull at passes))

        pub turn-opened : IsWalking wanted may rules stops budget from to later at after
        turn-opened = record {
          passed = walking.passed;
          same = same ∙ turn-rules;
          window = walking.window;
          way = rw parts_are (IsWayOf-parts rules entry.symbol now.symbols is_rule known below.0 below.1 at
              (taken-way walking turn.taken));
          all = rw parts_are (walking.all
              ∙ ap (λ s. walking.passed ++ stops_left rules from to at s) turn.taken.symbols
              ∙ ap (λ s. walking.passed ++ s) (stops_left-parts rules from to at entry.symbol now.symbols is_rule known
              below.0 below.1));
          unwanted = walking.unwanted;
          reads = omega (arith, walking.reads, turn.cost, one_less, unread, read);
        }

        pub turn-opened-fewer : turns_left rules may from to at later.symbols < turns_left rules may from to at old.symbols
        turn-opened-fewer =
            let long = ap length turn.taken.symbols in let two = ap length parts_are in omega (arith, long, two, one_less)

        -- what is opened of its parts was to be opened before
        pub turn-opened-rules : RulesWithin (opening_rule rules may from to at later.symbols)
            (opening_rule rules may from to at old.symbols)
        turn-opened-rules =
            rw (turn.taken.symbols, parts_are) (opening_rule-parts rules from to may entry.symbol now.symbols is_rule known
            below.0 below.1 at)
