-- One turn of a walk over a window: a symbol is passed over, is opened, or has the next stop.
use Rattle.std.proofs.Common.{◌≡◌, ℕ, ◌<◌, ◌≤◌, ℤ, pos, ◌+ℤ◌, ◌≤ℤ◌, ◌<ℤ◌, Bool, true, false, List, [], ◌∷◌, ◌++◌, length, filter, map, Option, Some, None, refl, ap, sym, subst, ◌∙◌, arith}
use Rattle.std.specs.Prelude.{IfSome}
use Rattle.std.specs.Option.{is_some, option_to_list}
use Rattle.track_types.specs.declared.cell_box.CellBox.{CellBox}
use Rattle.std.specs.Int.Signed.{le_z}
use Rattle.std.proofs.lemmas.Int.{ints}
use Rattle.std.proofs.lemmas.List.Elements.{filter-append}
use Rattle.list_laws.proofs.MemberLemmas.{filter-none}
use Rattle.track_types.specs.Near.{IsCellAsked}
use Rattle.track_types.specs.Region.{is_between}
use Rattle.track_types.specs.declared.cell.Cell.{Cell}
use Rattle.track_types.specs.declared.stop.Stop.{Stop}
use Rattle.track_types.proofs.RegionLemmas.{is_between-from}
use Rattle.track_types.proofs.RegionLemmas.{le_z-from}
use Rattle.rule_store.specs.View.{RulesView, symbols_in}
use Rattle.rule_store.specs.Expansion.{values_of}
use Rattle.rule_store.specs.Cells.{cells_along}
use Rattle.rule_store.specs.Boxes.{bounding_box_of}
use Rattle.rule_store.specs.Flaws.{left_of, right_of}
use Rattle.rule_store.specs.Log.{block_stops, in_window, log_values, stop_at, stops_after}
use Rattle.rule_store.specs.Nodes.{block_budget, is_opened, nodes_in}
use Rattle.rule_store.proofs.ExpansionLemmas.{values_of-terminal}
use Rattle.rule_store.proofs.LogLemmas.{stops_after-none}
use Rattle.rule_store.proofs.NodeLemmas.{opened_count-none}
use Rattle.log_cursor.specs.Pending.{PendingView}
use Rattle.log_cursor.specs.Start.{start_past}
use Rattle.log_cursor.specs.Walk.{at_rest, nodes_left, walk_from, walk_node, stops_left, walk_of}
use Rattle.log_cursor.specs.declared.start.Start.{Start}
use Rattle.log_cursor.proofs.RuleLemmas.{stops_after-parts}
use Rattle.log_cursor.proofs.StopLemmas.{filter-stops_from, is_between-after, is_between-before, stops_after-first, symbol_stops, symbol_stops-absent, symbol_stops-fail, symbol_stops-terminal}

-- one stop in a window, and one that is not
pub window-none : (from to instant : ℤ) (cell : Cell) → is_between from to instant ≡ false →
    [] ≡ in_window from to (stop_at instant cell ∷ [])
unfolding in_window
window-none from to instant cell out = rw out refl

pub window-one : (from to instant : ℤ) (cell : Cell) → is_between from to instant ≡ true →
    stop_at instant cell ∷ [] ≡ in_window from to (stop_at instant cell ∷ [])
unfolding in_window
window-one from to instant cell between = rw between refl

-- an anchor is as near as the cell where it is
pub near-anchor : (anchor : Option Stop) (cell : Cell) → IsCellAsked cell → IfSome anchor (λ stop. stop.cell ≡ cell) →
    IfSome anchor (λ stop. IsCellAsked stop.cell)
near-anchor None cell near same = tt
near-anchor (Some stop) cell near same = subst IsCellAsked (sym same) near

-- a walk that was begun over a window with an instant
pub walk_of-walk_from : (pending : PendingView) (anchor : Option Stop) (start : Start) (from to : ℤ) (log : List ℕ) →
    pending.symbols ≡ log → pending.unread ≡ length log →
    option_to_list anchor ≡ in_window from to (stop_at start.instant start.cell ∷ []) → from ≤ℤ to →
    walk_of pending anchor start from to ≡ walk_from pending.rules pending.places log start from to
unfolding in_window block_stops block_budget
walk_of-walk_from pending anchor start from to log symbols unread first window =
    let stop = stop_at start.instant start.cell in
    let test : Stop → Bool = λ stop. is_between from to stop.instant in
    let later = stops_after pending.rules start.instant start.cell log in
    let stops : option_to_list anchor ++ filter test later ≡ filter test (stop ∷ later) =
    ap (λ stops. stops ++ filter test later) first ∙ sym (filter-append test (stop ∷ []) later) in
    rw (symbols, unread, le_z-from from to window, stops) refl

-- no symbols have no stops
pub stops_left-end : (rules : RulesView) (from to : ℤ) (start : Start) (symbols : List ℕ) → symbols ≡ [] →
    stops_left rules from to start symbols ≡ []
unfolding in_window
stops_left-end rules from to start symbols end = rw (end, stops_after-none rules start.instant start.cell) refl

-- a walk with nothing left
pub walk_of-none : (pending : PendingView) (start : Start) (from to : ℤ) → pending.symbols ≡ [] → pending.unread ≡ 0 →
    walk_of pending None start from to ≡ at_rest pending.rules pending.places
unfolding nodes_left nodes_in
walk_of-none pending start from to symbols unread =
    rw (
      stops_left-end pending.rules from to start pending.symbols symbols,
      symbols,
      unread,
      opened_count-none pending.rules start.instant from to,
    ) refl

-- a window with no instant has no stops
pub in_window-empty : (from to : ℤ) (stops : List Stop) → to <ℤ from → in_window from to stops ≡ []
unfolding in_window
in_window-empty from to [] empty = refl
in_window-empty from to (stop ∷ stops) empty =
    let none : is_between from to stop.instant ≡ false = grind (arith, ints) in
    rw none (in_window-empty from to stops empty)

-- and in it no rule is opened
pub nodes_left-empty : (rules : RulesView) (log : List ℕ) (start : Start) (from to : ℤ) → le_z from to ≡ false →
    nodes_left rules from to start log ≡ []
unfolding nodes_left
nodes_left-empty rules log start from to none =
    ap (map (walk_node rules start)) (filter-none (is_opened rules start.instant from to) (nodes_in rules log)
    (λ node among. rw none refl))

-- a walk that was begun over it has nothing left
pub walk_from-empty : (rules : RulesView) (places : ℕ × ℕ) (log : List ℕ) (start : Start) (from to : ℤ) → to <ℤ from →
    at_rest rules places ≡ walk_from rules places log start from to
unfolding block_budget
walk_from-empty rules places log start from to empty =
    let none : le_z from to ≡ false = grind (arith, ints) in
    rw (
      in_window-empty from to (block_stops rules start.instant start.cell log) empty,
      nodes_left-empty rules log start from to none,
      none,
    ) refl

-- what a test for a box says
pub none_unless : (hull : Option CellBox) → is_some hull ≡ false → hull ≡ None
none_unless None none = refl
none_unless (Some area) none = absurd (cc)

module _ (rules : RulesView) (from to : ℤ) (start : Start) where
  -- all stops come after the window
  pub stops_left-over : (symbols : List ℕ) → to ≤ℤ start.instant → stops_left rules from to start symbols ≡ []
  unfolding in_window stops_after
  stops_left-over symbols over =
      filter-stops_from (λ stop. is_between from to stop.instant) (start.instant +ℤ pos 1)
      (cells_along start.cell (log_values rules symbols))
      (λ z cell above below. is_between-after from to z (omega (arith, ints)))

  module _ (symbol : ℕ) where
    -- where the symbol leads
    abbrev past : Start
    past = start_past start (values_of rules symbol)

    -- its own stops in the window
    abbrev pub own_stops : List Stop
    own_stops = in_window from to (symbol_stops rules start symbol)

    -- they come before those of the symbols after it
    pub stops_left-cons : (log : List ℕ) →
        stops_left rules from to start (symbol ∷ log) ≡ own_stops ++ stops_left rules from to past log
    unfolding in_window
    stops_left-cons log =
        let test : Stop → Bool = λ stop. is_between from to stop.instant in
        ap (filter test) (stops_after-first rules start symbol log)
        ∙ filter-append test (symbol_stops rules start symbol)
        (stops_after rules past.instant past.cell log)

    -- a symbol before the window has none
    pub own_stops-before : past.instant <ℤ from → own_stops ≡ []
    unfolding in_window
    own_stops-before before =
        symbol_stops-fail rules start symbol (λ stop. is_between from to stop.instant)
        (λ z cell above below. is_between-before from to z (omega (arith, ints, before)))

    -- neither has a symbol of absences
    pub own_stops-absent : bounding_box_of (values_of rules symbol) ≡ None → own_stops ≡ []
    unfolding in_window
    own_stops-absent none = ap (in_window from to) (symbol_stops-absent rules start symbol none)

    -- a terminal in the window, with a box, has one
    pub own_stops-terminal : symbol < length rules.alphabet →
        is_some (bounding_box_of (values_of rules symbol)) ≡ true → start.instant <ℤ to → from ≤ℤ past.instant →
        own_stops ≡ stop_at past.instant past.cell ∷ []
    own_stops-terminal terminal some open_end reached =
        let one = ap length (values_of-terminal rules symbol terminal) in
        let between : is_between from to past.instant ≡ true =
        is_between-from from to past.instant reached (omega (arith, ints, one)) in
        ap (in_window from to) (symbol_stops-terminal rules start symbol terminal some)
        ∙ sym (window-one from to past.instant past.cell between)

    -- a rule has those of its parts
    pub stops_left-parts : (log : List ℕ) → length rules.alphabet ≤ symbol → symbol < symbols_in rules →
        left_of rules symbol < symbol → right_of rules symbol < symbol →
        stops_left rules from to start (symbol ∷ log)
        ≡ stops_left rules from to start (left_of rules symbol ∷ right_of rules symbol ∷ log)
    stops_left-parts log rule known left_below right_below =
        ap (in_window from to)
        (stops_after-parts rules symbol rule known left_below right_below log start.instant start.cell)
