-- What is left of one block: its next node, and what comes after it.
use Rattle.std.specs.Prelude.{◌≡◌, ℕ, ◌+◌, ◌*◌, ◌<◌, pos, ◌+ℤ◌, ◌≤ℤ◌, ◌<ℤ◌, Bool, true, false, if◌then◌else◌, nat_le, List, [], ◌∷◌, ◌++◌, length, map, All, Option, Some, None, ⊤}
use Rattle.std.specs.Option.{is_some}
use Rattle.track_types.specs.Region.{in_box}
use Rattle.track_types.specs.declared.cell.Cell.{Cell}
use Rattle.track_types.specs.declared.cell_box.CellBox.{CellBox}
use Rattle.track_types.specs.declared.stop.Stop.{Stop}
use Rattle.rule_store.specs.View.{RulesView}
use Rattle.rule_store.specs.Cells.{cells_along}
use Rattle.rule_store.specs.Entry.{entry_of}
use Rattle.rule_store.specs.Expansion.{expansion_of, values_of}
use Rattle.rule_store.specs.Flaws.{AreRules}
use Rattle.rule_store.specs.Log.{stop_at, stops_after, stops_from}
use Rattle.rule_store.specs.Nodes.{parsed}
use Rattle.rule_store.specs.declared.entry.Entry.{Entry}
use Rattle.log_cursor.specs.Pending.{IsRoomy, PendingView}
use Rattle.log_cursor.specs.Start.{IsWayOf, start_after, start_past}
use Rattle.log_cursor.specs.declared.start.Start.{Start}
use Rattle.encounter.specs.Span.{Span, BlockTree, span_along, span_at, node_span, spans_in}

-- The next node of a block: its span, where it leads, whether it is a rule, its own stops and rule nodes, and what
-- comes after it. Then the rules, where the symbols of the log stand, how many of them are still to be read, and a
-- measure of what remains, which each turn makes less.
pub record PartyView : Type 0 where
  pub top : Span
  pub cell : Cell
  pub opens : Bool
  pub own : BlockTree
  pub later : BlockTree
  pub rules : RulesView
  pub places : ℕ × ℕ
  pub unread : ℕ
  pub size : ℕ

-- two trees, one after another
abbrev pub both_trees : BlockTree → BlockTree → BlockTree
both_trees own later = record { stops = own.stops ++ later.stops; rules = own.rules ++ later.rules }

-- all that remains, the next node first
abbrev pub remaining : PartyView → BlockTree
remaining party = both_trees party.own party.later

-- the stops and the rule nodes of symbols from a place on
abbrev pub tree_after : RulesView → Start → List ℕ → BlockTree
tree_after rules at symbols = record {
  stops = stops_after rules at.instant at.cell symbols;
  rules = spans_in rules at symbols;
}

-- a symbol's own stops and rule nodes
abbrev pub symbol_tree : RulesView → Start → ℕ → BlockTree
symbol_tree rules at symbol = record {
  stops = stops_from (at.instant +ℤ pos 1) (cells_along at.cell (values_of rules symbol));
  rules = map (node_span rules at) (parsed rules symbol).nodes;
}

-- the terminals that a symbol's node stands for: none where it is a terminal itself
abbrev pub inside_of : RulesView → ℕ → List ℕ
inside_of rules symbol = if nat_le (length rules.alphabet) symbol then expansion_of rules symbol else []

-- a block whose next node is its anchor, or the symbol of an entry
abbrev pub party_of : PendingView → Start → Option Entry → PartyView
party_of pending at None = record {
  top = span_at (stop_at at.instant at.cell);
  cell = at.cell;
  opens = false;
  own = record { stops = stop_at at.instant at.cell ∷ []; rules = [] };
  later = tree_after pending.rules at pending.symbols;
  rules = pending.rules;
  places = pending.places;
  unread = pending.unread;
  size = 2 * length (spans_in pending.rules at pending.symbols) + (length pending.symbols + 1);
}
party_of pending at (Some entry) = let values = values_of pending.rules entry.symbol in
    let past = start_past at values in
    record {
      top = span_along at values (inside_of pending.rules entry.symbol);
      cell = past.cell;
      opens = nat_le (length pending.rules.alphabet) entry.symbol;
      own = symbol_tree pending.rules at entry.symbol;
      later = tree_after pending.rules past pending.symbols;
      rules = pending.rules;
      places = pending.places;
      unread = pending.unread;
      size = 2 * length (spans_in pending.rules at (entry.symbol ∷ pending.symbols))
          + (length pending.symbols + 1);
    }

-- where the node after the next one begins
abbrev pub past_of : Start → Option Entry → Start
past_of at None = at
past_of at (Some entry) = start_after at entry

-- the symbols that remain
abbrev pub symbols_left : PendingView → Option Entry → List ℕ
symbols_left pending None = pending.symbols
symbols_left pending (Some entry) = entry.symbol ∷ pending.symbols

-- the entry is that of a symbol whose parts have room
abbrev pub IsTop : PendingView → Option Entry → Type 0
IsTop pending None = ⊤
IsTop pending (Some entry) = (entry ≡ entry_of pending.rules entry.symbol) × IsRoomy pending.rules pending.depth entry.symbol

-- what holds of each block that is gone through
pub record IsParty (pending : PendingView) (at : Start) (top : Option Entry) : Type 0 where
  pub sound : AreRules pending.rules
  pub way : IsWayOf pending.rules at (symbols_left pending top)
  pub top_is : IsTop pending top

-- a cell is in a box, if there is one
abbrev pub is_in_area : Option CellBox → Cell → Bool
is_in_area None cell = false
is_in_area (Some area) cell = in_box area cell

-- a stop is at an instant and in the box of a node
pub record IsStopInside (top : Span) (stop : Stop) : Type 0 where
  pub after : top.begin <ℤ stop.instant
  pub before : stop.instant ≤ℤ top.end
  pub cell : is_in_area top.area stop.cell ≡ true

-- the first of some rule nodes
pub record IsTopOf (top : Span) (nodes : List Span) : Type 0 where
  pub rest : List Span
  pub is : nodes ≡ top ∷ rest

-- what the next node says of the stops that remain
pub record Tells (party : PartyView) : Type 0 where
  pub ordered : party.top.begin ≤ℤ party.top.end
  pub inside : All (IsStopInside party.top) party.own.stops
  pub later : All (λ stop. party.top.end <ℤ stop.instant) party.later.stops
  pub leaf : party.opens ≡ false → is_some party.top.area ≡ true →
      (party.own.stops ≡ stop_at party.top.end party.cell ∷ [])
      × (party.top ≡ span_at (stop_at party.top.end party.cell))
  pub rule : party.opens ≡ true → IsTopOf party.top (remaining party).rules

-- the next node was passed
pub record IsPassed (old new : PartyView) : Type 0 where
  pub rest : remaining new ≡ old.later
  pub grammar : new.rules ≡ old.rules
  pub fewer : new.size < old.size

-- the next node was opened
pub record OpensNode (old new : PartyView) : Type 0 where
  pub stops : (remaining new).stops ≡ (remaining old).stops
  pub rules : (remaining old).rules ≡ old.top ∷ (remaining new).rules
  pub grammar : new.rules ≡ old.rules
  pub fewer : new.size < old.size
