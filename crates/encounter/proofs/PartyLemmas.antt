-- What is left of one block: symbol by symbol, of a rule by its parts, and what its next node tells.
use Rattle.std.proofs.Common.{◌≡◌, ℕ, zero, suc, ◌+◌, ◌*◌, ◌<◌, ◌≤◌, ℤ, pos, ◌+ℤ◌, ◌-ℤ◌, ◌≤ℤ◌, ◌<ℤ◌, true, false, List, [], ◌∷◌, ◌++◌, length, map, Option, Some, None, refl, ap, sym, subst, ◌∙◌, arith, All}
use Rattle.std.specs.Prelude.{get_or, nat_le, slice_index}
use Rattle.std.specs.Option.{is_some, option_map}
use Rattle.std.proofs.lemmas.Bool.{le-leb, leb-false, leb-true}
use Rattle.std.proofs.lemmas.Int.{ints}
use Rattle.std.proofs.lemmas.List.{append-nil, length-append, length-map, map-append}
use Rattle.std.proofs.lemmas.List.Elements.{All-cons, All-head, All-nil, All-tail}
use Rattle.spiral_code.specs.Spiral.{move_of}
use Rattle.track_types.specs.Near.{IsCellAsked}
use Rattle.track_types.specs.declared.cell.Cell.{Cell}
use Rattle.track_types.specs.declared.cell_box.CellBox.{CellBox}
use Rattle.track_types.proofs.RegionLemmas.{in_box-from}
use Rattle.rule_store.specs.View.{RulesView, symbols_in}
use Rattle.rule_store.specs.Boxes.{box_round}
use Rattle.rule_store.specs.Cells.{cells_along, displacement_of, moved, present_in}
use Rattle.rule_store.specs.Expansion.{expansion_of, values_of}
use Rattle.rule_store.specs.Flaws.{AreRules, left_of, right_of}
use Rattle.rule_store.specs.Log.{log_values, stop_at, stops_after, stops_from}
use Rattle.rule_store.specs.Nodes.{RuleNode, after, nodes_in, parsed}
use Rattle.rule_store.proofs.BoxLemmas.{box_round-is, box_round-none}
use Rattle.rule_store.proofs.CellLemmas.{length-cells_along, same_cell}
use Rattle.rule_store.proofs.ExpansionLemmas.{length-values_of, values_of-terminal}
use Rattle.rule_store.proofs.LogLemmas.{stops_after-cons}
use Rattle.rule_store.proofs.NodeLemmas.{parsed-terminals}
use Rattle.log_cursor.specs.Start.{start_at, start_past}
use Rattle.log_cursor.specs.Walk.{terminal_values}
use Rattle.log_cursor.specs.declared.start.Start.{Start}
use Rattle.log_cursor.proofs.RuleLemmas.{nodes_in-parts, parts-below, stops_after-parts}
use Rattle.log_cursor.proofs.TouchLemmas.{moved-displaced}
use Rattle.log_cursor.proofs.WayLemmas.{box_round-bounded, same_start}
use Rattle.rule_store.specs.declared.entry.Entry.{Entry}
use Rattle.log_cursor.specs.Pending.{IsTaken, PendingView}
use Rattle.track_types.specs.Boxes.{moved_box}
use Rattle.log_cursor.specs.Start.{IsHullAsked, IsStart, IsWayOf, start_after}
use Rattle.log_cursor.proofs.HitLemmas.{IsHullAsked-along, placed-round}
use Rattle.log_cursor.proofs.WayLemmas.{IsWayOf-first, IsWayOf-parts, IsWayOf-rest, hull_is, start_after-is}
use Rattle.encounter.specs.Party.{IsStopInside, OpensNode, IsPassed, IsParty, PartyView, Tells, is_in_area, both_trees, remaining, inside_of, past_of, party_of, tree_after, symbol_tree}
use Rattle.encounter.specs.Span.{Span, BlockTree, span_along, span_at, node_span, spans_in, start_beyond}

module _ (rules : RulesView) where
  -- where two lists of terminals lead, one after the other
  start_beyond-append : (at : Start) (xs ys : List ℕ) →
      start_beyond rules at (xs ++ ys) ≡ start_beyond rules (start_beyond rules at xs) ys
  start_beyond-append at xs ys =
      let long = length-append xs ys in
      let cells : moved at.cell (displacement_of (terminal_values rules (xs ++ ys)))
      ≡ moved (moved at.cell (displacement_of (terminal_values rules xs))) (displacement_of (terminal_values rules ys)) =
      ap (λ values. moved at.cell (displacement_of values)) (map-append (slice_index rules.alphabet) xs ys)
      ∙ moved-displaced at.cell (terminal_values rules xs) (terminal_values rules ys) in
      let instants : at.instant +ℤ pos (length (xs ++ ys)) ≡ (at.instant +ℤ pos (length xs)) +ℤ pos (length ys) =
      omega (arith, ints, long) in
      rw (instants, cells) refl

  spans-after : (at : Start) (terminals : List ℕ) (nodes : List RuleNode) →
      map (node_span rules at) (map (after terminals) nodes)
      ≡ map (node_span rules (start_beyond rules at terminals)) nodes
  spans-after at terminals [] = refl
  spans-after at terminals (node ∷ nodes) =
      ap (λ start. span_along start (terminal_values rules node.inside) node.inside
      ∷ map (node_span rules at) (map (after terminals) nodes)) (start_beyond-append at terminals node.before)
      ∙ ap (λ spans. node_span rules (start_beyond rules at terminals) node ∷ spans) (spans-after at terminals nodes)

  -- the terminals of a symbol lead where its values do
  start_beyond-is : (at : Start) (symbol : ℕ) →
      start_beyond rules at (parsed rules symbol).terminals ≡ start_past at (values_of rules symbol)
  unfolding values_of
  start_beyond-is at symbol =
      let long = length-map (expansion_of rules symbol) (slice_index rules.alphabet) in
      ap (start_beyond rules at) (parsed-terminals rules symbol)
      ∙ ap (λ n. start_at (at.instant +ℤ pos n) (moved at.cell (displacement_of (values_of rules symbol)))) (sym long)

  pub spans_in-cons : (at : Start) (symbol : ℕ) (log : List ℕ) →
      spans_in rules at (symbol ∷ log)
      ≡ map (node_span rules at) (parsed rules symbol).nodes ++ spans_in rules (start_past at (values_of rules symbol)) log
  unfolding spans_in nodes_in
  spans_in-cons at symbol log =
      let tree = parsed rules symbol in
      map-append (node_span rules at) tree.nodes (map (after tree.terminals) (nodes_in rules log))
      ∙ ap (λ spans. map (node_span rules at) tree.nodes ++ spans) (spans-after at tree.terminals (nodes_in rules log))
      ∙ ap (λ start. map (node_span rules at) tree.nodes ++ map (node_span rules start) (nodes_in rules log))
      (start_beyond-is at symbol)

  -- symbols leave what the first one does, and then what the others do
  pub tree_after-cons : (at : Start) (symbol : ℕ) (log : List ℕ) →
      both_trees (symbol_tree rules at symbol) (tree_after rules (start_past at (values_of rules symbol)) log)
      ≡ tree_after rules at (symbol ∷ log)
  tree_after-cons at symbol log =
      let past = start_past at (values_of rules symbol) in
      let stops : stops_after rules at.instant at.cell (symbol ∷ log)
      ≡ stops_from (at.instant +ℤ pos 1) (cells_along at.cell (values_of rules symbol))
      ++ stops_after rules past.instant past.cell log =
      stops_after-cons rules at.instant at.cell symbol log
      ∙ ap (λ n. stops_from (at.instant +ℤ pos 1) (cells_along at.cell (values_of rules symbol))
      ++ stops_after rules (at.instant +ℤ pos n) past.cell log) (sym (length-values_of rules symbol)) in
      sym (rw (stops, spans_in-cons at symbol log) refl)

  module _ (symbol : ℕ) (log : List ℕ) (rule : length rules.alphabet ≤ symbol) (known : symbol < symbols_in rules)
      (left_below : left_of rules symbol < symbol) (right_below : right_of rules symbol < symbol) where
    -- its node stands for its expansion
    inside-rule : expansion_of rules symbol ≡ inside_of rules symbol
    inside-rule = rw (le-leb _ _ rule) refl

    pub spans_in-parts : (at : Start) →
        spans_in rules at (symbol ∷ log)
        ≡ span_along at (values_of rules symbol) (inside_of rules symbol)
        ∷ spans_in rules at (left_of rules symbol ∷ right_of rules symbol ∷ log)
    unfolding spans_in values_of displacement_of
    spans_in-parts at =
        let here : start_beyond rules at [] ≡ at =
        same_start _ _ _ _ _ _ (omega (arith, ints)) (omega (arith, ints)) (omega (arith, ints)) in
        ap (map (node_span rules at)) (nodes_in-parts rules symbol rule known left_below right_below log)
        ∙ ap (λ start. span_along start (values_of rules symbol) (expansion_of rules symbol)
        ∷ spans_in rules at (left_of rules symbol ∷ right_of rules symbol ∷ log)) here
        ∙ ap (λ inside. span_along at (values_of rules symbol) inside
        ∷ spans_in rules at (left_of rules symbol ∷ right_of rules symbol ∷ log)) inside-rule

-- where what comes next leads, and what it leaves
module _ (pending : PendingView) (at : Start) where
  pub grammar-is : (top : Option Entry) → (party_of pending at top).rules ≡ pending.rules
  grammar-is None = refl
  grammar-is (Some entry) = refl

  pub past-way : (top : Option Entry) → IsParty pending at top → IsWayOf pending.rules (past_of at top) pending.symbols
  past-way None is = is.way
  past-way (Some entry) is =
      subst (λ start. IsWayOf pending.rules start pending.symbols)
      (sym (start_after-is pending.rules at entry entry.symbol is.top_is.0))
      (IsWayOf-rest pending.rules entry.symbol pending.symbols at is.way)

  pub past-start : (top : Option Entry) → IsParty pending at top → IsStart (past_of at top)
  past-start top is = (past-way top is).start_is

  pub past-later : (top : Option Entry) → IsParty pending at top →
      (party_of pending at top).later ≡ tree_after pending.rules (past_of at top) pending.symbols
  past-later None is = refl
  past-later (Some entry) is =
      ap (λ start. tree_after pending.rules start pending.symbols)
      (sym (start_after-is pending.rules at entry entry.symbol is.top_is.0))

  past-size : (top : Option Entry) → IsParty pending at top →
      2 * length (spans_in pending.rules (past_of at top) pending.symbols) + (length pending.symbols + 1)
      ≤ (party_of pending at top).size
  past-size None is = omega arith
  past-size (Some entry) is =
      let own = map (node_span pending.rules at) (parsed pending.rules entry.symbol).nodes in
      let past = start_past at (values_of pending.rules entry.symbol) in
      let later = spans_in pending.rules past pending.symbols in
      let both = ap length (spans_in-cons pending.rules at entry.symbol pending.symbols) in
      let long = length-append own later in
      let same = ap (λ start. length (spans_in pending.rules start pending.symbols))
      (start_after-is pending.rules at entry entry.symbol is.top_is.0) in
      omega (arith, both, long, same)

  -- the symbol after it was taken off
  module _ (now : PendingView) (top : Option Entry) (entry : Entry) (is : IsParty pending at top)
      (taken : IsTaken pending now entry) (rules_are : now.rules ≡ pending.rules) (sound : AreRules now.rules) where
    abbrev next : Start
    next = past_of at top

    pub passed-is : IsParty now next (Some entry)
    passed-is = record {
      sound = sound;
      way = rw (rules_are, ← taken.symbols) (past-way top is);
      top_is = rw rules_are (taken.is, taken.roomy);
    }

    pub passed : IsPassed (party_of pending at top) (party_of now next (Some entry))
    passed =
        let tree : tree_after now.rules next (entry.symbol ∷ now.symbols)
        ≡ tree_after pending.rules next pending.symbols =
        ap (λ r. tree_after r next (entry.symbol ∷ now.symbols)) rules_are
        ∙ ap (tree_after pending.rules next) (sym taken.symbols) in
        let spans : length (spans_in now.rules next (entry.symbol ∷ now.symbols))
        ≡ length (spans_in pending.rules next pending.symbols) = ap (λ (t : BlockTree). length t.rules) tree in
        let long = ap length taken.symbols in
        record {
          rest = tree_after-cons now.rules next entry.symbol now.symbols ∙ tree ∙ sym (past-later top is);
          grammar = rules_are ∙ sym (grammar-is top);
          fewer = omega (arith, past-size top is, spans, long);
        }

-- a rule was opened, and its left part was taken off
module _ (pending opened now : PendingView) (at : Start) (entry left : Entry) (is : IsParty pending at (Some entry))
    (rule : length pending.rules.alphabet ≤ entry.symbol) (rules_are : opened.rules ≡ pending.rules)
    (symbols : opened.symbols ≡ left_of pending.rules entry.symbol ∷ right_of pending.rules entry.symbol ∷ pending.symbols)
    (taken : IsTaken opened now left) (same_rules : now.rules ≡ opened.rules) (sound : AreRules now.rules) where
  below : (left_of pending.rules entry.symbol < entry.symbol) × (right_of pending.rules entry.symbol < entry.symbol)
  below = parts-below pending.rules entry.symbol is.sound rule is.top_is.1.known

  abbrev parts : List ℕ
  parts = left_of pending.rules entry.symbol ∷ right_of pending.rules entry.symbol ∷ pending.symbols

  parts-are : parts ≡ left.symbol ∷ now.symbols
  parts-are = sym symbols ∙ taken.symbols

  rules-are : now.rules ≡ pending.rules
  rules-are = same_rules ∙ rules_are

  pub opened-is : IsParty now at (Some left)
  opened-is = record {
    sound = sound;
    way = rw (rules-are, ← parts-are)
        (IsWayOf-parts pending.rules entry.symbol pending.symbols rule is.top_is.1.known below.0 below.1 at is.way);
    top_is = rw same_rules (taken.is, taken.roomy);
  }

  pub opened-to : OpensNode (party_of pending at (Some entry)) (party_of now at (Some left))
  opened-to =
      let new : remaining (party_of now at (Some left)) ≡ tree_after pending.rules at parts =
      tree_after-cons now.rules at left.symbol now.symbols
      ∙ ap (λ r. tree_after r at (left.symbol ∷ now.symbols)) rules-are
      ∙ ap (tree_after pending.rules at) (sym parts-are) in
      let old = tree_after-cons pending.rules at entry.symbol pending.symbols in
      let split = spans_in-parts pending.rules entry.symbol pending.symbols rule is.top_is.1.known below.0 below.1 at in
      let stops = stops_after-parts pending.rules entry.symbol rule is.top_is.1.known below.0 below.1 pending.symbols
      at.instant at.cell in
      let spans : length (spans_in now.rules at (left.symbol ∷ now.symbols))
      ≡ length (spans_in pending.rules at parts) =
      ap (λ r. length (spans_in r at (left.symbol ∷ now.symbols))) rules-are
      ∙ ap (λ s. length (spans_in pending.rules at s)) (sym parts-are) in
      let long = ap length parts-are in
      let more = ap length split in
      record {
        stops = ap (λ (t : BlockTree). t.stops) new ∙ sym (ap (λ (t : BlockTree). t.stops) old ∙ stops);
        rules = ap (λ (t : BlockTree). t.rules) old ∙ split
            ∙ ap (λ (t : BlockTree). span_along at (values_of pending.rules entry.symbol)
            (inside_of pending.rules entry.symbol) ∷ t.rules) (sym new);
        grammar = rules-are;
        fewer = omega (arith, spans, long, more);
      }

-- the stops at the cells of instants that follow each other
stops-inside : (top : Span) (instant : ℤ) (cells : List (Option Cell)) → top.begin <ℤ instant →
    (instant +ℤ pos (length cells)) ≤ℤ (top.end +ℤ pos 1) → All (λ c. is_in_area top.area c ≡ true) (present_in cells) →
    All (IsStopInside top) (stops_from instant cells)
unfolding stops_from
stops-inside top instant [] low high within = All-nil (IsStopInside top)
stops-inside top instant (None ∷ cells) low high within =
    stops-inside top (instant +ℤ pos 1) cells (omega (arith, ints)) (omega (arith, ints)) within
stops-inside top instant (Some here ∷ cells) low high within =
    All-cons (IsStopInside top) (stop_at instant here) (stops_from (instant +ℤ pos 1) cells) (record {
      after = low;
      before = omega (arith, ints);
      cell = All-head (λ c. is_in_area top.area c ≡ true) here (present_in cells) within;
    })
    (stops-inside top (instant +ℤ pos 1) cells (omega (arith, ints)) (omega (arith, ints))
    (All-tail (λ c. is_in_area top.area c ≡ true) here (present_in cells) within))

stops-behind : (z instant : ℤ) (cells : List (Option Cell)) → z <ℤ instant →
    All (λ stop. z <ℤ stop.instant) (stops_from instant cells)
unfolding stops_from
stops-behind z instant [] low = All-nil (λ stop. z <ℤ stop.instant)
stops-behind z instant (None ∷ cells) low = stops-behind z (instant +ℤ pos 1) cells (omega (arith, ints))
stops-behind z instant (Some here ∷ cells) low =
    All-cons (λ stop. z <ℤ stop.instant) (stop_at instant here) (stops_from (instant +ℤ pos 1) cells) low
    (stops-behind z (instant +ℤ pos 1) cells (omega (arith, ints)))

stops_after-later : (rules : RulesView) (z : ℤ) (at : Start) (log : List ℕ) → z ≤ℤ at.instant →
    All (λ stop. z <ℤ stop.instant) (stops_after rules at.instant at.cell log)
unfolding stops_after
stops_after-later rules z at log low =
    stops-behind z (at.instant +ℤ pos 1) (cells_along at.cell (log_values rules log)) (omega (arith, ints))

-- cells are in the least box round them
in_round : (cells : List Cell) (area : Option CellBox) → area ≡ box_round cells →
    All (λ c. is_in_area area c ≡ true) cells
in_round cells None is =
    subst (All (λ c. is_in_area None c ≡ true)) (sym (box_round-none cells is)) (All-nil (λ c. is_in_area None c ≡ true))
in_round cells (Some area) is =
    λ k d within. in_box-from area (get_or cells k d) (box_round-bounded area cells is k d within)

-- a terminal has one stop, which is its node
abbrev IsLeaf : Start → List ℕ → Type 0
IsLeaf at values = let past = start_past at values in
    (stops_from (at.instant +ℤ pos 1) (cells_along at.cell values) ≡ stop_at past.instant past.cell ∷ [])
    × (span_along at values [] ≡ span_at (stop_at past.instant past.cell))

leaf-one : (at : Start) (value : ℕ) →
    is_some (box_round (present_in (cells_along at.cell (value ∷ [])))) ≡ true → IsLeaf at (value ∷ [])
unfolding box_round cells_along displacement_of stops_from
leaf-one at zero some = absurd (cc)
leaf-one at (suc code) some =
    let next = moved at.cell (move_of code) in
    let same : next ≡ moved at.cell (displacement_of (suc code ∷ [])) =
    same_cell _ _ _ _ (omega (arith, ints)) (omega (arith, ints)) in
    let first : at.instant ≡ (at.instant +ℤ pos 1) -ℤ pos 1 = omega (arith, ints) in (
      ap (λ c. stop_at (at.instant +ℤ pos 1) c ∷ []) same,
      ap (λ c. span_to at.instant (at.instant +ℤ pos 1) c) same
          ∙ ap (λ z. span_to z (at.instant +ℤ pos 1) (moved at.cell (displacement_of (suc code ∷ [])))) first,
    )
  where
    span_to : ℤ → ℤ → Cell → Span
    span_to begin end cell = record { begin = begin; end = end; area = box_round (cell ∷ []); inside = [] }

leaf-is : (at : Start) (values : List ℕ) (value : ℕ) → values ≡ value ∷ [] →
    is_some (box_round (present_in (cells_along at.cell values))) ≡ true → IsLeaf at values
leaf-is at values value is some =
    subst (IsLeaf at) (sym is)
    (leaf-one at value (subst (λ vs. is_some (box_round (present_in (cells_along at.cell vs))) ≡ true) is some))

-- its node stands for no terminals of a rule
inside-terminal : (rules : RulesView) (symbol : ℕ) → nat_le (length rules.alphabet) symbol ≡ false → inside_of rules symbol ≡ []
inside-terminal rules symbol leaf = rw leaf refl

module _ (pending : PendingView) (at : Start) where
  pub tells-of : (top : Option Entry) → IsParty pending at top → Tells (party_of pending at top)
  tells-of None is = record {
    ordered = omega (arith, ints);
    inside = All-cons (IsStopInside (span_at (stop_at at.instant at.cell))) (stop_at at.instant at.cell) [] (record {
      after = omega (arith, ints);
      before = omega (arith, ints);
      cell = All-head (λ c. is_in_area (box_round (at.cell ∷ [])) c ≡ true) at.cell []
          (in_round (at.cell ∷ []) (box_round (at.cell ∷ [])) refl);
    }) (All-nil (IsStopInside (span_at (stop_at at.instant at.cell))));
    later = stops_after-later pending.rules at.instant at pending.symbols (omega (arith, ints));
    leaf = λ _ _. (refl, refl);
    rule = λ opens. absurd (cc);
  }
  tells-of (Some entry) is =
      let values = values_of pending.rules entry.symbol in
      let cells = cells_along at.cell values in
      let past = start_past at values in
      let long = length-cells_along at.cell values in
      record {
        ordered = omega (arith, ints);
        inside = stops-inside (span_along at values (inside_of pending.rules entry.symbol)) (at.instant +ℤ pos 1) cells
            (omega (arith, ints)) (omega (arith, ints, long)) (in_round (present_in cells) (box_round (present_in cells)) refl);
        later = stops_after-later pending.rules past.instant past pending.symbols (omega (arith, ints));
        leaf = λ leaf some.
            let its = leaf-is at values _ (values_of-terminal pending.rules entry.symbol (leb-false _ _ leaf)) some in
            (its.0, ap (span_along at values) (inside-terminal pending.rules entry.symbol leaf) ∙ its.1);
        rule = λ opens.
            let rule = leb-true _ _ opens in
            let known = is.top_is.1.known in
            let below = parts-below pending.rules entry.symbol is.sound rule known in
            record {
              rest = spans_in pending.rules at
                  (left_of pending.rules entry.symbol ∷ right_of pending.rules entry.symbol ∷ pending.symbols);
              is = sym (spans_in-cons pending.rules at entry.symbol pending.symbols)
                  ∙ spans_in-parts pending.rules entry.symbol pending.symbols rule known below.0 below.1 at;
            };
      }

-- the next node, by what is known of it
pub view-is : (pending : PendingView) (at : Start) (top known : Option Entry) (party : PartyView) → top ≡ known →
    party_of pending at top ≡ party → party_of pending at known ≡ party
view-is pending at top known party is view = ap (party_of pending at) (sym is) ∙ view

pub opens-rule : (pending : PendingView) (at : Start) (entry : Entry) (party : PartyView) →
    party_of pending at (Some entry) ≡ party → party.opens ≡ true → length pending.rules.alphabet ≤ entry.symbol
opens-rule pending at entry party view opens = leb-true _ _ (ap (λ (s : PartyView). s.opens) view ∙ opens)

pub around-is : (area : CellBox) (cell : Cell) → area.x1 ≡ cell.x → area.y1 ≡ cell.y → area.x2 ≡ cell.x →
    area.y2 ≡ cell.y → Some area ≡ box_round (cell ∷ [])
around-is area cell x1 y1 x2 y2 = box_round-is area cell [] (record { x1 = x1; y1 = y1; x2 = x2; y2 = y2 })

module _ (pending : PendingView) (at : Start) (entry : Entry) (is : IsParty pending at (Some entry)) where
  pub node-start : start_after at entry ≡ start_past at (values_of pending.rules entry.symbol)
  node-start = start_after-is pending.rules at entry entry.symbol is.top_is.0

  pub node-area : option_map (moved_box at.cell) entry.hull
      ≡ box_round (present_in (cells_along at.cell (values_of pending.rules entry.symbol)))
  node-area =
      placed-round at.cell (values_of pending.rules entry.symbol) entry.hull
      (hull_is pending.rules entry entry.symbol is.top_is.0)

  pub node-near : IsHullAsked at.cell entry.hull
  unfolding log_values
  node-near =
      let way = (IsWayOf-first pending.rules entry.symbol pending.symbols at is.way).cells in
      IsHullAsked-along at.cell (values_of pending.rules entry.symbol) entry.hull
      (hull_is pending.rules entry entry.symbol is.top_is.0)
      (subst (λ values. All IsCellAsked (present_in (cells_along at.cell values)))
      (append-nil (values_of pending.rules entry.symbol)) way)
