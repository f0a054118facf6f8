-- The nodes of a log's parse trees are among its instants, so that a window which goes on after them costs no more.
use Rattle.std.proofs.Common.{◌≡◌, ℕ, ◌+◌, ◌≤◌, ℤ, pos, ◌+ℤ◌, ◌≤ℤ◌, ◌<ℤ◌, true, List, [], ◌∷◌, ◌++◌, All, length, get_or, map, refl, sym, ap, ◌∙◌, arith, inl, inr}
use Rattle.std.specs.Prelude.{◌&&◌, Bool, filter, slice_index}
use Rattle.std.specs.Int.{int_min}
use Rattle.std.specs.Int.Signed.{le_z}
use Rattle.std.specs.List.{range_with_len}
use Rattle.std.proofs.lemmas.List.{get_or_past, length-append, length-map}
use Rattle.std.proofs.lemmas.Bool.{cases_Bool, cases_lt}
use Rattle.std.proofs.lemmas.Int.{int_min_is, ints}
use Rattle.std.proofs.lemmas.List.Elements.{All-append, All-cons, All-get_or, All-map, All-nil, All-push, All-weaker, filter_agree}
use Rattle.list_laws.specs.Grown.{table_of_rules}
use Rattle.list_laws.proofs.FilterLemmas.{filter_and, length-filter-le}
use Rattle.list_laws.proofs.MapLemmas.{filter-map}
use Rattle.track_types.proofs.RegionLemmas.{le_z-from}
use Rattle.rule_store.specs.View.{RulesView}
use Rattle.rule_store.specs.Expansion.{expansion_of, values_of}
use Rattle.rule_store.specs.Log.{log_values}
use Rattle.rule_store.specs.Nodes.{RuleNode, Parsed, after, block_budget, is_opened, leaf, nodes_in, opened_count, parsed, parsed_with, unparsed}
use Rattle.rule_store.proofs.NodeLemmas.{parsed-terminals}
use Rattle.log_cursor.specs.Walk.{WalkNode, begin_of, nodes_left, opened_left, reads_to, walk_from, walk_node}
use Rattle.log_cursor.specs.declared.start.Start.{Start}
use Rattle.log_cursor.proofs.WalkLemmas.{nodes_left-empty}

-- a node ends among so many terminals
abbrev IsAmong : ℕ → RuleNode → Type 0
IsAmong count node = length node.before + length node.inside ≤ count

-- the nodes of a parse tree end among its terminals
abbrev AreAmong : Parsed → Type 0
AreAmong tree = All (IsAmong (length tree.terminals)) tree.nodes

IsAmong-more : (few many : ℕ) (nodes : List RuleNode) → few ≤ many → All (IsAmong few) nodes → All (IsAmong many) nodes
IsAmong-more few many nodes most among =
    All-weaker (IsAmong few) (IsAmong many) (λ node low. omega (arith, low, most)) nodes among

IsAmong-after : (terminals : List ℕ) (count : ℕ) (nodes : List RuleNode) → All (IsAmong count) nodes →
    All (IsAmong (length terminals + count)) (map (after terminals) nodes)
IsAmong-after terminals count nodes among =
    All-map (IsAmong (length terminals + count)) (after terminals) nodes
    (All-weaker (IsAmong count) (λ node. IsAmong (length terminals + count) (after terminals node))
    (λ node low. omega (arith, length-append terminals node.before, low)) nodes among)

-- so do those of a rule, where those of its parts do
AreAmong-joined : (left right : Parsed) → AreAmong left → AreAmong right → AreAmong (parsed_with left right)
AreAmong-joined left right one other =
    let many = length (left.terminals ++ right.terminals) in
    let long : many ≡ length left.terminals + length right.terminals = length-append left.terminals right.terminals in
    let back = map (after left.terminals) right.nodes in
    All-cons (IsAmong many) (record { before = []; inside = left.terminals ++ right.terminals }) (left.nodes ++ back)
    (omega arith)
    (All-append (IsAmong many) left.nodes back
    (IsAmong-more (length left.terminals) many left.nodes (omega (arith, long)) one)
    (IsAmong-more (length left.terminals + length right.terminals) many back (omega (arith, long))
    (IsAmong-after left.terminals (length right.terminals) right.nodes other)))

AreAmong-known : (known : List Parsed) (symbol : ℕ) → All AreAmong known → AreAmong (get_or known symbol unparsed)
AreAmong-known known symbol each = elim (cases_lt symbol (length known)) [
  | inl within ↦ All-get_or AreAmong known symbol unparsed within each
  | inr over ↦ rw (get_or_past known symbol unparsed over) (All-nil (IsAmong 0))
]

AreAmong-table : (known : List Parsed) (rules : List (ℕ × ℕ)) → All AreAmong known →
    All AreAmong (table_of_rules parsed_with unparsed known rules)
unfolding table_of_rules
AreAmong-table known [] each = each
AreAmong-table known (rule ∷ rules) each =
    let left = get_or known rule.0 unparsed in
    let right = get_or known rule.1 unparsed in
    AreAmong-table (known ++ parsed_with left right ∷ []) rules
    (All-push AreAmong known (parsed_with left right) each
    (AreAmong-joined left right (AreAmong-known known rule.0 each) (AreAmong-known known rule.1 each)))

module _ (rules : RulesView) where
  AreAmong-parsed : (symbol : ℕ) → AreAmong (parsed rules symbol)
  unfolding parsed
  AreAmong-parsed symbol =
      let terminals = range_with_len 0 (length rules.alphabet) in
      let known = map leaf terminals in
      AreAmong-known (table_of_rules parsed_with unparsed known rules.rules) symbol
      (AreAmong-table known rules.rules (All-map AreAmong leaf terminals (λ k d within. All-nil (IsAmong 1))))

  -- the nodes of a log end among its instants
  nodes-among : (log : List ℕ) → All (IsAmong (length (log_values rules log))) (nodes_in rules log)
  unfolding nodes_in log_values values_of
  nodes-among [] = All-nil (IsAmong 0)
  nodes-among (symbol ∷ log) =
      let tree = parsed rules symbol in
      let own = values_of rules symbol in
      let many = length (own ++ log_values rules log) in
      let long : many ≡ length own + length (log_values rules log) = length-append own (log_values rules log) in
      let same : length own ≡ length tree.terminals =
      length-map (expansion_of rules symbol) (slice_index rules.alphabet)
      ∙ ap length (sym (parsed-terminals rules symbol)) in
      let back = map (after tree.terminals) (nodes_in rules log) in
      All-append (IsAmong many) tree.nodes back
      (IsAmong-more (length tree.terminals) many tree.nodes (omega (arith, long, same)) (AreAmong-parsed symbol))
      (IsAmong-more (length tree.terminals + length (log_values rules log)) many back (omega (arith, long, same))
      (IsAmong-after tree.terminals (length (log_values rules log)) (nodes_in rules log) (nodes-among log)))

  module _ (instant from to until : ℤ) (window : from ≤ℤ until) where
    -- a node that is opened is so where the window goes on after its first instant
    is_opened-until : (count : ℕ) (node : RuleNode) → (instant +ℤ pos count) <ℤ until → IsAmong count node →
        is_opened rules instant from to node ≡ true → is_opened rules instant from until node ≡ true
    is_opened-until count node over among opened =
        let begins : le_z (instant +ℤ pos (length node.before + 1)) until ≡ true =
        le_z-from _ until (omega (arith, ints, over, among)) in
        grind (arith, le_z-from from until window, begins, opened)

    -- and where it ends later
    is_opened-later : (node : RuleNode) → to ≤ℤ until → is_opened rules instant from to node ≡ true →
        is_opened rules instant from until node ≡ true
    is_opened-later node later opened = grind (arith, ints, le_z-from from until window, later, opened)

    -- so more are opened
    opened_count-later : (log : List ℕ) → to ≤ℤ until →
        opened_count rules instant log from to ≤ opened_count rules instant log from until
    unfolding opened_count
    opened_count-later log later =
        let nodes = nodes_in rules log in
        length-filter-le (is_opened rules instant from to) (is_opened rules instant from until) nodes
        (λ k d within. is_opened-later (get_or nodes k d) later)

    -- a window that goes on after a block costs as much as any
    pub block_budget-until : (log : List ℕ) → (instant +ℤ pos (length (log_values rules log))) <ℤ until →
        block_budget rules instant log from to ≤ block_budget rules instant log from until
    unfolding block_budget opened_count
    block_budget-until log over =
        let nodes = nodes_in rules log in
        let fewer : length (filter (is_opened rules instant from to) nodes)
        ≤ length (filter (is_opened rules instant from until) nodes) =
        length-filter-le (is_opened rules instant from to) (is_opened rules instant from until) nodes
        (All-weaker (IsAmong (length (log_values rules log)))
        (λ node. is_opened rules instant from to node ≡ true → is_opened rules instant from until node ≡ true)
        (λ node. is_opened-until (length (log_values rules log)) node over) nodes (nodes-among log)) in
        elim (cases_Bool (le_z from to)) [
          | inl some ↦ rw (some, le_z-from from until window) (omega (arith, fewer))
          | inr none ↦ rw none (omega arith)
        ]

-- the rules that a walk opens up to an instant are those that it opens in the window which ends there
module _ (rules : RulesView) (from to instant : ℤ) (window : from ≤ℤ int_min instant to) (start : Start) where
  is_opened-by : (node : RuleNode) → (le_z (begin_of start.instant node) instant && is_opened rules start.instant from to node)
      ≡ is_opened rules start.instant from (int_min instant to) node
  is_opened-by node =
      let least = int_min_is instant to in
      let longer : le_z from to ≡ true = le_z-from from to (omega (arith, ints, window, least)) in
      let begin = begin_of start.instant node in
      elim (cases_Bool (le_z begin (int_min instant to))) [
        | inl early ↦
            let come : begin ≤ℤ int_min instant to = grind (arith, ints, early) in
            rw (
              le_z-from from (int_min instant to) window,
              longer,
              early,
              le_z-from begin instant (omega (arith, ints, come, least)),
              le_z-from begin to (omega (arith, ints, come, least)),
            )
            refl
        | inr late ↦
            rw (le_z-from from (int_min instant to) window, longer, late) (grind (arith, ints, late, least))
      ]

  pub nodes_left-count : (symbols : List ℕ) →
      length (filter (λ node. le_z node.begin instant) (nodes_left rules from to start symbols))
      ≡ opened_left rules from (int_min instant to) start symbols
  unfolding nodes_left opened_count
  nodes_left-count symbols =
      let nodes = nodes_in rules symbols in
      let early : RuleNode → Bool = λ node. le_z (begin_of start.instant node) instant in
      let opened : RuleNode → Bool = is_opened rules start.instant from to in
      ap length (filter-map (λ (node : WalkNode). le_z node.begin instant) (walk_node rules start) (filter opened nodes))
      ∙ length-map (filter early (filter opened nodes)) (walk_node rules start)
      ∙ ap length (sym (filter_and early opened nodes))
      ∙ ap length (filter_agree (λ node. early node && opened node)
      (is_opened rules start.instant from (int_min instant to)) is_opened-by nodes)

-- a walk that was begun reads no more up to an instant than the window costs that ends there
pub reads_to-walk_from : (rules : RulesView) (places : ℕ × ℕ) (log : List ℕ) (start : Start) (from to instant : ℤ) → from ≤ℤ instant →
    reads_to (walk_from rules places log start from to) instant ≤ block_budget rules start.instant log from instant
unfolding block_budget
reads_to-walk_from rules places log start from to instant window =
    let least = int_min_is instant to in
    elim (cases_Bool (le_z from to)) [
      | inl some ↦
          let longer : from ≤ℤ to = grind (arith, ints, some) in
          let both : from ≤ℤ int_min instant to = omega (arith, ints, window, longer, least) in
          let count = nodes_left-count rules from to instant both start log in
          let fewer = opened_count-later rules start.instant from (int_min instant to) instant window log
          (omega (arith, ints, least)) in
          rw (some, le_z-from from instant window) (omega (arith, count, fewer))
      | inr none ↦ rw (none, nodes_left-empty rules log start from to none) (omega arith)
    ]
