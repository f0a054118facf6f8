-- Which rules a walk opens, and how many: symbol by symbol, and of a rule by its parts.
use Rattle.std.proofs.Common.{◌≡◌, ℕ, suc, ◌+◌, ◌<◌, ◌≤◌, ℤ, pos, ◌+ℤ◌, ◌≤ℤ◌, ◌<ℤ◌, Bool, true, ◌||◌, IsTrue, List, [], ◌∷◌, ◌++◌, length, map, Option, refl, ap, sym, ◌∙◌, arith, inl, inr}
use Rattle.std.specs.Prelude.{filter, slice_index}
use Rattle.std.specs.Int.Signed.{le_z}
use Rattle.std.specs.List.{list_any}
use Rattle.std.proofs.Math.Bool.{or-false}
use Rattle.std.proofs.lemmas.Bool.{cases_Bool, or_left, or_right}
use Rattle.std.proofs.lemmas.Int.{ints}
use Rattle.std.proofs.lemmas.List.{length-append, length-map, map-append}
use Rattle.std.proofs.lemmas.List.Elements.{filter-append, filter_agree}
use Rattle.std.proofs.lemmas.List.Folds.{list_any-append}
use Rattle.std.proofs.lemmas.Slice.Eq.{bytes_eq-Decides}
use Rattle.list_laws.proofs.MapLemmas.{filter-map}
use Rattle.track_types.specs.declared.cell.Cell.{Cell}
use Rattle.track_types.specs.declared.cell_box.CellBox.{CellBox}
use Rattle.track_types.specs.declared.region.Region.{Region}
use Rattle.track_types.proofs.RegionLemmas.{le_z-from}
use Rattle.rule_store.specs.View.{RulesView, symbols_in}
use Rattle.rule_store.specs.Expansion.{expansion_of, values_of}
use Rattle.rule_store.specs.Boxes.{bounding_box_of}
use Rattle.rule_store.specs.Cells.{displacement_of, moved}
use Rattle.rule_store.specs.Flaws.{left_of, right_of}
use Rattle.rule_store.specs.Nodes.{RuleNode, after, nodes_in, opened_count, parsed}
use Rattle.rule_store.proofs.CellLemmas.{displacement_of-columns, displacement_of-lines, moved-none, same_cell}
use Rattle.rule_store.proofs.NodeLemmas.{parsed-terminals}
use Rattle.log_cursor.specs.Start.{start_past}
use Rattle.log_cursor.specs.Needs.{RulesWithin}
use Rattle.log_cursor.specs.Touching.{is_rule_of, touches_at, touching_count, touching_left, touching_rule}
use Rattle.log_cursor.specs.Turn.{has_hull, is_opening, opening_count, opening_nodes, opening_rule}
use Rattle.log_cursor.specs.Walk.{opened_left, terminal_values}
use Rattle.log_cursor.specs.declared.start.Start.{Start}
use Rattle.log_cursor.proofs.RuleLemmas.{nodes_in-parts}

-- the cell to which values lead, one list after the other
pub moved-displaced : (cell : Cell) (xs ys : List ℕ) →
    moved cell (displacement_of (xs ++ ys)) ≡ moved (moved cell (displacement_of xs)) (displacement_of ys)
moved-displaced cell xs ys =
    let columns = displacement_of-columns xs ys in
    let lines = displacement_of-lines xs ys in
    same_cell _ _ _ _ (omega (arith, ints, columns)) (omega (arith, ints, lines))

module _ (rules : RulesView) (from to : ℤ) (may : Cell → Option CellBox → Bool) where
  -- a node after some terminals is opened as it is where these have been walked
  is_opening-after : (start : Start) (terminals : List ℕ) (node : RuleNode) →
      is_opening rules may from to start (after terminals node)
      ≡ is_opening rules may from to (start_past start (terminal_values rules terminals)) node
  is_opening-after start terminals node =
      let long = length-append terminals node.before in
      let same = length-map terminals (slice_index rules.alphabet) in
      let past = start_past start (terminal_values rules terminals) in
      let first : start.instant +ℤ pos (length (terminals ++ node.before) + 1)
      ≡ past.instant +ℤ pos (length node.before + 1) = omega (arith, ints, long, same) in
      let last : start.instant +ℤ pos (length (terminals ++ node.before) + length node.inside)
      ≡ past.instant +ℤ pos (length node.before + length node.inside) = omega (arith, ints, long, same) in
      let placed : moved start.cell (displacement_of (terminal_values rules (terminals ++ node.before)))
      ≡ moved past.cell (displacement_of (terminal_values rules node.before)) =
      ap (λ values. moved start.cell (displacement_of values))
      (map-append (slice_index rules.alphabet) terminals node.before)
      ∙ moved-displaced start.cell (terminal_values rules terminals) (terminal_values rules node.before) in
      rw (first, last, placed) refl

  -- the nodes that are opened of symbols are the first one's, and those of the others from where it leads
  opening_nodes-cons : (start : Start) (symbol : ℕ) (log : List ℕ) →
      opening_nodes rules may from to start (symbol ∷ log)
      ≡ filter (is_opening rules may from to start) (parsed rules symbol).nodes
      ++ map (after (parsed rules symbol).terminals)
      (opening_nodes rules may from to (start_past start (values_of rules symbol)) log)
  unfolding nodes_in values_of
  opening_nodes-cons start symbol log =
      let test : RuleNode → Bool = is_opening rules may from to start in
      let tree = parsed rules symbol in
      let later = nodes_in rules log in
      let past : List ℕ → RuleNode → Bool =
      λ terminals. is_opening rules may from to (start_past start (terminal_values rules terminals)) in
      filter-append test tree.nodes (map (after tree.terminals) later)
      ∙ ap (λ nodes. filter test tree.nodes ++ nodes) (
      filter-map test (after tree.terminals) later
      ∙ ap (map (after tree.terminals)) (
      filter_agree _ (past tree.terminals) (is_opening-after start tree.terminals) later
      ∙ ap (λ terminals. filter (past terminals) later) (parsed-terminals rules symbol)
      )
      )

  -- the symbols after the first count no more than all
  pub opening_count-later : (start : Start) (symbol : ℕ) (log : List ℕ) →
      opening_count rules may from to (start_past start (values_of rules symbol)) log
      ≤ opening_count rules may from to start (symbol ∷ log)
  unfolding opening_count
  opening_count-later start symbol log =
      let tree = parsed rules symbol in
      let first = filter (is_opening rules may from to start) tree.nodes in
      let rest = opening_nodes rules may from to (start_past start (values_of rules symbol)) log in
      let both = ap length (opening_nodes-cons start symbol log) in
      let sum = length-append first (map (after tree.terminals) rest) in
      let same = length-map rest (after tree.terminals) in
      omega (arith, both, sum, same)

  -- neither does the first
  pub opening_count-first : (start : Start) (symbol : ℕ) (log : List ℕ) →
      opening_count rules may from to start (symbol ∷ []) ≤ opening_count rules may from to start (symbol ∷ log)
  unfolding opening_count nodes_in
  opening_count-first start symbol log =
      let tree = parsed rules symbol in
      let first = filter (is_opening rules may from to start) tree.nodes in
      let rest = opening_nodes rules may from to (start_past start (values_of rules symbol)) log in
      let all = ap length (opening_nodes-cons start symbol log) in
      let sum = length-append first (map (after tree.terminals) rest) in
      let alone = ap length (opening_nodes-cons start symbol []) in
      let least = length-append first [] in
      omega (arith, all, sum, alone, least)

  -- a node stands for the same after some terminals
  any-after : (rule : ℕ) (terminals : List ℕ) (nodes : List RuleNode) →
      list_any (is_rule_of rules rule) (map (after terminals) nodes) ≡ list_any (is_rule_of rules rule) nodes
  any-after rule terminals [] = refl
  any-after rule terminals (node ∷ nodes) =
      ap (λ rest. is_rule_of rules rule node || rest) (any-after rule terminals nodes)

  opening_rule-cons : (start : Start) (symbol : ℕ) (log : List ℕ) (rule : ℕ) →
      opening_rule rules may from to start (symbol ∷ log) rule
      ≡ (list_any (is_rule_of rules rule) (filter (is_opening rules may from to start) (parsed rules symbol).nodes)
      || opening_rule rules may from to (start_past start (values_of rules symbol)) log rule)
  unfolding opening_rule
  opening_rule-cons start symbol log rule =
      let tree = parsed rules symbol in
      let first = filter (is_opening rules may from to start) tree.nodes in
      let rest = opening_nodes rules may from to (start_past start (values_of rules symbol)) log in
      ap (list_any (is_rule_of rules rule)) (opening_nodes-cons start symbol log)
      ∙ list_any-append (is_rule_of rules rule) first (map (after tree.terminals) rest)
      ∙ ap (λ other. list_any (is_rule_of rules rule) first || other) (any-after rule tree.terminals rest)

  -- what is opened of the symbols after the first is opened of all
  pub opening_rule-later : (start : Start) (symbol : ℕ) (log : List ℕ) →
      RulesWithin (opening_rule rules may from to (start_past start (values_of rules symbol)) log)
      (opening_rule rules may from to start (symbol ∷ log))
  opening_rule-later start symbol log rule opens = opening_rule-cons start symbol log rule ∙ or_right _ _ opens

  -- so is what is opened of the first
  pub opening_rule-first : (start : Start) (symbol : ℕ) (log : List ℕ) →
      RulesWithin (opening_rule rules may from to start (symbol ∷ [])) (opening_rule rules may from to start (symbol ∷ log))
  unfolding opening_rule nodes_in
  opening_rule-first start symbol log rule opens =
      let own = list_any (is_rule_of rules rule) (filter (is_opening rules may from to start) (parsed rules symbol).nodes) in
      let alone : own ≡ true = sym (opening_rule-cons start symbol [] rule ∙ or-false own) ∙ opens in
      opening_rule-cons start symbol log rule ∙ or_left own _ alone

  -- a rule
  module _ (symbol : ℕ) (log : List ℕ) (rule : length rules.alphabet ≤ symbol) (known : symbol < symbols_in rules)
      (left_below : left_of rules symbol < symbol) (right_below : right_of rules symbol < symbol) (start : Start) where
    abbrev own : RuleNode
    own = record { before = []; inside = expansion_of rules symbol }

    -- has the nodes of its two parts
    pub opening_rule-parts :
        RulesWithin (opening_rule rules may from to start (left_of rules symbol ∷ right_of rules symbol ∷ log))
        (opening_rule rules may from to start (symbol ∷ log))
    unfolding opening_rule
    opening_rule-parts other opens =
        let test : RuleNode → Bool = is_opening rules may from to start in
        ap (λ nodes. list_any (is_rule_of rules other) (filter test nodes))
        (nodes_in-parts rules symbol rule known left_below right_below log)
        ∙ elim (cases_Bool (test own)) [
          | inl opened ↦ rw opened (or_right (is_rule_of rules other own) _ opens)
          | inr shut ↦ rw shut opens
        ]

    module _ (window : from ≤ℤ to) (open_end : start.instant <ℤ to)
        (reached : from ≤ℤ (start_past start (values_of rules symbol)).instant)
        (passes : may start.cell (bounding_box_of (values_of rules symbol)) ≡ true) where
      is_opening-own : is_opening rules may from to start own ≡ true
      unfolding values_of displacement_of
      is_opening-own =
          let inside = expansion_of rules symbol in
          let long = length-map inside (slice_index rules.alphabet) in
          let first : le_z (start.instant +ℤ pos (0 + 1)) to ≡ true = le_z-from _ to (omega (arith, ints)) in
          let last : le_z from (start.instant +ℤ pos (0 + length inside)) ≡ true =
          le_z-from from _ (omega (arith, ints, reached, long)) in
          rw (le_z-from from to window, first, last, moved-none start.cell) passes

      -- where it is opened it counts one, and its two parts
      pub opening_count-parts :
          opening_count rules may from to start (symbol ∷ log)
          ≡ suc (opening_count rules may from to start (left_of rules symbol ∷ right_of rules symbol ∷ log))
      unfolding opening_count
      opening_count-parts =
          ap (λ nodes. length (filter (is_opening rules may from to start) nodes))
          (nodes_in-parts rules symbol rule known left_below right_below log)
          ∙ rw is_opening-own refl

      -- and is one of the rules that are opened
      pub opening_rule-own : IsTrue (opening_rule rules may from to start (symbol ∷ log) symbol)
      unfolding opening_rule
      opening_rule-own =
          ap (λ nodes. list_any (is_rule_of rules symbol) (filter (is_opening rules may from to start) nodes))
          (nodes_in-parts rules symbol rule known left_below right_below log)
          ∙ rw (is_opening-own, (bytes_eq-Decides (expansion_of rules symbol) (expansion_of rules symbol)).1 refl) refl

-- what a walk opens, and what a search does, by their tests
pub opened_left-count : (rules : RulesView) (from to : ℤ) (start : Start) (symbols : List ℕ) →
    opened_left rules from to start symbols ≡ opening_count rules has_hull from to start symbols
unfolding opened_count opening_count
opened_left-count rules from to start symbols = refl

pub touching_left-count : (rules : RulesView) (from to : ℤ) (region : Region) (start : Start) (symbols : List ℕ) →
    touching_left rules from to region start symbols ≡ opening_count rules (touches_at region) from to start symbols
unfolding touching_count opening_count
touching_left-count rules from to region start symbols = refl

module _ (rules : RulesView) (from to : ℤ) (region : Region) (start : Start) (symbols : List ℕ) where
  pub touching_rule-from : RulesWithin (opening_rule rules (touches_at region) from to start symbols)
      (touching_rule rules start symbols from to region)
  unfolding touching_rule opening_rule
  touching_rule-from rule opens = opens

  pub touching_rule-to : RulesWithin (touching_rule rules start symbols from to region)
      (opening_rule rules (touches_at region) from to start symbols)
  unfolding touching_rule opening_rule
  touching_rule-to rule touches = touches
