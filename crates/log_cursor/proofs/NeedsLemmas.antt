-- Which reads a search makes where others may be made, and which rules a walk opens.
use Rattle.std.proofs.Common.{◌≡◌, ℕ, ◌+◌, ◌<◌, ℤ, Bool, true, false, ◌||◌, IsTrue, List, [], ◌∷◌, length, map, Option, Some, None, refl, ap, sym, subst, ◌∙◌}
use Rattle.std.specs.Prelude.{◌&&◌, filter}
use Rattle.std.specs.List.{list_any}
use Rattle.std.specs.Option.{is_some}
use Rattle.std.specs.Str.{bytes_eq}
use Rattle.std.proofs.lemmas.List.Elements.{filter_agree}
use Rattle.list_laws.proofs.FilterLemmas.{filter_and}
use Rattle.list_laws.proofs.MapLemmas.{filter-map}
use Rattle.step_count.specs.Reads.{ReadsWithin, ofPeriod, ofRule, ofSymbol}
use Rattle.track_types.specs.declared.cell.Cell.{Cell}
use Rattle.track_types.specs.declared.cell_box.CellBox.{CellBox}
use Rattle.track_types.specs.declared.region.Region.{Region}
use Rattle.track_types.specs.declared.stop.Stop.{Stop}
use Rattle.rule_store.specs.View.{RulesView}
use Rattle.rule_store.specs.Boxes.{bounding_box_of}
use Rattle.rule_store.specs.Expansion.{expansion_of}
use Rattle.rule_store.specs.Log.{log_of}
use Rattle.rule_store.specs.Needs.{is_among, log_needs, places_of}
use Rattle.rule_store.specs.Nodes.{RuleNode, is_opened, meets, nodes_in}
use Rattle.rule_store.specs.declared.log_view.LogView.{LogView}
use Rattle.rule_store.proofs.NeedsLemmas.{may-symbol}
use Rattle.log_cursor.specs.Needs.{RulesWithin, search_needs, walk_needs, walk_rule}
use Rattle.log_cursor.specs.Pending.{PendingView}
use Rattle.log_cursor.specs.Touching.{is_rule_of, touches_at, touching_rule}
use Rattle.log_cursor.specs.Turn.{is_opening, opening_rule}
use Rattle.log_cursor.specs.Walk.{WalkNode, WalkView, nodes_left, terminal_values, walk_node, walk_of}
use Rattle.log_cursor.specs.declared.start.Start.{Start}
use Rattle.log_cursor.proofs.TouchLemmas.{touching_rule-to}

module _ (few many : ℕ × ℕ) (these those : ℕ → Bool) where
  -- fewer rules, and symbols at fewer places
  pub search-within : ((place : ℕ) → IsTrue (is_among few place) → IsTrue (is_among many place)) → RulesWithin these those →
      ReadsWithin (search_needs few these) (search_needs many those)
  search-within places rules (ofPeriod period) none = absurd (cc none)
  search-within places rules (ofRule rule) is = rules rule is
  search-within places rules (ofSymbol place) is = places place is

  -- fewer rules, and symbols at the same places
  pub search-same : few ≡ many → RulesWithin these those → ReadsWithin (search_needs few these) (search_needs many those)
  search-same same = search-within (λ place is. subst (λ (p : ℕ × ℕ). IsTrue (is_among p place)) same is)

-- a search reads no more than what any other call may read in a log
pub search-log : (places : ℕ × ℕ) (rules : ℕ → Bool) → ReadsWithin (search_needs places rules) (log_needs places)
search-log places rules (ofPeriod period) none = absurd (cc none)
search-log places rules (ofRule rule) is = refl
search-log places rules (ofSymbol place) is = is

-- the symbols of a log stand at its places
pub symbol-among : (view : LogView) (i : ℕ) → i < length (log_of view) → IsTrue (is_among (places_of view) (view.from + i))
symbol-among view i less = may-symbol (log_needs (places_of view)) view i less (λ read is. is)

-- a test that passes only what has a box
abbrev pub boxed : (Cell → Option CellBox → Bool) → Cell → Option CellBox → Bool
boxed may cell hull = is_some hull && may cell hull

boxed-same : (may : Cell → Option CellBox → Bool) → ((cell : Cell) → may cell None ≡ false) →
    (cell : Cell) (hull : Option CellBox) → boxed may cell hull ≡ may cell hull
boxed-same may none cell None = sym (none cell)
boxed-same may none cell (Some hull) = refl

and-turned : (passes meets some : Bool) → (passes && (meets && some)) ≡ (meets && (some && passes))
and-turned true true true = refl
and-turned true true false = refl
and-turned true false some = refl
and-turned false true true = refl
and-turned false true false = refl
and-turned false false some = refl

-- a node stands for the same where it stands in a block
any-placed : (rules : RulesView) (start : Start) (rule : ℕ) (nodes : List RuleNode) →
    list_any (λ (node : WalkNode). bytes_eq (expansion_of rules rule) node.inside) (map (walk_node rules start) nodes)
    ≡ list_any (is_rule_of rules rule) nodes
any-placed rules start rule [] = refl
any-placed rules start rule (node ∷ nodes) =
    ap (λ rest. is_rule_of rules rule node || rest) (any-placed rules start rule nodes)

module _ (may : Cell → Option CellBox → Bool) where
  -- a walk with no nodes opens no rule
  pub walk_rule-none : (walk : WalkView) (rule : ℕ) → walk.nodes ≡ [] → walk_rule may walk rule ≡ false
  unfolding walk_rule
  walk_rule-none walk rule none = rw none refl

  module _ (from to : ℤ) (start : Start) (symbols : List ℕ) where
    -- the nodes of a walk have boxes, so it opens by a test what it opens by the test for a box besides
    pub walk_rule-boxed : (walk : WalkView) (rule : ℕ) → walk.nodes ≡ nodes_left walk.rules from to start symbols →
        walk_rule may walk rule ≡ opening_rule walk.rules (boxed may) from to start symbols rule
    unfolding walk_rule opening_rule nodes_left
    walk_rule-boxed walk rule is =
        let rules = walk.rules in
        let stands : WalkNode → Bool = λ node. bytes_eq (expansion_of rules rule) node.inside in
        let test : WalkNode → Bool = λ node. may node.cell (bounding_box_of (terminal_values rules node.inside)) in
        let passes : RuleNode → Bool = λ node. test (walk_node rules start node) in
        let opened : RuleNode → Bool = is_opened rules start.instant from to in
        let nodes = nodes_in rules symbols in
        ap (λ left. list_any stands (filter test left)) is
        ∙ ap (list_any stands) (filter-map test (walk_node rules start) (filter opened nodes))
        ∙ any-placed rules start rule (filter passes (filter opened nodes))
        ∙ ap (list_any (is_rule_of rules rule)) (sym (filter_and passes opened nodes)
        ∙ filter_agree (λ node. passes node && opened node) (is_opening rules (boxed may) from to start)
        (λ node. and-turned (passes node) (meets start.instant from to node)
        (is_some (bounding_box_of (terminal_values rules node.inside)))) nodes)

    -- a test for boxes passes the rules of a walk that a search by it opens
    pub walk_rule-opening : (walk : WalkView) (rule : ℕ) → ((cell : Cell) → may cell None ≡ false) →
        walk.nodes ≡ nodes_left walk.rules from to start symbols →
        walk_rule may walk rule ≡ opening_rule walk.rules may from to start symbols rule
    unfolding opening_rule
    walk_rule-opening walk rule none is =
        let nodes = nodes_in walk.rules symbols in
        walk_rule-boxed walk rule is
        ∙ ap (list_any (is_rule_of walk.rules rule))
        (filter_agree (is_opening walk.rules (boxed may) from to start) (is_opening walk.rules may from to start)
        (λ node. ap (λ passes. meets start.instant from to node && passes) (boxed-same may none _ _)) nodes)

module _ (may : Cell → Option CellBox → Bool) (none : (cell : Cell) → may cell None ≡ false) (pending : PendingView)
    (anchor : Option Stop) (at : Start) (from to : ℤ) where
  -- what a search by the test opens of the symbols that are left of a walk, the walk opens by it
  pub walk_rule-of : RulesWithin (opening_rule pending.rules may from to at pending.symbols)
      (walk_rule may (walk_of pending anchor at from to))
  walk_rule-of rule opens =
      rw (walk_rule-opening may from to at pending.symbols (walk_of pending anchor at from to) rule none refl) opens

  -- a walk whose symbols open no more by it than another walk needs no more
  pub walk_needs-on : (first : WalkView) → pending.places ≡ first.places →
      RulesWithin (opening_rule pending.rules may from to at pending.symbols) (walk_rule may first) →
      ReadsWithin (walk_needs may (walk_of pending anchor at from to)) (walk_needs may first)
  walk_needs-on first places opens =
      search-same pending.places first.places (walk_rule may (walk_of pending anchor at from to)) (walk_rule may first) places
      (λ rule is. opens rule (rw (walk_rule-opening may from to at pending.symbols (walk_of pending anchor at from to) rule none
      refl) at is))

-- a search of the symbols that are left of a walk reads no more than the walk by the search's test
pub search-walk : (region : Region) (pending : PendingView) (anchor : Option Stop) (at : Start) (from to : ℤ) →
    ReadsWithin (search_needs pending.places (touching_rule pending.rules at pending.symbols from to region))
    (walk_needs (touches_at region) (walk_of pending anchor at from to))
search-walk region pending anchor at from to =
    search-same pending.places pending.places (touching_rule pending.rules at pending.symbols from to region)
    (walk_rule (touches_at region) (walk_of pending anchor at from to)) refl
    (λ rule touches. walk_rule-of (touches_at region) (λ cell. refl) pending anchor at from to rule
    (touching_rule-to pending.rules from to region at pending.symbols rule touches))

-- where no symbol is left no rule is opened
pub opening_rule-none : (rules : RulesView) (may : Cell → Option CellBox → Bool) (from to : ℤ) (at : Start) (rule : ℕ) →
    opening_rule rules may from to at [] rule ≡ false
unfolding opening_rule nodes_in
opening_rule-none rules may from to at rule = refl
