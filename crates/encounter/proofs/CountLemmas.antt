-- How many nodes pass a test with some of others, where nodes are taken off.
use Rattle.std.proofs.Common.{◌≡◌, ℕ, suc, ◌≤◌, ℤ, Bool, true, false, List, ◌∷◌, ◌++◌, length, filter, map, refl, ap, sym, ◌∙◌, arith}
use Rattle.std.specs.Prelude.{◌||◌}
use Rattle.std.specs.List.{list_any}
use Rattle.std.proofs.lemmas.List.{length-append, map-append}
use Rattle.std.proofs.lemmas.List.Elements.{filter-append}
use Rattle.std.proofs.lemmas.List.Folds.{list_any-append}
use Rattle.list_laws.proofs.FilterLemmas.{length-filter-le}
use Rattle.track_types.specs.declared.stop.Stop.{Stop}
use Rattle.encounter.specs.Party.{both_trees}
use Rattle.encounter.specs.Span.{Span, BlockTree, close_count, count_with, is_close, tree_nodes, span_at}

or-later : (a b : Bool) → b ≡ true → (a || b) ≡ true
or-later true b later = refl
or-later false b later = later

inner-or : (a b c d : Bool) → (b || d) ≡ true → ((a || b) || (c || d)) ≡ true
inner-or true b c d some = refl
inner-or false true c d some = refl
inner-or false false true d some = refl
inner-or false false false d some = some

module _ (test : Span → Span → Bool) where
  -- fewer nodes count no more
  pub count_with-fewer : (front nodes others : List Span) →
      count_with test nodes others ≤ count_with test (front ++ nodes) others
  unfolding count_with
  count_with-fewer front nodes others =
      let both = filter-append (λ node. list_any (test node) others) front nodes in
      let long = length-append (filter (λ node. list_any (test node) others) front)
      (filter (λ node. list_any (test node) others) nodes) in
      omega (arith, ap length both, long)

  -- with fewer others they count no more, where each of the fewer is one of the others
  pub count_with-weaker : (nodes some others : List Span) →
      ((node : Span) → list_any (test node) some ≡ true → list_any (test node) others ≡ true) →
      count_with test nodes some ≤ count_with test nodes others
  unfolding count_with
  count_with-weaker nodes some others more =
      length-filter-le (λ node. list_any (test node) some) (λ node. list_any (test node) others) nodes
      (λ k d within. more _)

  -- a node that counts
  pub count_with-one : (node : Span) (nodes others : List Span) → list_any (test node) others ≡ true →
      count_with test (node ∷ nodes) others ≡ suc (count_with test nodes others)
  unfolding count_with
  count_with-one node nodes others counts = rw counts refl

-- a test that some node of a tree passes is passed in a tree that goes on to it
pub any-later : (test : Span → Bool) (own later : BlockTree) → list_any test (tree_nodes later) ≡ true →
    list_any test (tree_nodes (both_trees own later)) ≡ true
any-later test own later some =
    let stops = ap (list_any test) (map-append span_at own.stops later.stops) in
    let one = list_any-append test (map span_at own.stops) (map span_at later.stops) in
    let two = list_any-append test own.rules later.rules in
    let whole = list_any-append test (map span_at (own.stops ++ later.stops)) (own.rules ++ later.rules) in
    let parts = list_any-append test (map span_at later.stops) later.rules in
    whole ∙ rw (stops, one, two) (inner-or (list_any test (map span_at own.stops))
    (list_any test (map span_at later.stops)) (list_any test own.rules) (list_any test later.rules) (sym parts ∙ some))

-- the same, where a rule gives way to its parts
pub any-opened : (test : Span → Bool) (node : Span) (stops : List Stop) (rules : List Span) →
    list_any test (map span_at stops ++ rules) ≡ true → list_any test (map span_at stops ++ node ∷ rules) ≡ true
any-opened test node stops rules some =
    let whole = list_any-append test (map span_at stops) (node ∷ rules) in
    let parts = list_any-append test (map span_at stops) rules in
    grind (arith, whole, parts, some)

-- the first stop, or the first rule of a tree, is one of its nodes
pub any-stop : (test : Span → Bool) (stop : Stop) (stops : List Stop) (rules : List Span) →
    test (span_at stop) ≡ true → list_any test (map span_at (stop ∷ stops) ++ rules) ≡ true
any-stop test stop stops rules holds = rw holds refl

pub any-rule : (test : Span → Bool) (node : Span) (stops : List Stop) (rules : List Span) →
    test node ≡ true → list_any test (map span_at stops ++ node ∷ rules) ≡ true
any-rule test node stops rules holds =
    let whole = list_any-append test (map span_at stops) (node ∷ rules) in
    whole ∙ or-later (list_any test (map span_at stops)) (list_any test (node ∷ rules)) (rw holds refl)

module _ (from to : ℤ) (reach : ℕ) where
  abbrev near : Span → Span → Bool
  near = is_close from to reach

  abbrev near_of : Span → Span → Bool
  near_of node other = is_close from to reach other node

  -- a node that is passed takes none of the later ones from the count
  pub close_count-left : (own later right : BlockTree) →
      close_count from to reach later right ≤ close_count from to reach (both_trees own later) right
  unfolding close_count
  close_count-left own later right =
      let one = count_with-fewer near own.rules later.rules (tree_nodes right) in
      let two = count_with-weaker near_of right.rules (tree_nodes later) (tree_nodes (both_trees own later))
      (λ node some. any-later (near_of node) own later some) in
      omega (arith, one, two)

  pub close_count-right : (left own later : BlockTree) →
      close_count from to reach left later ≤ close_count from to reach left (both_trees own later)
  unfolding close_count
  close_count-right left own later =
      let one = count_with-fewer near_of own.rules later.rules (tree_nodes left) in
      let two = count_with-weaker near left.rules (tree_nodes later) (tree_nodes (both_trees own later))
      (λ node some. any-later (near node) own later some) in
      omega (arith, one, two)

  -- a rule that is opened counts one, where it is close to a node of the other block
  pub close_count-left_opened : (node : Span) (stops : List Stop) (rules : List Span) (right : BlockTree) →
      list_any (near node) (tree_nodes right) ≡ true →
      suc (close_count from to reach (record { stops = stops; rules = rules }) right)
      ≤ close_count from to reach (record { stops = stops; rules = node ∷ rules }) right
  unfolding close_count
  close_count-left_opened node stops rules right counts =
      let one = count_with-one near node rules (tree_nodes right) counts in
      let two = count_with-weaker near_of right.rules (map span_at stops ++ rules) (map span_at stops ++ node ∷ rules)
      (λ other some. any-opened (near_of other) node stops rules some) in
      omega (arith, one, two)

  pub close_count-right_opened : (left : BlockTree) (node : Span) (stops : List Stop) (rules : List Span) →
      list_any (near_of node) (tree_nodes left) ≡ true →
      suc (close_count from to reach left (record { stops = stops; rules = rules }))
      ≤ close_count from to reach left (record { stops = stops; rules = node ∷ rules })
  unfolding close_count
  close_count-right_opened left node stops rules counts =
      let one = count_with-one near_of node rules (tree_nodes left) counts in
      let two = count_with-weaker near left.rules (map span_at stops ++ rules) (map span_at stops ++ node ∷ rules)
      (λ other some. any-opened (near other) node stops rules some) in
      omega (arith, one, two)
