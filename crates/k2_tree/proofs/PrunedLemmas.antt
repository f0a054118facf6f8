-- Pruned walks: what a square that is visited changes, and walks over a whole tree.
use Rattle.std.proofs.Common.{◌≡◌, ℕ, ◌+◌, ◌-◌, ◌*◌, ◌<◌, ◌≤◌, Bool, true, false}
use Rattle.std.proofs.Common.{List, [], ◌∷◌, ◌++◌, map, filter, refl, sym, ap, ◌∙◌, arith}
use Rattle.std.specs.List.{enumerate_from, flat_map, sum_by}
use Rattle.std.proofs.lemmas.Grind.{flat_map-append}
use Rattle.std.proofs.lemmas.List.Folds.{flat_map-map}
use Rattle.std.proofs.lemmas.List.Sums.{sum_by-cons, sum_by-append}
use Rattle.list_laws.proofs.FilterLemmas.{sum_by_if}
use Rattle.list_laws.proofs.FlatLemmas.{sum_by-map}
use Rattle.track_types.specs.declared.cell.Cell.{Cell}
use Rattle.track_types.specs.declared.cell_box.CellBox.{CellBox}
use Rattle.k2_tree.specs.Morton.{morton_of}
use Rattle.k2_tree.specs.Widths.{digits_in, width_below, widths_under}
use Rattle.k2_tree.specs.TreeBits.{prefixes}
use Rattle.k2_tree.specs.Squares.{Node, node, squares_from}
use Rattle.k2_tree.specs.Tree.{Tree, codes_of, tree_widths, IsTree}
use Rattle.k2_tree.specs.SquareWalk.{SquareWalkView, top_nodes}
use Rattle.k2_tree.specs.Pruning.{child_nodes, child_prefixes, kept_below, passes, weight_below, leaf_of, kept_leaves}
use Rattle.k2_tree.specs.Pruning.{on_areas, passes_at, square_count}
use Rattle.k2_tree.specs.Pruned.{kept_in, reads_of, walk_budget, walk_left, weight_in}
use Rattle.k2_tree.specs.Cost.{child_reads}
use Rattle.k2_tree.proofs.CellLemmas.{cells_back}
use Rattle.k2_tree.proofs.WidthLemmas.{digits_in-widths_under, digits_in-widths_of, widths_under-none}
use Rattle.k2_tree.proofs.WidthLemmas.{widths_under-opened, widths_under-top, width_below-within}
use Rattle.k2_tree.proofs.PruningLemmas.{kept_in-opened, leaves-enumerated, kept_below-all, weight_below-all}

-- what a test keeps of a square: nothing where it fails, the own number of a cell, else what it keeps of the children
module _ (test : Node → Bool) (tree : Tree) where
  abbrev low : ℕ
  low = tree.height - 2 * tree.wide

  kept_in-failed : (level prefix : ℕ) → test (node level prefix) ≡ false → kept_in test tree (node level prefix) ≡ []
  unfolding kept_below digits_in
  kept_in-failed level prefix fails =
      by_widths (widths_under low level) (ap (λ n. test (node n prefix)) (digits_in-widths_under low level) ∙ fails)
    where
      by_widths : (ws : List ℕ) → test (node (digits_in ws) prefix) ≡ false → kept_below test (codes_of tree) ws prefix
          ≡ []
      by_widths [] off = rw off refl
      by_widths (w ∷ ws) off = rw off refl

  kept_in-cell : (level prefix : ℕ) → level ≡ 0 → test (node level prefix) ≡ true
      → kept_in test tree (node level prefix) ≡ prefix ∷ []
  unfolding kept_below
  kept_in-cell level prefix cell holds =
      let none : widths_under low level ≡ [] = ap (widths_under low) cell ∙ widths_under-none low in
      let on : test (node 0 prefix) ≡ true = ap (λ n. test (node n prefix)) (sym cell) ∙ holds in
      rw none (own on)
    where
      own : test (node 0 prefix) ≡ true → kept_below test (codes_of tree) [] prefix ≡ prefix ∷ []
      own on = rw on refl

-- the weights of a square are its own and those of its children
module _ (weight : Node → ℕ) (tree : Tree) where
  abbrev low_of : ℕ
  low_of = tree.height - 2 * tree.wide

  weight_in-opened : (level prefix : ℕ) → 1 ≤ level
      → weight_in weight tree (node level prefix)
      ≡ weight (node level prefix) + sum_by (weight_in weight tree) (child_nodes tree (node level prefix))
  unfolding weight_below
  weight_in-opened level prefix some =
      let w : ℕ = width_below low_of level in
      let n : ℕ = level - w in
      let digits : digits_in (widths_under low_of n) ≡ n = digits_in-widths_under low_of n in
      let whole : w + n ≡ level = omega (arith, (width_below-within low_of level some).1) in
      rw (widths_under-opened low_of level some, digits, whole)
      (ap (λ k. weight (node level prefix) + k)
      (sym (sum_by-map (weight_in weight tree) (node n) (child_prefixes w n (codes_of tree) prefix))))

  weight_in-least : (level prefix : ℕ) → weight (node level prefix) ≤ weight_in weight tree (node level prefix)
  unfolding weight_below digits_in
  weight_in-least level prefix =
      omega (
        arith,
        by_widths (widths_under low_of level),
        ap (λ n. weight (node n prefix)) (digits_in-widths_under low_of level),
      )
    where
      by_widths : (ws : List ℕ) → weight (node (digits_in ws) prefix) ≤ weight_below weight (codes_of tree) ws prefix
      by_widths [] = omega arith
      by_widths (w ∷ ws) = omega arith

-- how many squares are still to be visited, those below them too
abbrev pub turns_of : SquareWalkView → ℕ
turns_of walk = sum_by (weight_in (λ square. 1) walk.tree) walk.pending

-- a square was taken off, and the test says so much of it
pub record IsVisited (keep : CellBox → Bool) (old new : SquareWalkView) (square : Node) (answer : Bool) : Type 0 where
  pub tree : new.tree ≡ old.tree
  pub pending : old.pending ≡ square ∷ new.pending
  pub told : on_areas keep old.tree square ≡ answer

-- the same leaves are left for so many reads, and fewer squares
pub record IsFurther (keep : CellBox → Bool) (reads : ℕ) (old new : SquareWalkView) : Type 0 where
  pub left : walk_left keep new ≡ walk_left keep old
  pub budget : walk_budget keep new + reads ≤ walk_budget keep old
  pub fewer : turns_of new < turns_of old

module _ {keep : CellBox → Bool} {old new : SquareWalkView} {square : Node} {answer : Bool}
    (visit : IsVisited keep old new square answer) where
  abbrev test : Node → Bool
  test = on_areas keep old.tree

  abbrev reads : Node → ℕ
  reads = weight_in (reads_of test) old.tree

  abbrev turns : Node → ℕ
  turns = weight_in (λ square. 1) old.tree

  -- one that fails is skipped with all that is in it
  pub skipped : answer ≡ false → IsFurther keep 0 old new
  skipped fails =
      let none = kept_in-failed test old.tree square.level square.prefix (visit.told ∙ fails) in
      let least = weight_in-least (λ square. 1) old.tree square.level square.prefix in
      record {
        left = rw (visit.tree, visit.pending, none) refl;
        budget = rw (visit.tree, visit.pending) (omega (arith, sum_by-cons reads square new.pending));
        fewer = rw (visit.tree, visit.pending) (omega (arith, sum_by-cons turns square new.pending, least));
      }

  -- a cell that passes is found
  pub yielded : square.level ≡ 0 → answer ≡ true → walk_left keep old
      ≡ leaf_of old.tree square.prefix ∷ walk_left keep new
  yielded cell holds =
      let one = kept_in-cell test old.tree square.level square.prefix cell (visit.told ∙ holds) in
      rw (visit.tree, visit.pending, one) refl

  -- children have the weight of their square but for its own
  traded : (weight : Node → ℕ) → 1 ≤ square.level
      → sum_by (weight_in weight old.tree) (child_nodes old.tree square ++ new.pending) + weight square
      ≡ sum_by (weight_in weight old.tree) (square ∷ new.pending)
  traded weight some =
      let below = sum_by-append (weight_in weight old.tree) (child_nodes old.tree square) new.pending in
      let first = sum_by-cons (weight_in weight old.tree) square new.pending in
      omega (arith, below, first, weight_in-opened weight old.tree square.level square.prefix some)

  -- another square that passes gives way to its children
  pub given_way : {opened : SquareWalkView} → 1 ≤ square.level → answer ≡ true → opened.tree ≡ new.tree
      → opened.pending ≡ child_nodes new.tree square ++ new.pending → IsFurther keep child_reads old opened
  given_way some holds same pending =
      let below : List Node = child_nodes old.tree square in
      let passes : test square ≡ true = visit.told ∙ holds in
      let own : reads_of test square ≡ child_reads = rw passes refl in
      let kept = kept_in-opened test (old.tree.height - 2 * old.tree.wide) (codes_of old.tree) square.level square.prefix some passes in
      record {
        left = rw (same, pending, visit.tree, visit.pending) (ap (map (leaf_of old.tree))
            (flat_map-append (kept_in test old.tree) below new.pending
            ∙ ap (λ codes. codes ++ flat_map (kept_in test old.tree) new.pending) (sym kept)));
        budget = rw (same, pending, visit.tree, visit.pending) (omega (arith, own, traded (reads_of test) some));
        fewer = rw (same, pending, visit.tree, visit.pending) (omega (arith, traded (λ square. 1) some));
      }

-- a walk at its beginning: the leaves that pass are left, and one window and one rank for each square that passes
module _ (keep : CellBox → Bool) {tree : Tree} (walk : SquareWalkView) (is : IsTree tree) (same : walk.tree ≡ tree)
    (top : walk.pending ≡ top_nodes tree) where
  abbrev codes : List ℕ
  codes = codes_of tree

  abbrev test_of : Node → Bool
  test_of = on_areas keep tree

  same_levels : (widths_under (tree.height - 2 * tree.wide) tree.height ≡ tree_widths tree) ×
      (digits_in (tree_widths tree) ≡ tree.height)
  same_levels = (widths_under-top tree.height tree.wide is.fits, digits_in-widths_of tree.height tree.wide is.fits)

  pub left_whole : walk_left keep walk ≡ kept_leaves keep tree
  unfolding passes_at
  left_whole =
      let e = same_levels in
      let whole : flat_map (kept_below test_of codes (tree_widths tree)) (prefixes tree.height codes)
      ≡ filter (passes test_of (tree_widths tree)) codes =
      ap (λ n. flat_map (kept_below test_of codes (tree_widths tree)) (prefixes n codes)) (sym e.1)
      ∙ kept_below-all test_of (tree_widths tree) codes is.codes.rising in
      let kept : flat_map (kept_in test_of tree) (top_nodes tree) ≡ filter (passes test_of (tree_widths tree)) codes =
      flat_map-map (kept_in test_of tree) (node tree.height) (prefixes tree.height codes)
      ∙ ap (λ ws. flat_map (kept_below test_of codes ws) (prefixes tree.height codes)) e.0 ∙ whole in
      rw (top, same) (ap (map (leaf_of tree)) kept
      ∙ leaves-enumerated tree.height tree.base (passes test_of (tree_widths tree)) codes
      (record { rising = is.codes.rising; small = is.codes.small })
      ∙ ap (λ cells. filter
      (λ (leaf : ℕ × Cell). passes test_of (tree_widths tree) (morton_of tree.height tree.base leaf.1))
      (enumerate_from 0 cells)) (cells_back tree.height tree.base tree.cells is.inside))

  pub budget_whole : walk_budget keep walk ≡ child_reads * square_count keep tree
  budget_whole =
      let e = same_levels in
      rw (top, same) (sum_by-map (weight_in (reads_of test_of) tree) (node tree.height) (prefixes tree.height codes)
      ∙ ap (λ ws. sum_by (weight_below (reads_of test_of) codes ws) (prefixes tree.height codes)) e.0
      ∙ ap (λ n. sum_by (weight_below (reads_of test_of) codes (tree_widths tree)) (prefixes n codes)) (sym e.1)
      ∙ weight_below-all (reads_of test_of) (tree_widths tree) codes is.codes.rising
      ∙ sum_by_if child_reads test_of (squares_from (tree_widths tree) codes))
