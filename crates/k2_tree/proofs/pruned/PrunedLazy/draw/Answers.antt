use Rattle.std.proofs.Common.{◌≡◌, ℕ, ◌+◌, ◌≤◌, Bool, refl, sym, ◌∙◌, arith}
use Rattle.std.proofs.lemmas.Bool.{false≢true}
use Rattle.track_types.specs.declared.cell_box.CellBox.{CellBox}
use Rattle.k2_tree.specs.TreeSquares.{level_of, node_of}
use Rattle.k2_tree.specs.SquareWalk.{SquareWalkView}
use Rattle.k2_tree.specs.Cost.{child_reads}
use Rattle.k2_tree.proofs.PrunedLemmas.{given_way, skipped, yielded, IsFurther, IsVisited}
use Rattle.k2_tree.proofs.pruned.PrunedLazy.draw.Goals as goal
use Rattle.k2_tree.proofs.pruned.PrunedLazy.draw.Given.{Over}
use Rattle.k2_tree.proofs.pruned.PrunedLazy.draw.Goals.{After-passes, After-open}
use Rattle.k2_tree.proofs.pruned.PrunedLazy.draw.Invariants.{IsDrawing}

-- the square that is visited, and what the test says of it
visited : (g : Over) (c : After-passes g)
    → IsVisited (g.F.Keep.keeps c.args.self.now.keep) c.loop-square.self.walk c.next_square.new.self
    (node_of c.in-Some.square) c.passes.result
visited g c = record {
  tree = c.in-Some.ensures.tree;
  pending = c.in-Some.ensures.pending;
  told = rw (← c.loop-square.invariant.0, ← c.in-Some.ensures.of.base) (sym c.passes.ensures);
}

-- one that passes, and is no cell, gives way to its children
gives_way : (g : Over) (c : After-open g)
    → IsVisited (g.F.Keep.keeps c.args.self.now.keep) c.loop-square.self.walk c.next_square.new.self
    (node_of c.in-Some.square) c.passes.result
    → IsFurther (g.F.Keep.keeps c.args.self.now.keep) child_reads c.loop-square.self.walk c.open.new.self
gives_way g c visit =
    let above : level_of c.in-Some.square ≡ 0 → ⊥ = λ e. false≢true (c.if-is_leaf.ensures.1 e) in
    given_way visit (omega arith) c.if-not-passes.false c.open.ensures.tree c.open.ensures.pending

-- and so the walk goes on
goes_on : {keep : CellBox → Bool} {first now new : SquareWalkView} {begun steps steps' reads : ℕ}
    → IsDrawing keep first now begun steps → new.tree ≡ now.tree → IsFurther keep reads now new → steps' ≤ steps + reads
    → IsDrawing keep first new begun steps'
goes_on drawing tree further paid = record {
  same = tree ∙ drawing.same;
  left = further.left ∙ drawing.left;
  cost = omega (arith, further.budget, drawing.cost, paid);
}

pub loop-square-smaller-then-not-passes : goal.loop-square-smaller-then-not-passes
loop-square-smaller-then-not-passes g c =
    let at = goal.at.loop-square-smaller-then-not-passes g c in
    (skipped (visited g at.After-passes) c.if-not-passes.true).fewer

pub loop-square-preserved-then-not-passes : goal.loop-square-preserved-then-not-passes
loop-square-preserved-then-not-passes g c =
    let at = goal.at.loop-square-preserved-then-not-passes g c in
    let step = skipped (visited g at.After-passes) c.if-not-passes.true in
    (c.loop-square.invariant.0, goes_on c.loop-square.invariant.1 c.in-Some.ensures.tree step (omega arith))

pub returns-then-is_leaf-clause-found : goal.returns-then-is_leaf-clause-found
returns-then-is_leaf-clause-found g c =
    let mid = c.next_square.new.self in
    let visit = visited g (goal.at.returns-then-is_leaf-clause-found g c).After-passes in
    sym c.loop-square.invariant.1.left ∙ yielded visit (c.if-is_leaf.ensures.0 refl) c.if-not-passes.false
    ∙ (rw (← c.in-Some.ensures.tree, ← c.leaf.ensures.value, ← c.loop-square.invariant.0) refl)

pub returns-then-is_leaf-clause-tree : goal.returns-then-is_leaf-clause-tree
returns-then-is_leaf-clause-tree g c = c.in-Some.ensures.tree ∙ c.loop-square.invariant.1.same

pub returns-then-is_leaf-clause-leaf : goal.returns-then-is_leaf-clause-leaf
returns-then-is_leaf-clause-leaf g c =
    rw (c.in-Some.ensures.tree ∙ c.loop-square.invariant.1.same) at c.leaf.ensures.found

pub returns-clause-tree : goal.returns-clause-tree
returns-clause-tree g c = c.next_square.ensures.tree ∙ c.loop-square.invariant.1.same

pub loop-square-smaller : goal.loop-square-smaller
loop-square-smaller g c =
    let at = goal.at.loop-square-smaller g c in (gives_way g at.After-open (visited g at.After-passes)).fewer

pub loop-square-preserved : goal.loop-square-preserved
loop-square-preserved g c =
    let at = goal.at.loop-square-preserved g c in
    let step = gives_way g at.After-open (visited g at.After-passes) in (
      c.loop-square.invariant.0,
      goes_on c.loop-square.invariant.1 (c.open.ensures.tree ∙ c.in-Some.ensures.tree) step c.open.ensures.cost,
    )
