use Rattle.std.proofs.Common.{◌≡◌, ◌∷◌, true, false, sym, ap, ◌∙◌, arith}
use Rattle.box_tree.specs.Places.{place_passes}
use Rattle.box_tree.specs.BoxWalk.{walk_tests}
use Rattle.box_tree.specs.Tests.{Tests, tests_at}
use Rattle.box_tree.specs.Tree.{TreeView}
use Rattle.box_tree.specs.Walk.{NodeWalkView, places_left}
use Rattle.box_tree.proofs.VisitLemmas.{left-kept, left-passed, reads-place}
use Rattle.box_tree.proofs.walk.BoxWalk.scan.Goals as goal
use Rattle.box_tree.proofs.walk.BoxWalk.scan.Given.{Over}
use Rattle.box_tree.proofs.walk.BoxWalk.scan.Goals.{After-meets}

-- what the test said of the next place
told : (g : Over) (c : After-meets g)
    → place_passes (walk_tests g.S.Search.squares g.S.Search.boxes c.args.self.now) c.loop-place.self.walk.tree.places
    c.loop-place.self.walk.low
    ≡ c.meets.result
told g c =
    let S = g.S.Search in
    let it = c.in-Some.ensures in
    let first = c.args.self.now in
    let now : NodeWalkView = c.loop-place.self.walk in
    let new : NodeWalkView = c.next_place.new.self in
    sym (c.meets.ensures.value
    ∙ ap (λ s. place_passes (tests_at new.tree.base (S.squares s)
    (S.boxes s)) new.tree.places c.in-Some.place) c.loop-place.invariant.0
    ∙ ap (λ (t : TreeView). place_passes
    (tests_at t.base (S.squares first.search) (S.boxes first.search)) t.places c.in-Some.place) it.tree
    ∙ ap (place_passes (tests_at now.tree.base (S.squares first.search) (S.boxes first.search)) now.tree.places) it.first
    ∙ ap (λ (t : TreeView). place_passes
    (tests_at t.base (S.squares first.search) (S.boxes first.search)) now.tree.places now.low)
    c.loop-place.invariant.1.tree)

pub returns-then-meets-clause-scanned : goal.returns-then-meets-clause-scanned
returns-then-meets-clause-scanned g c =
    let tests : Tests = walk_tests g.S.Search.squares g.S.Search.boxes c.args.self.now in
    let is = c.loop-place.invariant.1 in
    let it = c.in-Some.ensures in
    let now : NodeWalkView = c.loop-place.self.walk in
    let new : NodeWalkView = c.next_place.new.self in
    let holds : place_passes tests now.tree.places now.low ≡ true =
    told g (goal.at.returns-then-meets-clause-scanned g c).After-meets ∙ c.if-meets.true in
    let paid = reads-place tests now new it.tree it.some it.low it.high it.pending in
    record {
      tree = it.tree ∙ is.tree;
      pending = it.pending ∙ is.pending;
      left = is.left ∙ left-kept tests now new it.tree it.some it.low it.high it.pending holds
          ∙ ap (λ p. p ∷ places_left tests new) (sym it.first);
      reads = omega (arith, is.reads, paid, c.meets.ensures.cost);
    }

pub loop-place-preserved : goal.loop-place-preserved
loop-place-preserved g c =
    let tests : Tests = walk_tests g.S.Search.squares g.S.Search.boxes c.args.self.now in
    let is = c.loop-place.invariant.1 in
    let it = c.in-Some.ensures in
    let now : NodeWalkView = c.loop-place.self.walk in
    let new : NodeWalkView = c.next_place.new.self in
    let fails : place_passes tests now.tree.places now.low ≡ false =
    told g (goal.at.loop-place-preserved g c).After-meets ∙ c.if-meets.false in
    let paid = reads-place tests now new it.tree it.some it.low it.high it.pending in (
      c.loop-place.invariant.0,
      record {
        tree = it.tree ∙ is.tree;
        pending = it.pending ∙ is.pending;
        left = is.left ∙ left-passed tests now new it.tree it.some it.low it.high it.pending fails;
        reads = omega (arith, is.reads, paid, c.meets.ensures.cost);
      },
    )
