use Rattle.std.proofs.Common.{◌≡◌, false, true, All, subst, sym, ap, ◌∙◌, arith}
use Rattle.k2_tree.specs.Areas.{area_at, IsBoxInside}
use Rattle.k2_tree.specs.Squares.{node}
use Rattle.box_tree.specs.BoxWalk.{walk_tests}
use Rattle.box_tree.specs.Levels.{digits}
use Rattle.box_tree.specs.Places.{ArePassed, Square, box_at, square_places}
use Rattle.box_tree.specs.Tests.{Tests}
use Rattle.box_tree.specs.Tree.{TreeView, levels_of, node_at, node_square, node_prefix}
use Rattle.box_tree.proofs.MonotoneLemmas.{passed-areas}
use Rattle.box_tree.proofs.NodeLemmas.{skipped-box, skipped-square}
use Rattle.box_tree.proofs.VisitLemmas.{skipped}
use Rattle.box_tree.proofs.walk.BoxWalk.visit.Goals as goal
use Rattle.box_tree.proofs.walk.BoxWalk.visit.Given.{Over}
use Rattle.box_tree.proofs.walk.BoxWalk.visit.Goals.{After-square-square, After-tree-tree}

-- the tests are monotone
mono : (g : Over) (c : After-tree-tree g) → ArePassed (walk_tests g.S.Search.squares g.S.Search.boxes c.args.self.now)
mono g c =
    let walk = c.args.self.now in
    passed-areas walk.walk.tree.base c.tree-tree.ensures.base (g.S.Search.squares walk.search)
    (g.S.Search.boxes walk.search)
    (g.met.S.Search.monotone walk.search)

-- what the test of its square is
told : (g : Over) (c : After-square-square g)
    → (walk_tests g.S.Search.squares g.S.Search.boxes c.args.self.now).square
    (node (digits (levels_of c.args.self.now.walk.tree.narrow c.args.taken)) (node_prefix c.args.taken))
    ≡ g.S.Search.squares c.args.self.now.search c.square-square.result
told g c =
    let squares = g.S.Search.squares c.args.self.now.search in
    let tree : TreeView = c.args.self.now.walk.tree in
    ap (λ n. squares (area_at tree.base (node n (node_prefix c.args.taken)))) c.requires.of.level
    ∙ ap squares (ap (λ (t : TreeView). area_at t.base (node_at c.args.taken)) (sym c.tree-tree.ensures.value)
    ∙ sym c.square-square.ensures.value)

pub returns-then-not-meets_box-clause-visited : goal.returns-then-not-meets_box-clause-visited
returns-then-not-meets_box-clause-visited g c =
    let tests : Tests = walk_tests g.S.Search.squares g.S.Search.boxes c.args.self.now in
    let tree : TreeView = c.args.self.now.walk.tree in
    let square : Square = node_square tree.narrow c.args.taken in
    let covers = subst (λ (t : TreeView). All (λ place. IsBoxInside (box_at t.places.boxes place) c.area-area.result)
    (square_places t.places (node_square t.narrow c.args.taken))) c.tree-tree.ensures.value c.area-area.ensures.covers in
    skipped tests c.args.self.now.walk square c.args.steps.now c.area-area.new.steps
    (skipped-box tests (mono g (goal.at.returns-then-not-meets_box-clause-visited g c).After-tree-tree) tree.places
    (square_places tree.places square)
    c.area-area.result covers (sym c.meets_box.ensures ∙ c.if-not-meets_box.true))
    (omega (arith, c.area-area.ensures.cost))

pub returns-then-not-meets_square-clause-visited : goal.returns-then-not-meets_square-clause-visited
returns-then-not-meets_square-clause-visited g c =
    let tests : Tests = walk_tests g.S.Search.squares g.S.Search.boxes c.args.self.now in
    let at = goal.at.returns-then-not-meets_square-clause-visited g c in
    let tree : TreeView = c.args.self.now.walk.tree in
    let square : Square = node_square tree.narrow c.args.taken in
    let fails : tests.square (node (digits square.levels) square.prefix) ≡ false =
    told g at.After-square-square ∙ sym c.meets_square.ensures ∙ c.if-not-meets_square.true in
    skipped tests c.args.self.now.walk square c.args.steps.now c.area-area.new.steps
    (skipped-square tests (mono g at.After-tree-tree) tree.places (digits square.levels) square.prefix
    (omega (arith, c.requires.of.level, c.requires.of.deep)) c.tree-tree.ensures.are fails)
    (omega (arith, c.area-area.ensures.cost))

pub returns-clause-visited : goal.returns-clause-visited
returns-clause-visited g c =
    let tests : Tests = walk_tests g.S.Search.squares g.S.Search.boxes c.args.self.now in
    let square : Square = node_square c.args.self.now.walk.tree.narrow c.args.taken in
    let holds : tests.square (node (digits square.levels) square.prefix) ≡ true =
    told g (goal.at.returns-clause-visited g c).After-square-square ∙ sym c.meets_square.ensures
    ∙ c.if-not-meets_square.false in
    let paid = c.open.ensures.opened.reads tests.square holds in
    record {
      tree = c.open.ensures.tree;
      left = c.open.ensures.opened.left tests;
      reads = omega (arith, paid, c.open.ensures.cost, c.area-area.ensures.cost);
      turns = c.open.ensures.opened.turns;
    }
