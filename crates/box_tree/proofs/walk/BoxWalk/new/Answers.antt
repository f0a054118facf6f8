use Rattle.std.proofs.Common.{◌≤◌, ap, subst, sym, ◌∙◌}
use Rattle.box_tree.specs.BoxWalk.{search_reads}
use Rattle.box_tree.specs.Tests.{squares_at, tests_at}
use Rattle.box_tree.specs.Tree.{TreeView}
use Rattle.box_tree.specs.Walk.{places_left, walk_reads}
use Rattle.box_tree.proofs.BeginLemmas.{IsBegun, begun}
use Rattle.box_tree.proofs.MonotoneLemmas.{passed-areas}
use Rattle.box_tree.proofs.walk.BoxWalk.new.Goals as goal
use Rattle.box_tree.proofs.walk.BoxWalk.new.Given.{Over}
use Rattle.box_tree.proofs.walk.BoxWalk.new.Goals.{After-new}

at_first : (g : Over) (c : After-new g)
    → IsBegun (tests_at c.args.tree.now.base (g.S.Search.squares c.args.search)
    (g.S.Search.boxes c.args.search)) c.args.tree.now.places c.new.result
at_first g c =
    let tree : TreeView = c.args.tree.now in
    let squares = g.S.Search.squares c.args.search in
    let boxes = g.S.Search.boxes c.args.search in
    let f = c.wanted-root.ensures in
    let n = c.new.ensures in
    begun (tests_at tree.base squares boxes)
    (passed-areas tree.base f.base squares boxes (g.met.S.Search.monotone c.args.search)) tree f.places f.deep
    c.new.result n.tree n.low n.high c.wanted-root.result f.none f.some f.holds n.none n.pending

pub returns-clause-left : goal.returns-clause-left
returns-clause-left g c =
    let S = g.S.Search in
    let search = c.args.search in
    ap (λ (t : TreeView). places_left
    (tests_at t.base (S.squares search) (S.boxes search)) c.new.result) c.new.ensures.tree
    ∙ (at_first g (goal.at.returns-clause-left g c).After-new).left

pub returns-clause-budget : goal.returns-clause-budget
returns-clause-budget g c =
    let squares = g.S.Search.squares c.args.search in
    subst (λ (t : TreeView). walk_reads (squares_at t.base squares) c.new.result ≤ search_reads squares c.args.tree.now)
    (sym c.new.ensures.tree) (at_first g (goal.at.returns-clause-budget g c).After-new).reads
