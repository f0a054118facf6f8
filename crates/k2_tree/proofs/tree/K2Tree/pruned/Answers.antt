use Rattle.std.proofs.Common.{◌≡◌, ap, ◌∙◌}
use Rattle.std.specs.List.{sum_by}
use Rattle.list_laws.proofs.FilterLemmas.{sum_by-filter}
use Rattle.k2_tree.specs.SquareWalk.{SquareWalkView}
use Rattle.k2_tree.specs.Pruning.{kept_leaves, leaves_of, passes_at, wanted_of}
use Rattle.k2_tree.specs.Pruned.{walk_budget, walk_left}
use Rattle.k2_tree.proofs.KeptLemmas.{kept_leaves-wanted}
use Rattle.k2_tree.proofs.PrunedLemmas.{budget_whole, left_whole}
use Rattle.k2_tree.proofs.tree.K2Tree.pruned.Goals as goal
use Rattle.k2_tree.proofs.tree.K2Tree.pruned.Given.{Over}
use Rattle.k2_tree.proofs.tree.K2Tree.pruned.Goals.{After-new-2}

pub returns-clause-tree : goal.returns-clause-tree
returns-clause-tree g c = ap (λ (w : SquareWalkView). w.tree) c.new-2.ensures.walk ∙ c.new.ensures.tree

-- what is left at the beginning
left : (g : Over) (c : After-new-2 g)
    → walk_left (g.F.Keep.keeps c.new-2.result.keep) c.new-2.result.walk
    ≡ kept_leaves (g.F.Keep.keeps c.args.keep) c.args.self.now
left g c =
    let facts = c.new.ensures in
    let keeps = g.F.Keep.keeps in
    ap (λ k. walk_left (keeps k) c.new-2.result.walk) c.new-2.ensures.keep
    ∙ ap (λ (w : SquareWalkView). walk_left (keeps c.args.keep) w) c.new-2.ensures.walk
    ∙ left_whole (keeps c.args.keep) c.new.result facts.is_tree facts.tree facts.pending

pub returns-clause-left : goal.returns-clause-left
returns-clause-left g c = left g (goal.at.returns-clause-left g c).After-new-2

pub returns-clause-weights : goal.returns-clause-weights
returns-clause-weights g c = λ weight.
    ap (sum_by weight) (left g (goal.at.returns-clause-weights g c).After-new-2)
    ∙ sum_by-filter weight (λ leaf. passes_at (g.F.Keep.keeps c.args.keep) c.args.self.now leaf.1)
    (leaves_of c.args.self.now)

pub returns-clause-budget : goal.returns-clause-budget
returns-clause-budget g c =
    let facts = c.new.ensures in
    ap (λ k. walk_budget (g.F.Keep.keeps k) c.new-2.result.walk) c.new-2.ensures.keep
    ∙ ap (λ (w : SquareWalkView). walk_budget (g.F.Keep.keeps c.args.keep) w) c.new-2.ensures.walk
    ∙ budget_whole (g.F.Keep.keeps c.args.keep) c.new.result facts.is_tree facts.tree facts.pending

pub returns-clause-wanted : goal.returns-clause-wanted
returns-clause-wanted g c = λ wanted kept.
    ap (wanted_of wanted) (left g (goal.at.returns-clause-wanted g c).After-new-2)
    ∙ kept_leaves-wanted (g.F.Keep.keeps c.args.keep) wanted c.args.self.now c.new.ensures.is_tree kept
