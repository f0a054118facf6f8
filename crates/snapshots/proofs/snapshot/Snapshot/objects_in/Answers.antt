use Rattle.std.proofs.Common.{All, ap, sym, subst, ◌∙◌, arith, length}
use Rattle.k2_tree.specs.Pruned.{pruned_budget, pruned_left}
use Rattle.k2_tree.specs.Pruning.{kept_leaves, square_count}
use Rattle.k2_tree.proofs.FewLemmas.{kept_leaves-few}
use Rattle.snapshots.specs.View.{tree_in}
use Rattle.snapshots.specs.Sound.{IsBlock}
use Rattle.snapshots.specs.Objects.{blocks_of, objects_left, passing_blocks, WeighSame}
use Rattle.snapshots.proofs.BlockFactsLemmas.{All-objects_of_leaves, WeighSame-objects_of_leaves, WeighSame-wanted}
use Rattle.snapshots.proofs.BlocksLemmas.{blocks_of-objects}
use Rattle.snapshots.proofs.ObjectsLemmas.{objects_budget-unbegun, objects_left-unbegun}
use Rattle.snapshots.proofs.snapshot.Snapshot.objects_in.Goals as goal

pub new-requires : goal.new-requires
new-requires g c = c.pruned.ensures.tree ∙ c.tree.ensures.value

pub returns-clause-budget : goal.returns-clause-budget
returns-clause-budget g c =
    let keep = g.F.Keep.keeps c.args.keep in
    let keeps = g.F.Keep.keeps in
    let few = kept_leaves-few keep (tree_in c.args.self.now) c.tree.ensures.snapshot.sound.tree.is_tree in
    let same = ap (square_count keep) c.tree.ensures.value in
    let leaves = ap length (ap (pruned_left keeps) c.new.ensures.pruned ∙ c.pruned.ensures.left
    ∙ ap (kept_leaves keep) c.tree.ensures.value) in
    let squares = ap (pruned_budget keeps) c.new.ensures.pruned ∙ c.pruned.ensures.budget in
    let budget = objects_budget-unbegun keeps c.new.result c.new.ensures.members in
    omega (arith, few, leaves, squares, same, budget)

pub returns-clause-objects : goal.returns-clause-objects
returns-clause-objects g c =
    let keep = g.F.Keep.keeps c.args.keep in
    let keeps = g.F.Keep.keeps in
    objects_left-unbegun keeps c.new.result c.new.ensures.members
    ∙ ap (λ v. blocks_of v (pruned_left keeps c.new.result.pruned)) c.new.ensures.snapshot
    ∙ ap (blocks_of c.args.self.now) (ap (pruned_left keeps) c.new.ensures.pruned ∙ c.pruned.ensures.left
    ∙ ap (kept_leaves keep) c.tree.ensures.value)
    ∙ blocks_of-objects c.args.self.now (kept_leaves keep (tree_in c.args.self.now)) c.tree.ensures.snapshot

pub returns-clause-blocks : goal.returns-clause-blocks
returns-clause-blocks g c =
    subst (All (IsBlock c.args.self.now)) (sym (returns-clause-objects g c))
    (All-objects_of_leaves c.args.self.now c.tree.ensures.snapshot
    (kept_leaves (g.F.Keep.keeps c.args.keep) (tree_in c.args.self.now)))

pub returns-clause-weights : goal.returns-clause-weights
returns-clause-weights g c =
    let keep = g.F.Keep.keeps c.args.keep in
    subst (λ blocks. WeighSame blocks (passing_blocks keep c.args.self.now)) (sym (returns-clause-objects g c))
    (WeighSame-objects_of_leaves c.args.self.now keep c.tree.ensures.snapshot)

pub returns-clause-wanted : goal.returns-clause-wanted
returns-clause-wanted g c = λ wanted only.
    WeighSame-wanted c.args.self.now (g.F.Keep.keeps c.args.keep) wanted
    (objects_left g.F.Keep.keeps c.new.result) c.tree.ensures.snapshot only (returns-clause-weights g c)
