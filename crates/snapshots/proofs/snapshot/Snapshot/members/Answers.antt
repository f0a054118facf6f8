use Rattle.std.proofs.Common.{◌≡◌, All, map, sym, ap, subst, ◌∙◌}
use Rattle.std.specs.List.Sorted.{IsStrictlyIncreasing}
use Rattle.snapshots.specs.Sound.{IsBlock}
use Rattle.snapshots.specs.Members.{MembersView}
use Rattle.snapshots.proofs.BlocksLemmas.{blocks_in-by_object}
use Rattle.snapshots.proofs.BlockFactsLemmas.{All-objects_at, objects_at-cell, objects_at-order}
use Rattle.snapshots.proofs.snapshot.Snapshot.members.Goals as goal

pub returns-clause-objects : goal.returns-clause-objects
returns-clause-objects c =
    ap (λ (m : MembersView). m.blocks) c.new.ensures
    ∙ blocks_in-by_object c.args.self.now c.args.leaf c.tree.ensures.snapshot

pub returns-clause-order : goal.returns-clause-order
returns-clause-order c =
    subst (λ blocks. IsStrictlyIncreasing (map (λ block. block.index) blocks)) (sym (returns-clause-objects c))
    (objects_at-order c.args.self.now c.tree.ensures.snapshot c.args.leaf)

pub returns-clause-cell : goal.returns-clause-cell
returns-clause-cell c =
    subst (All (λ block. block.cell ≡ c.args.cell)) (sym (returns-clause-objects c))
    (objects_at-cell c.args.self.now c.tree.ensures.snapshot c.args.leaf c.args.cell c.requires)

pub returns-clause-blocks : goal.returns-clause-blocks
returns-clause-blocks c =
    subst (All (IsBlock c.args.self.now)) (sym (returns-clause-objects c))
    (All-objects_at c.args.self.now c.tree.ensures.snapshot c.args.leaf)
