use Rattle.std.proofs.Common.{◌≡◌, ◌∙◌}
use Rattle.box_tree.proofs.BoxesLemmas.{from-within}
use Rattle.box_tree.proofs.BuiltLemmas.{tree-built}
use Rattle.box_tree.proofs.tree.BoxTree.build.Goals as goal

pub make-requires-clause-near : goal.make-requires-clause-near
make-requires-clause-near c = from-within c.args.base c.requires.base c.args.boxes.now c.requires.from

pub make-requires-clause-tasks : goal.make-requires-clause-tasks
make-requires-clause-tasks c = c.in_ok-tasks.ensures.tasks c.args.narrow c.requires.levels.digits_are

pub new-requires-clause-near : goal.new-requires-clause-near
new-requires-clause-near c = from-within c.args.base c.requires.base c.args.boxes.now c.requires.from

pub invariant_of-result : goal.invariant_of-result
invariant_of-result c =
    let a = c.args in
    let made = c.in_ok-made.made in
    let own : c.in_ok-boxes.boxes ≡ a.boxes.now = c.in_ok-boxes.ensures.ok in
    let areas : c.in_ok-areas.areas ≡ made.areas.items = c.in_ok-areas.ensures.ok ∙ c.as_slice.ensures.value in
    rw (c.new-3.ensures, own, areas, c.new-4.ensures) (
      c.in_ok-cells.ensures.small,
      tree-built a.base a.height a.narrow a.digits a.codes.now c.in_ok-cells.cells.items a.boxes.now
          made.areas.items made.links.items
          c.in_ok-tasks.tasks.items c.make.new.tasks.items c.requires.base c.requires.levels c.requires.places
          c.in_ok-cells.ensures.codes
          c.in_ok-made.ensures.made c.in_ok-made.ensures.begin c.in_ok-tasks.ensures.first,
    )
