use Rattle.box_tree.proofs.TreeLemmas.{width-narrow, width-wide}
use Rattle.box_tree.proofs.building.width_of.Goals as goal

pub returns-then-below-narrow-clause-value : goal.returns-then-below-narrow-clause-value
returns-then-below-narrow-clause-value c = width-narrow c.args.narrow c.args.below c.requires c.if-below-narrow.true

pub returns-else-below-narrow-clause-value : goal.returns-else-below-narrow-clause-value
returns-else-below-narrow-clause-value c = width-wide c.args.narrow c.args.below c.requires c.if-below-narrow.false
