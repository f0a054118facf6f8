use Rattle.index_format.proofs.GridLemmas.{in_grid-far}
use Rattle.index_format.proofs.outline.anchors.cell_behind.Goals as goal

pub returns-then-code-ge-CODES : goal.returns-then-code-ge-CODES
returns-then-code-ge-CODES c = in_grid-far c.args.height c.args.last c.args.code c.requires.height c.requires.last c.if-code-ge-CODES.true
