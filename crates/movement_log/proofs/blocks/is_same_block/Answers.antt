use Rattle.std.proofs.Common.{ap, ◌∙◌}
use Rattle.std.specs.Prelude.{nat_lt}
use Rattle.track_types.specs.Quantities.{first_of}
use Rattle.movement_log.proofs.AnchorLemmas.{same_until}
use Rattle.movement_log.proofs.blocks.is_same_block.Goals as goal

pub returns-then-before-row : goal.returns-then-before-row
returns-then-before-row c =
    ap (λ e. nat_lt e c.args.period_end) c.elapsed.ensures
    ∙ same_until (first_of c.args.chart.now.rows) c.args.chart.now.period c.args.before.now c.args.row.now c.args.period_end
    c.requires.period c.if-before-row.true (c.requires.later c.if-before-row.true) c.requires.end
