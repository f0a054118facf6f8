use Rattle.std.proofs.Common.{arith}
use Rattle.movement_log.proofs.BlockLemmas.{rows-in_span}
use Rattle.movement_log.specs.Blocks.{no_row}
use Rattle.movement_log.proofs.logs.length_at.Goals as goal

pub log_length-requires : goal.log_length-requires
log_length-requires c =
    record { inside = rw c.rows-rows.ensures.value (rows-in_span c.args.chart.now.rows c.args.at no_row c.requires) }

pub overflow_cast-result : goal.overflow_cast-result
overflow_cast-result c = record { fits = omega (arith, c.log_length.ensures, c.rows-rows.ensures.chart.span) }

pub returns : goal.returns
returns c = rw c.rows-rows.ensures.value at c.log_length.ensures
