use Rattle.std.proofs.Common.{arith, ap, sym, ◌∙◌, length}
use Rattle.part_tests.proofs.period_blocks.have_shape.Goals as goal
