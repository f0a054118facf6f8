use Rattle.std.proofs.Common.{arith}
use Rattle.part_tests.proofs.period_blocks.total_of.Goals as goal
