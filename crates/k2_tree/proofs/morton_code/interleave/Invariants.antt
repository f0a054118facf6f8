use Rattle.std.proofs.Common.{◌≡◌, ◌+◌, ◌-◌, ◌*◌, ◌/◌, ◌^◌}
use Rattle.k2_tree.specs.Morton.{interleaved}
use Rattle.k2_tree.proofs.morton_code.interleave.Given as goal

abbrev pub invariant-loop-half : goal.invariant-loop-half
invariant-loop-half l = l.code ≡ interleaved (16 * ((l.height + 15) / 16 - l.half)) (l.row / 2 ^ (16 * l.half)) (l.column / 2 ^ (16 * l.half))
