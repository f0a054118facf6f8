use Rattle.std.proofs.Common.{◌≡◌, map, take}
use Rattle.outline_parts.proofs.outlining.blocks_of.Given as goal

abbrev pub invariant-loop-one : goal.invariant-loop-one
invariant-loop-one l = l.blocks.items ≡ map (λ one. one.block) (take l.one-index l.placed)
