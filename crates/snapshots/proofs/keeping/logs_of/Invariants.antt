use Rattle.std.proofs.Common.{◌≡◌, map, take}
use Rattle.snapshots.specs.TrackTree.{length_and_index}
use Rattle.snapshots.proofs.keeping.logs_of.Given as goal

abbrev pub invariant-loop-block : goal.invariant-loop-block
invariant-loop-block l = l.logs.items ≡ map length_and_index (take l.block-index l.fn.blocks)
