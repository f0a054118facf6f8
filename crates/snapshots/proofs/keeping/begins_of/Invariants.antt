use Rattle.std.proofs.Common.{◌≡◌, map, take}
use Rattle.snapshots.specs.TrackTree.{begin_of}
use Rattle.snapshots.proofs.keeping.begins_of.Given as goal

abbrev pub invariant-loop-block : goal.invariant-loop-block
invariant-loop-block l = l.begins.items ≡ map begin_of (take l.block-index l.fn.blocks)
