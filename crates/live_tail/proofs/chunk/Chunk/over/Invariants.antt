use Rattle.std.proofs.Common.{◌∷◌, take}
use Rattle.live_tail.specs.Chunks.{IsChunkOf}
use Rattle.live_tail.proofs.chunk.Chunk.over.Given as goal

abbrev pub invariant-loop-other : goal.invariant-loop-other
invariant-loop-other l = IsChunkOf (l.row ∷ take l.other-index l.others) l.chunk
