use Rattle.std.proofs.Common.{◌++◌, List, All, length}
use Rattle.track_types.specs.Near.{IsCellWithin}
use Rattle.track_types.specs.declared.row.Row.{Row}
use Rattle.live_tail.specs.Chunks.{AreChunksOf}
use Rattle.live_tail.specs.declared.chunk.Chunk.{Chunk}
use Rattle.live_tail.proofs.chunk.chunks_of.Given as goal

-- with the chunks of the rows that are left, those that were made are the chunks of all
abbrev pub invariant-loop-row : goal.invariant-loop-row
invariant-loop-row l = record {
  near : All (λ (row : Row). IsCellWithin row.cell) l.rest;
  all : (others : List Chunk) → AreChunksOf l.rest others → AreChunksOf l.rows (l.chunks.items ++ others);
}

abbrev pub decreases-loop-row : goal.decreases-loop-row
decreases-loop-row l = length l.rest
