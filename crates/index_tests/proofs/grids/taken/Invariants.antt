use Rattle.std.proofs.Common.{◌≡◌, ◌++◌, ◌<◌, List}
use Rattle.std.specs.Slice.Iter.{chunks_rest, chunks_size}
use Rattle.track_types.specs.declared.raw_row.RawRow.{RawRow}
use Rattle.gridding.specs.GriddedRows.{HasGridded}
use Rattle.index_tests.proofs.grids.taken.Given as goal

-- the pieces so far are gridded
abbrev pub invariant-loop-piece : goal.invariant-loop-piece
invariant-loop-piece l = record {
  done : List RawRow;
  can : goal.iterator-loop-piece.can_next l.piece-iterator;
  finite : goal.iterator-loop-piece.is_finite l.piece-iterator;
  some : 0 < chunks_size l.piece-iterator;
  all : done ++ chunks_rest l.piece-iterator ≡ l.rows;
  has : HasGridded 1 l.tick done l.gridded;
}
