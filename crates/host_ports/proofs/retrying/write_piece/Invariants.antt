use Rattle.std.proofs.Common.{◌≤◌, take, length}
use Rattle.std.specs.Io.KnownBytes.{Appends}
use Rattle.host_ports.proofs.retrying.write_piece.Given as goal

-- the writer holds the first bytes of the piece after its own
abbrev pub invariant-loop : goal.invariant-loop
invariant-loop g l = record {
  within : l.sent ≤ length l.piece;
  written : Appends (g.W.Write.contents l.fn.writer) (g.W.Write.contents l.writer) (take l.sent l.piece);
}
