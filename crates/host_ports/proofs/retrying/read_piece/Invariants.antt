use Rattle.std.specs.Io.KnownBytes.{Keeps}
use Rattle.host_ports.proofs.retrying.read_piece.Given as goal

-- what the reader has left stays until a read answers
abbrev pub invariant-loop : goal.invariant-loop
invariant-loop g l = Keeps (g.R.Read.remaining l.fn.reader) (g.R.Read.remaining l.reader)
