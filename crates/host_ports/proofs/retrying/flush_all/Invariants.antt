use Rattle.std.specs.Io.KnownBytes.{Keeps}
use Rattle.host_ports.proofs.retrying.flush_all.Given as goal

-- what the writer holds stays
abbrev pub invariant-loop : goal.invariant-loop
invariant-loop g l = Keeps (g.W.Write.contents l.fn.writer) (g.W.Write.contents l.writer)
