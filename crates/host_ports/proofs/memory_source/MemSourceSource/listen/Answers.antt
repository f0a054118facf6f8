use Rattle.std.proofs.Common.{◌≡◌, ℕ, List, min, length, take, drop, ◌++◌, ap, subst, arith}
use Rattle.host_ports.specs.MemSource.{MemSourceView, next_count}
use Rattle.host_ports.proofs.Copies.{filled-piece}
use Rattle.host_ports.proofs.memory_source.MemSourceSource.listen.Goals as goal

-- the bytes stand in front of the piece of the buffer, and so of the whole
pub returns-clause-filled : goal.returns-clause-filled
returns-clause-filled c =
    let inside = c.self.inside in
    let buf = c.args.buf.now in
    let count : ℕ = next_count c.args.self.now (length buf) in
    let behind : List ℕ = drop c.min-most.result buf in
    let same : count ≡ min (min (length buf) inside.piece) (length inside.bytes.rest) = grind arith in
    subst (λ (rest : List ℕ). c.listen.new.buf ++ behind ≡ take count rest ++ drop count buf)
    (ap (λ (source : MemSourceView). source.rest) c.self.view_is)
    (filled-piece inside.piece inside.bytes.rest buf c.listen.new.buf c.min-most.result count c.min-most.ensures
    c.listen.ensures.filled same)
