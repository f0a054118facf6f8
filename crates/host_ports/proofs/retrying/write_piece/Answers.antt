use Rattle.std.proofs.Common.{◌≡◌, ◌-◌, length, take, drop, arith}
use Rattle.std.proofs.lemmas.Grind.{common_steps}
use Rattle.host_ports.proofs.KnownBytes.{appends-keeps, appends-take}
use Rattle.host_ports.proofs.retrying.write_piece.Goals as goal
use Rattle.host_ports.proofs.retrying.write_piece.Goals.{in-Ok, in-Err}

-- the writer took the next bytes of the piece, or none
pub loop-preserved : goal.loop-preserved
loop-preserved g c =
    let held = g.W.Write.contents in
    let before = held c.args.writer.now in
    let now = held c.loop.writer in
    let after = held c.write.new.self in
    let piece = c.args.piece.now in
    let sent = c.loop.sent in
    let so_far = c.loop.invariant.written in
    let whole : take (length piece - sent) (drop sent piece) ≡ drop sent piece = grind (arith, common_steps) in
    elim c.match-write.branch [
      | in-Ok w ↦
          rw w.sent-is (record {
            within = grind (arith, common_steps, w.in-Ok.ensures.bound);
            written = appends-take before now after piece sent w.in-Ok.count so_far (rw whole at w.in-Ok.ensures.bytes);
          })
      | in-Err w ↦
          rw w.sent-is (record {
            within = c.loop.invariant.within;
            written = appends-keeps before now after (take sent piece) so_far w.in-Err.ensures.bytes;
          })
    ]
