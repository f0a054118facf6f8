use Rattle.std.proofs.Common.{rules}
use Rattle.std.proofs.lemmas.Result.{on_ok_weaker}
use Rattle.gridding.proofs.BlockLemmas.{full_from_last, full_from_none}
use Rattle.gridding.specs.GriddedRows.{IsFull}
use Rattle.gridding.proofs.track_blocks.TrackBlocks.put_known.Goals.{in-Some+else-put, in-None}
use Rattle.gridding.proofs.track_blocks.TrackBlocks.put_known.Goals as goal

pub returns-then-put-clause-put : goal.returns-then-put-clause-put
returns-then-put-clause-put c = λ rows blocks. c.put.ensures.put c.if-put.true rows blocks

pub returns-clause-put : goal.returns-clause-put
returns-clause-put c = on_ok_weaker c.open.result (λ opened rows blocks. elim c.match-copied.branch [
  | in-Some+else-put w ↦
      let full : IsFull c.args.object c.args.self.now =
      full_from_last rows c.args.self.now c.args.object w.in-Some.last blocks (search rules)
      (w.put.ensures.full w.if-put.false rows blocks) in
      let left = w.put.ensures.left_out w.if-put.false in
      rw (w.self-is, left) at (opened rows (rw (w.self-is, left) blocks) (rw (w.self-is, left) full))
  | in-None w ↦
      let full : IsFull c.args.object c.args.self.now =
      full_from_none rows c.args.self.now c.args.object blocks (search rules) in
      rw w.self-is at (opened rows (rw w.self-is blocks) (rw w.self-is full))
]) c.open.ensures.opened
