use Rattle.std.proofs.Common.{◌≡◌, [], to_z, of_z, w64, arith}
use Rattle.std.proofs.lemmas.Int.{ints}
use Rattle.live_tail.specs.Hits.{HaveFirst}
use Rattle.live_tail.specs.Join.{rows_of_tail}
use Rattle.live_tail.specs.SmallRows.{rows_in}
use Rattle.live_tail.proofs.ChunkLemmas.{have-none, have-window}
use Rattle.live_tail.proofs.tail.Tail.hits.Goals as goal
use Rattle.live_tail.proofs.tail.Tail.hits.Goals.{then-len+in_ok-push_hits_of, else-len+in_ok-push_hits}

pub returns : goal.returns
returns c =
    let low : to_z w64 (of_z w64 c.args.from) ≡ c.args.from = omega (arith, ints) in
    let high : to_z w64 (of_z w64 c.args.to) ≡ c.args.to = omega (arith, ints) in
    let here : HaveFirst [] (to_z w64 (of_z w64 c.args.from)) (to_z w64 (of_z w64 c.args.to)) c.args.region.now
    c.new-found.result.items = rw c.new-found.ensures.items (have-none _ _ c.args.region.now) in
    elim c.if-len.branch [
      | then-len+in_ok-push_hits_of w ↦
          rw w.found-is (have-window (rows_of_tail c.args.self.now) (rows_in c.rows_between-between.result) c.args.from c.args.to
          c.args.region.now w.push_hits_of.new.found.items (rw (low, high) at c.rows_between-between.ensures.members)
          (rw (low, high) at (w.in_ok-push_hits_of.ensures [] here)))
      | else-len+in_ok-push_hits w ↦
          rw w.found-is (rw (w.rows.ensures.value, low, high) at (w.in_ok-push_hits.ensures [] here))
    ]
