use Rattle.std.proofs.Common.{◌≡◌, to_z, of_z, w64, ◌∙◌, arith}
use Rattle.std.proofs.lemmas.Int.{ints}
use Rattle.live_tail.specs.Join.{rows_of_tail}
use Rattle.live_tail.specs.SmallRows.{rows_in}
use Rattle.live_tail.proofs.CutLemmas.{IsSorted-object, window-object}
use Rattle.live_tail.proofs.tail.Tail.track.Goals as goal

pub between-requires : goal.between-requires
between-requires c =
    rw c.of_object.ensures (IsSorted-object c.args.object (rows_in c.rows.result) c.rows.ensures.ascending)

pub returns : goal.returns
returns c =
    let low : to_z w64 (of_z w64 c.args.from) ≡ c.args.from = omega (arith, ints) in
    let high : to_z w64 (of_z w64 c.args.to) ≡ c.args.to = omega (arith, ints) in
    (rw (c.of_object.ensures, c.rows.ensures.value, low, high) at c.between.ensures)
    ∙ window-object c.args.object (rows_of_tail c.args.self.now) c.args.from c.args.to
