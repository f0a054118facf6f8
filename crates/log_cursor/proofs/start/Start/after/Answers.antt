use Rattle.std.proofs.Common.{arith}
use Rattle.std.proofs.lemmas.Int.{ints}
use Rattle.log_cursor.proofs.WayLemmas.{same_start}
use Rattle.log_cursor.proofs.start.Start.after.Goals as goal

pub returns : goal.returns
returns c =
    same_start _ _ _ _ _ _ (omega (arith, ints)) (omega (arith, ints)) (omega (arith, ints))
