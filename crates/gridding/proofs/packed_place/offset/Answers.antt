use Rattle.std.proofs.Common.{arith}
use Rattle.std.proofs.lemmas.Int.{ints}
use Rattle.gridding.proofs.packed_place.offset.Goals.{then-offset-lt0-via-then-offset-lt0, then-offset-lt0-via-else-offset-lt0+then-offset-count}
use Rattle.gridding.proofs.packed_place.offset.Goals as goal

pub returns-then-offset-lt0-clause-none : goal.returns-then-offset-lt0-clause-none
returns-then-offset-lt0-clause-none c = λ counted. elim c.then-offset-lt0.branch [
  | then-offset-lt0-via-then-offset-lt0 w ↦ let below = w.if-offset-lt0.true in omega (arith, ints, below, counted)
  | then-offset-lt0-via-else-offset-lt0+then-offset-count w ↦
      let least = w.if-offset-lt0.false in let past = w.if-offset-count.true in omega (arith, ints, least, past, counted)
]
