use Rattle.std.proofs.Common.{◌+◌, true, false, ap, arith}
use Rattle.std.proofs.lemmas.Option.{get_or_from_slice_get}
use Rattle.bit_rank.proofs.RankLemmas.{rank_of-le-place}
use Rattle.k2_tree.proofs.descent.child_at.Goals as goal

pub overflow_add-result : goal.overflow_add-result
overflow_add-result g c =
    omega (
      arith,
      c.rank1.ensures.value,
      rank_of-le-place c.args.bits.now c.args.place,
      c.requires.inside,
      c.requires.few,
    )

pub returns-then-get-clause-value : goal.returns-then-get-clause-value
returns-then-get-clause-value g c = (
  get_or_from_slice_get c.args.bits.now c.args.place true false c.if-get.ensures.value,
  ap (λ r. r + 1) c.rank1.ensures.value,
)

pub returns-else-get-clause-value : goal.returns-else-get-clause-value
returns-else-get-clause-value g c =
    get_or_from_slice_get c.args.bits.now c.args.place false false c.if-get.ensures.value
