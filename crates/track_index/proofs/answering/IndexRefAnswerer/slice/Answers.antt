use Rattle.std.proofs.Common.{◌≡◌, w64, to_z, of_z, arith}
use Rattle.std.proofs.lemmas.Int.{ints}
use Rattle.track_index.specs.Cost.{cost_of}
use Rattle.track_index.proofs.answering.IndexRefAnswerer.slice.Goals as goal

pub returns-clause-cost : goal.returns-clause-cost
unfolding cost_of
returns-clause-cost g c =
    let same : to_z w64 (of_z w64 c.args.instant) ≡ c.args.instant = omega (arith, ints) in
    rw (c.stores.ensures.value, same) at c.slice_of.ensures.cost

pub slice_of-requires-clause-may : goal.slice_of-requires-clause-may
slice_of-requires-clause-may g c =
    let same : to_z w64 (of_z w64 c.args.instant) ≡ c.args.instant = omega (arith, ints) in
    rw (c.stores.ensures.value, same) c.requires.may
