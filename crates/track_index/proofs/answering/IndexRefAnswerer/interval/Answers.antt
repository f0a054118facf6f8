use Rattle.std.proofs.Common.{◌≡◌, w64, to_z, of_z, arith}
use Rattle.std.proofs.lemmas.Int.{ints}
use Rattle.track_index.specs.Cost.{cost_of}
use Rattle.track_index.proofs.answering.IndexRefAnswerer.interval.Goals as goal

pub returns-clause-cost : goal.returns-clause-cost
unfolding cost_of
returns-clause-cost g c =
    let low : to_z w64 (of_z w64 c.args.from) ≡ c.args.from = omega (arith, ints) in
    let high : to_z w64 (of_z w64 c.args.to) ≡ c.args.to = omega (arith, ints) in
    rw (c.stores.ensures.value, low, high) at c.interval_of.ensures.cost

pub interval_of-requires-clause-may : goal.interval_of-requires-clause-may
interval_of-requires-clause-may g c =
    let low : to_z w64 (of_z w64 c.args.from) ≡ c.args.from = omega (arith, ints) in
    let high : to_z w64 (of_z w64 c.args.to) ≡ c.args.to = omega (arith, ints) in
    rw (c.stores.ensures.value, low, high) c.requires.may
