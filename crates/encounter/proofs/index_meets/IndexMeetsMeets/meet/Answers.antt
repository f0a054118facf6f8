use Rattle.std.proofs.Common.{◌≡◌, to_z, of_z, w64, arith}
use Rattle.std.proofs.lemmas.Int.{ints}
use Rattle.encounter.proofs.index_meets.IndexMeetsMeets.meet.Goals as goal

pub meet-requires-clause-may : goal.meet-requires-clause-may
meet-requires-clause-may g c =
    let low : to_z w64 (of_z w64 c.args.from) ≡ c.args.from = omega (arith, ints) in
    let high : to_z w64 (of_z w64 c.args.to) ≡ c.args.to = omega (arith, ints) in
    rw (low, high, c.stores.ensures.value) c.requires.may
