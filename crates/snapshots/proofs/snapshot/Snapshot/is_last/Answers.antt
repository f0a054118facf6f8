use Rattle.std.proofs.Common.{◌≡◌, ◌+◌, cond, false, get_or, sym, ap, ◌∙◌, arith}
use Rattle.std.proofs.lemmas.Option.{get_or_from_slice_get}
use Rattle.bit_rank.proofs.RankLemmas.{rank_of-step}
use Rattle.snapshots.specs.View.{leaf_at}
use Rattle.snapshots.proofs.PlacesLemmas.{few_places, goes_on_at, place_left, same_length}
use Rattle.snapshots.proofs.snapshot.Snapshot.is_last.Given.{Over}
use Rattle.snapshots.proofs.snapshot.Snapshot.is_last.Goals as goal
use Rattle.snapshots.proofs.snapshot.Snapshot.is_last.Goals.{After-get}

pub returns-clause-room : goal.returns-clause-room
returns-clause-room g c = omega (arith, c.requires.within, few_places c.args.self.now c.blocks-2.ensures.snapshot)

-- the bit that was read
bit : (g : Over) (c : After-get g) → get_or c.args.self.now.parts.lasts c.args.place false ≡ c.get.result
bit g c =
    sym (ap (λ bits. get_or bits c.args.place false) c.blocks-2.ensures.blocks.lasts)
    ∙ get_or_from_slice_get c.blocks-2.result.now.lasts c.args.place c.get.result false c.get.ensures.value

pub returns-clause-more : goal.returns-clause-more
returns-clause-more g c = λ other.
    goes_on_at c.args.self.now c.args.place c.blocks-2.ensures.snapshot c.requires.within
    (bit g (goal.at.returns-clause-more g c).After-get ∙ other)

pub returns-clause-left : goal.returns-clause-left
returns-clause-left g c =
    place_left c.args.self.now c.args.place c.get.result c.blocks-2.ensures.snapshot c.requires.within
    (bit g (goal.at.returns-clause-left g c).After-get)

pub returns-clause-next : goal.returns-clause-next
returns-clause-next g c =
    let view = c.args.self.now in
    rank_of-step view.parts.lasts c.args.place (omega (arith, c.requires.within, same_length view c.blocks-2.ensures.snapshot))
    ∙ ap (λ b. leaf_at view c.args.place + cond b 1 0) (bit g (goal.at.returns-clause-next g c).After-get)
