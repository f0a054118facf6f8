use Rattle.std.proofs.Common.{◌≡◌, to_z, of_z, w64, arith}
use Rattle.std.proofs.lemmas.Int.{ints}
use Rattle.track_types.specs.Meeting.{meeting_of}
use Rattle.encounter.proofs.WalkedLemmas.{IsTrack-path, sooner-found}
use Rattle.encounter.proofs.walked.WalkedMeets.meet.Goals as goal

pub first_of_walks-requires-clause-one : goal.first_of_walks-requires-clause-one
first_of_walks-requires-clause-one g c =
    rw c.in_ok-one.ensures.left (IsTrack-path (g.A.Answerer.chart c.args.self.answerer) c.facts.ensures.table c.args.left _ _)

pub first_of_walks-requires-clause-other : goal.first_of_walks-requires-clause-other
first_of_walks-requires-clause-other g c =
    rw c.in_ok-other.ensures.left (IsTrack-path (g.A.Answerer.chart c.args.self.answerer) c.facts.ensures.table c.args.right _ _)

pub returns-clause-ok : goal.returns-clause-ok
unfolding meeting_of
returns-clause-ok g c =
    let low : to_z w64 (of_z w64 c.args.from) ≡ c.args.from = omega (arith, ints) in
    let high : to_z w64 (of_z w64 c.args.to) ≡ c.args.to = omega (arith, ints) in
    rw (c.in_ok-one.ensures.left, c.in_ok-other.ensures.left, low, high) at c.first_of_walks.ensures.value

pub returns-clause-sooner : goal.returns-clause-sooner
returns-clause-sooner g c =
    let low : to_z w64 (of_z w64 c.args.from) ≡ c.args.from = omega (arith, ints) in
    let high : to_z w64 (of_z w64 c.args.to) ≡ c.args.to = omega (arith, ints) in
    sooner-found c.first_of_walks.result _ _ _ _
    (g.A.Answerer.path_cost_until c.args.self.answerer c.args.left c.args.from c.args.to)
    (g.A.Answerer.path_cost_until c.args.self.answerer c.args.right c.args.from c.args.to) c.first_of_walks.ensures.sooner
    (λ instant. rw (low, high) at (c.in_ok-one.ensures.in_time instant))
    (λ instant. rw (low, high) at (c.in_ok-other.ensures.in_time instant))
