use Rattle.std.proofs.Common.{arith, ap, subst, sym, ◌∙◌}
use Rattle.snapshots.specs.Bounded.{AreBounds}
use Rattle.snapshots.specs.IndexCost.{open_cost}
use Rattle.snapshots.specs.JoinFlaws.{logs_flaw}
use Rattle.snapshots.proofs.NoFlawLemmas.{logs_flaw-sound}
use Rattle.track_index.proofs.OpeningLemmas.{joined-parts, AreOf-joined}
use Rattle.track_index.proofs.index.Index.of_found.Goals as goal

pub join_bounded-requires-clause-of : goal.join_bounded-requires-clause-of
join_bounded-requires-clause-of g c =
    AreOf-joined c.args.parts c.requires.found.valid.shaped c.in_ok-frame.field-0 c.in_ok-frame.ensures

pub join_bounded-requires-clause-flawless : goal.join_bounded-requires-clause-flawless
join_bounded-requires-clause-flawless g c =
    ap logs_flaw (joined-parts c.args.parts c.requires.found.valid.shaped c.in_ok-frame.field-0 c.in_ok-frame.ensures)
    ∙ logs_flaw-sound c.args.parts c.requires.found.valid.sound.logs

pub join_bounded-requires-clause-bounds : goal.join_bounded-requires-clause-bounds
join_bounded-requires-clause-bounds g c =
    subst (λ parts. AreBounds parts c.args.found.bounds.items)
    (sym (joined-parts c.args.parts c.requires.found.valid.shaped c.in_ok-frame.field-0 c.in_ok-frame.ensures)) c.requires.found.bounds_are

pub returns-in_err-stores-clause-cost : goal.returns-in_err-stores-clause-cost
returns-in_err-stores-clause-cost g c =
    let same = ap open_cost (joined-parts c.args.parts c.requires.found.valid.shaped c.in_ok-frame.field-0 c.in_ok-frame.ensures) in
    omega (arith, c.join_bounded.ensures.cost, same)

pub returns-clause-ok : goal.returns-clause-ok
returns-clause-ok g c =
    c.in_ok-stores.ensures.ok ∙ joined-parts c.args.parts c.requires.found.valid.shaped c.in_ok-frame.field-0 c.in_ok-frame.ensures

pub returns-clause-cost : goal.returns-clause-cost
returns-clause-cost g c =
    let same = ap open_cost (joined-parts c.args.parts c.requires.found.valid.shaped c.in_ok-frame.field-0 c.in_ok-frame.ensures) in
    omega (arith, c.join_bounded.ensures.cost, same)
