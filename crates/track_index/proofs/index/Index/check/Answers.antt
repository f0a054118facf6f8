use Rattle.std.proofs.Common.{arith, ap, subst, ◌∙◌}
use Rattle.std.proofs.lemmas.Result.{err_from_is_err_and}
use Rattle.snapshots.specs.Flaws.{format_fault_of_period}
use Rattle.snapshots.specs.IndexCost.{open_cost}
use Rattle.snapshots.specs.SoundParts.{IsSound}
use Rattle.track_index.proofs.OpeningLemmas.{check_flaw-joined, fault-joined, joined-parts, AreOf-joined}
use Rattle.track_index.proofs.index.Index.check.Goals as goal

pub returns-in_err-frame-clause-flaw : goal.returns-in_err-frame-clause-flaw
returns-in_err-frame-clause-flaw g c =
    let given = err_from_is_err_and c.from_residual.result c.from_residual.ensures.1 in
    rw (given.1, given.2) c.in_err-frame.ensures.flaw

pub join-requires : goal.join-requires
join-requires g c = record {
  of = AreOf-joined c.args.parts c.requires.shaped c.in_ok-frame.field-0 c.in_ok-frame.ensures.judged;
  may = c.requires.may;
}

pub returns-in_err-stores-clause-flaw : goal.returns-in_err-stores-clause-flaw
returns-in_err-stores-clause-flaw g c =
    let known = fault-joined c.args.parts c.requires.shaped c.in_ok-frame.field-0 c.in_ok-frame.ensures.judged
    (format_fault_of_period c.in_err-stores.field-0.0) c.in_err-stores.ensures.flaw in
    let given = err_from_is_err_and c.from_residual-in_err-stores.result c.from_residual-in_err-stores.ensures.1 in
    rw (given.1, given.2) known

pub returns-in_err-stores-clause-cost : goal.returns-in_err-stores-clause-cost
returns-in_err-stores-clause-cost g c =
    let same = ap open_cost (joined-parts c.args.parts c.requires.shaped c.in_ok-frame.field-0 c.in_ok-frame.ensures.judged) in
    omega (arith, c.join.ensures.cost, same)

pub returns-clause-ok : goal.returns-clause-ok
returns-clause-ok g c =
    c.in_ok-stores.ensures.ok ∙ joined-parts c.args.parts c.requires.shaped c.in_ok-frame.field-0 c.in_ok-frame.ensures.judged

pub returns-clause-exact : goal.returns-clause-exact
returns-clause-exact g c =
    check_flaw-joined c.args.parts c.requires.shaped c.in_ok-frame.field-0 c.in_ok-frame.ensures.judged c.in_ok-stores.ensures.exact

pub returns-clause-valid : goal.returns-clause-valid
returns-clause-valid g c =
    let same = joined-parts c.args.parts c.requires.shaped c.in_ok-frame.field-0 c.in_ok-frame.ensures.judged in
    record { shaped = c.requires.shaped; sound = subst IsSound same c.in_ok-stores.ensures.sound }

pub returns-clause-cost : goal.returns-clause-cost
returns-clause-cost g c =
    let same = ap open_cost (joined-parts c.args.parts c.requires.shaped c.in_ok-frame.field-0 c.in_ok-frame.ensures.judged) in
    omega (arith, c.join.ensures.cost, same)
