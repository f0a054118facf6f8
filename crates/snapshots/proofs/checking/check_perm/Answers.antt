use Rattle.std.proofs.Common.{◌≡◌, None, Some, ap, sym, subst, ◌∙◌}
use Rattle.snapshots.specs.Flaws.{order_flaw, perm_flaw, IsSnapFaultFor}
use Rattle.snapshots.proofs.PartLemmas.{perm_flaw-order, perm_flaw-none}
use Rattle.snapshots.proofs.checking.check_perm.Goals as goal

pub returns-in-Some-clause-flaw : goal.returns-in-Some-clause-flaw
returns-in-Some-clause-flaw c =
    let order : order_flaw c.args.lasts.now c.args.list ≡ Some c.in-Some.place =
    sym (ap (order_flaw c.args.lasts.now) c.as_slice.ensures) ∙ sym c.in-Some.ensures in
    subst (IsSnapFaultFor (perm_flaw c.args.number c.args.lasts.now c.args.list)) (sym c.flaw-in-Some.ensures)
    (perm_flaw-order c.args.number c.args.lasts.now c.args.list c.in-Some.place c.in-Ok.ensures.exact order)

pub returns-clause-exact : goal.returns-clause-exact
returns-clause-exact c =
    let order : order_flaw c.args.lasts.now c.args.list ≡ None =
    sym (ap (order_flaw c.args.lasts.now) c.as_slice.ensures) ∙ sym c.in_default.ensures in
    perm_flaw-none c.args.number c.args.lasts.now c.args.list c.in-Ok.ensures.exact order
