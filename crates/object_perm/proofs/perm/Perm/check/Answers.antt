use Rattle.std.proofs.Common.{◌≡◌, Some, ap, sym, ◌∙◌}
use Rattle.object_perm.specs.Permutation.{first_flawed_place}
use Rattle.object_perm.proofs.FlawLemmas.{permutes-from_none, no_permutation}
use Rattle.object_perm.proofs.perm.Perm.check.Goals as goal

pub returns-in-Some-clause-flaw : goal.returns-in-Some-clause-flaw
returns-in-Some-clause-flaw c =
    let flaw : first_flawed_place c.args.list ≡ Some c.in-Some.index =
    sym (ap first_flawed_place c.as_slice.ensures) ∙ sym c.in_ok-index.ensures ∙ c.in-Some.is in
    (flaw, no_permutation c.args.list c.in-Some.index flaw)

pub of_permutation-requires-clause-permutes : goal.of_permutation-requires-clause-permutes
of_permutation-requires-clause-permutes c =
    permutes-from_none c.args.list (sym (ap first_flawed_place c.as_slice.ensures) ∙ sym c.in_ok-index.ensures
    ∙ c.in_default.is)

pub returns-clause-exact : goal.returns-clause-exact
returns-clause-exact c =
    permutes-from_none c.args.list (sym (ap first_flawed_place c.as_slice.ensures) ∙ sym c.in_ok-index.ensures
    ∙ c.in_default.is)
