use Rattle.std.proofs.Common.{◌≡◌, Some, sym}
use Rattle.k2_tree.specs.Flaws.{tree_flaw}
use Rattle.k2_tree.specs.Widths.{widths_of}
use Rattle.k2_tree.proofs.FlawedLemmas.{AreNoTree-flawed}
use Rattle.k2_tree.proofs.tree.K2Tree.check.Goals as goal

pub returns-in-Some-clause-flaw : goal.returns-in-Some-clause-flaw
returns-in-Some-clause-flaw c =
    let flaw : tree_flaw (widths_of c.args.height c.args.wide) c.args.bits ≡ Some c.in-Some.place =
    sym c.in-Some.ensures in
    (flaw, AreNoTree-flawed c.args.height c.args.wide c.args.bits c.in-Some.place c.requires.fits flaw)
