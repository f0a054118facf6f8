use Rattle.std.proofs.Common.{◌∙◌, sym, arith}
use Rattle.std.proofs.lemmas.Int.{ints}
use Rattle.track_types.specs.Near.{IsBoxWithin}
use Rattle.rule_store.proofs.BoxLemmas.{box_round-moved, box_round-moved_none}
use Rattle.rule_store.proofs.joining.shift.Goals as goal

pub moved-requires : goal.moved-requires
moved-requires c =
    let within : IsBoxWithin c.in-Some.hull = rw c.in-Some.is at c.requires.within in
    record {
      x1 = record { low = omega (arith, ints); high = omega (arith, ints) };
      y1 = record { low = omega (arith, ints); high = omega (arith, ints) };
      x2 = record { low = omega (arith, ints); high = omega (arith, ints) };
      y2 = record { low = omega (arith, ints); high = omega (arith, ints) };
    }

pub returns-in-Some : goal.returns-in-Some
returns-in-Some c = λ cells is.
    rw c.moved.ensures (box_round-moved cells (c.args.dx, c.args.dy) c.in-Some.hull _ (sym c.in-Some.is ∙ is)
    (omega (arith, ints)) (omega (arith, ints)) (omega (arith, ints)) (omega (arith, ints)))

pub returns-in-None : goal.returns-in-None
returns-in-None c = λ cells is. box_round-moved_none cells (c.args.dx, c.args.dy) (sym c.in-None.is ∙ is)
