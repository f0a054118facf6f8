use Rattle.std.proofs.Common.{arith}
use Rattle.std.proofs.lemmas.Int.{ints}
use Rattle.rule_store.proofs.EntriesLemmas.{same_packed}
use Rattle.rule_store.proofs.narrow_entry.NarrowEntry.pack.Goals as goal

pub invariant_of-result : goal.invariant_of-result
invariant_of-result c =
    let entry = c.args.entry in
    record {
      short = omega (arith, c.in_ok-duration.ensures, entry.short);
      shallow = omega (arith, c.in_ok-depth.ensures, entry.shallow);
      high = λ wide.
          let high = entry.hull.high (omega (arith, ints, c.in_ok-x1.ensures, c.in_ok-x2.ensures, wide)) in
          omega (arith, ints, c.in_ok-y1.ensures, c.in_ok-y2.ensures, high);
    }

pub returns : goal.returns
returns c =
    same_packed _ c.args.entry (omega (arith, c.in_ok-duration.ensures)) (omega (arith, c.in_ok-depth.ensures))
    (omega (arith, ints, c.in_ok-dx.ensures)) (omega (arith, ints, c.in_ok-dy.ensures))
    (omega (arith, ints, c.in_ok-x1.ensures)) (omega (arith, ints, c.in_ok-y1.ensures))
    (omega (arith, ints, c.in_ok-x2.ensures)) (omega (arith, ints, c.in_ok-y2.ensures))
