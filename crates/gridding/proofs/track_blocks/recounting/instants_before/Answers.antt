use Rattle.std.proofs.Common.{◌≡◌, ◌+◌, ◌-◌, ◌/◌, ℕ, arith}
use Rattle.std.proofs.lemmas.Int.{ints}
use Rattle.gridding.proofs.track_blocks.recounting.instants_before.Goals as goal

pub returns-clause-exact : goal.returns-clause-exact
returns-clause-exact c =
    let last = c.abs_diff-last.result in
    let free : ℕ = 4194303 - last in
    let whole : free + last ≡ 4194303 = omega (arith, c.if-last-ge-INSTANTS.false) in
    record {
      front = free / 2;
      back = free - free / 2;
      even = (omega arith, omega arith);
      first = omega (arith, ints, c.abs_diff.ensures, c.requires.inside.0, c.requires.inside.1);
      all = omega (arith, ints, whole, c.abs_diff-last.ensures, c.requires.inside.0, c.requires.inside.1);
    }
