use Rattle.std.proofs.Common.{◌≡◌, false, Some, arith}
use Rattle.std.proofs.lemmas.Int.{ints}
use Rattle.track_types.specs.declared.limit.TheConstants.{MAX_HEIGHT}
use Rattle.rule_store.specs.Flaws.{box_passes}
use Rattle.rule_store.proofs.FlawLemmas.{box_passes-false}
use Rattle.rule_store.proofs.packed_box.PackedBox.pack.Goals as goal

pub invariant_of-result-2 : goal.invariant_of-result-2
invariant_of-result-2 c =
    let near : box_passes MAX_HEIGHT (Some c.in-Some.hull) ≡ false = rw c.in-Some.is at c.requires in
    let within = box_passes-false MAX_HEIGHT c.in-Some.hull near in
    record { high = λ wide. omega (arith, ints, within.0, within.1) }

pub returns : goal.returns
returns c =
    let near : box_passes MAX_HEIGHT (Some c.in-Some.hull) ≡ false = rw c.in-Some.is at c.requires in
    let within = box_passes-false MAX_HEIGHT c.in-Some.hull near in
    rw c.in-Some.is (
      omega (arith, ints, within.0, within.1),
      omega (arith, ints, within.0, within.1),
      omega (arith, ints, within.0, within.1),
      omega (arith, ints, within.0, within.1),
    )
