use Rattle.std.proofs.Common.{◌≡◌, ◌<◌, ◌/◌, ◌%◌, ◌^◌, ◌++◌, length, get_or, ap, ◌∙◌, arith}
use Rattle.std.proofs.lemmas.Bool.Decides.{nat_tests}
use Rattle.packed_bits.specs.Words.{low_bits}
use Rattle.k2_tree.proofs.GroupBitsLemmas.{group_fits}
use Rattle.k2_tree.proofs.PushingLemmas.{level_bits-empty, pushing-first, pushing-same, pushing-next}
use Rattle.k2_tree.proofs.building.push_level.Goals as goal
use Rattle.k2_tree.proofs.building.push_level.Goals.{then-codes-i+in_ok-push, else-codes-i}

pub returns-then-is_empty : goal.returns-then-is_empty
returns-then-is_empty c =
    let none : length c.args.codes.now ≡ 0 = grind (arith, nat_tests, c.is_empty.ensures, c.if-is_empty.true) in
    record { ok = level_bits-empty c.args.width c.args.level c.args.codes.now c.args.bits.now none }

pub loop-i-init : goal.loop-i-init
loop-i-init c =
    let a = c.args in
    let some : 0 < length a.codes.now = grind (arith, nat_tests, c.is_empty.ensures, c.if-is_empty.false) in
    let bit = c.child_bit-group.ensures
    ∙ ap (λ fan. 2 ^ (get_or a.codes.now 0 0 / 4 ^ a.level % fan)) c.fan_of-fan.ensures.value in
    pushing-first a.width a.level a.codes.now a.bits.now c.requires.ascending c.requires.narrow c.child_bit-group.result bit some
    c.requires.whole

pub push-requires-clause-fits : goal.push-requires-clause-fits
push-requires-clause-fits c =
    rw c.fan_of-fan.ensures.value (group_fits c.args.width (length c.loop-i.bits) c.requires.narrow c.loop-i.invariant.whole)

pub loop-i-preserved : goal.loop-i-preserved
loop-i-preserved c =
    let a = c.args in
    let l = c.loop-i in
    let fan = c.fan_of-fan.ensures.value in
    let bit = c.child_bit-group-in-loop-i.ensures ∙ ap (λ fan. 2 ^ (get_or a.codes.now l.i 0 / 4 ^ a.level % fan)) fan in
    elim c.if-codes-i.branch [
      | then-codes-i+in_ok-push w ↦
          rw (w.bits-is, w.group-is) (pushing-next a.width a.level a.codes.now a.bits.now c.requires.ascending c.requires.narrow
          l.i l.bits l.group c.child_bit-group-in-loop-i.result c.loop-i-test.true bit l.invariant w.push.new.self
          (w.in_ok-push.ensures.ok ∙ ap (λ fan. l.bits ++ low_bits fan l.group) fan) w.if-codes-i.true)
      | else-codes-i w ↦
          rw (w.bits-is, w.group-is) (pushing-same a.width a.level a.codes.now a.bits.now c.requires.ascending c.requires.narrow
          l.i l.bits l.group c.child_bit-group-in-loop-i.result c.loop-i-test.true bit l.invariant w.if-codes-i.false)
    ]

pub push-requires-2-clause-fits : goal.push-requires-2-clause-fits
push-requires-2-clause-fits c =
    rw c.fan_of-fan.ensures.value (group_fits c.args.width (length c.loop-i.bits) c.requires.narrow c.loop-i.invariant.whole)
