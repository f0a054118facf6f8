use Rattle.std.proofs.Common.{ℕ, ◌+◌, ◌-◌, ◌/◌, arith}
use Rattle.box_tree.proofs.RunLemmas.{place-past, place-until}
use Rattle.box_tree.proofs.building.end_of.Goals as goal

pub loop-low-preserved-then-codes-middle : goal.loop-low-preserved-then-codes-middle
loop-low-preserved-then-codes-middle c =
    let l = c.loop-low in
    let middle : ℕ = l.low + (l.high - l.low) / 2 in
    let past = place-past c.args.bound middle c.args.codes.now c.requires.ascend (omega arith) c.if-codes-middle.true in
    record { below = past; above = l.invariant.above; within = l.invariant.within }

pub loop-low-preserved : goal.loop-low-preserved
loop-low-preserved c =
    let l = c.loop-low in
    let middle : ℕ = l.low + (l.high - l.low) / 2 in
    let until = place-until c.args.bound middle c.args.codes.now c.requires.ascend c.if-codes-middle.false in
    record { below = l.invariant.below; above = until; within = omega arith }
