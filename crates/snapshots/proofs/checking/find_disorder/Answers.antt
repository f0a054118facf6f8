use Rattle.std.proofs.Common.{◌≡◌, false, arith, sym}
use Rattle.snapshots.specs.Flaws.{is_disordered}
use Rattle.snapshots.proofs.OrderLemmas.{disordered, ordered-first, ordered-greater, ordered-more}
use Rattle.snapshots.proofs.OrderLemmas.{order_flaw-at, order_flaw-none}
use Rattle.snapshots.proofs.checking.find_disorder.Goals as goal
use Rattle.snapshots.proofs.checking.find_disorder.Goals.{else-not-get-via-then-not-get+else-perm-i}
use Rattle.snapshots.proofs.checking.find_disorder.Goals.{else-not-get-via-else-not-get}

pub returns-then-perm-i : goal.returns-then-perm-i
returns-then-perm-i c =
    sym (order_flaw-at c.args.lasts.now c.args.perm.now c.loop-place.place (omega arith)
    (omega (arith, c.len-place-end.ensures)) c.loop-place.invariant
    (disordered c.args.lasts.now c.args.perm.now c.loop-place.place c.get.result c.get.ensures c.if-not-get.true
    c.if-perm-i.true))

pub loop-place-preserved : goal.loop-place-preserved
loop-place-preserved c =
    let lasts = c.args.lasts.now in
    let perm = c.args.perm.now in
    let place = c.loop-place.place in
    let here : is_disordered lasts perm place ≡ false = elim c.else-not-get.branch [
      | else-not-get-via-then-not-get+else-perm-i w ↦ ordered-greater lasts perm place w.if-perm-i.false
      | else-not-get-via-else-not-get w ↦
          ordered-first lasts perm place c.get.result c.get.ensures w.if-not-get.false
    ] in
    ordered-more lasts perm place c.loop-place.invariant here

pub returns : goal.returns
returns c =
    sym (order_flaw-none c.args.lasts.now c.args.perm.now
    (λ j some within. c.loop-place.invariant j some (omega (arith, c.len-place-end.ensures))))
