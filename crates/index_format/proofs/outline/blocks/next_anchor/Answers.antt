use Rattle.std.proofs.Common.{◌+◌, ◌-◌, ◌≤◌, arith}
use Rattle.std.proofs.lemmas.Result.{err_from_is_err_and}
use Rattle.index_format.proofs.AnchorLemmas.{next_anchor_in-untold, next_anchor_in-none, next_anchor_in-late, next_anchor_in-some}
use Rattle.index_format.proofs.outline.blocks.next_anchor.Goals as goal

pub returns-in_err-gap-clause-exact : goal.returns-in_err-gap-clause-exact
returns-in_err-gap-clause-exact c =
    let p = err_from_is_err_and c.from_residual.result c.from_residual.ensures.1 in
    rw (p.1, p.2) (next_anchor_in-untold c.args.frame.now c.args.index c.args.next c.args.reader.now c.in_err-gap.field-0.0
    (rw c.of-place.ensures at c.in_err-gap.ensures.exact))

pub returns-then-gap-eq1-clause-exact : goal.returns-then-gap-eq1-clause-exact
returns-then-gap-eq1-clause-exact c = next_anchor_in-none c.args.frame.now c.args.index c.args.next c.args.reader.now c.in_ok-gap.gap c.told.new.reader
    (rw c.of-place.ensures at c.in_ok-gap.ensures.exact) c.if-gap-eq1.true

pub returns-then-at-from-clause-exact : goal.returns-then-at-from-clause-exact
returns-then-at-from-clause-exact c =
    let gap = c.in_ok-gap.gap in
    let from = c.from.ensures in
    let less = c.saturating_sub.ensures in
    let late : c.args.frame.now.span ≤ c.args.next + gap - 1 = omega (arith, c.if-at-from.true, c.from-2.ensures, from, less, c.requires.next, c.if-gap-eq1.false) in
    rw (c.flaw.ensures, c.of-place.ensures) (next_anchor_in-late c.args.frame.now c.args.index c.args.next c.args.reader.now gap c.told.new.reader
    (rw c.of-place.ensures at c.in_ok-gap.ensures.exact) (omega (arith, c.if-at-from.true, c.from-2.ensures, from, less, c.requires.next, c.if-gap-eq1.false)) late)

pub returns-clause-exact : goal.returns-clause-exact
returns-clause-exact c = next_anchor_in-some c.args.frame.now c.args.index c.args.next c.args.reader.now c.in_ok-gap.gap c.told.new.reader
    (rw c.of-place.ensures at c.in_ok-gap.ensures.exact) (c.from.result + c.saturating_sub.result) c.requires.next c.if-gap-eq1.false
    (omega (arith, c.from.ensures, c.saturating_sub.ensures)) (omega (arith, c.if-at-from.false, c.from-2.ensures))
