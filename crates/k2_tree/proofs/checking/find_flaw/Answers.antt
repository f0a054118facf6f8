use Rattle.std.proofs.Common.{◌-◌, ◌*◌, ◌^◌, ◌<◌, ap, sym, ◌∙◌, arith}
use Rattle.k2_tree.specs.Widths.{widths_of}
use Rattle.k2_tree.proofs.WidthLemmas.{widths_under-top}
use Rattle.k2_tree.proofs.CheckingLemmas.{no_bits, levels_start, levels_go_on, level_fails, some_remain, none_remain}
use Rattle.k2_tree.proofs.checking.find_flaw.Goals as goal

pub levels-init : goal.levels-init
levels-init c =
    levels_start (c.args.height - 2 * c.args.wide) c.args.height c.args.bits.now
    (λ none. c.if-len-eq0.false (omega (arith, c.len.ensures, none)))

pub returns-then-len-eq0 : goal.returns-then-len-eq0
returns-then-len-eq0 c =
    sym (no_bits (widths_of c.args.height c.args.wide) c.args.bits.now (omega (arith, c.len.ensures)))

pub levels-preserved : goal.levels-preserved
levels-preserved c =
    let width = c.width_below-width.ensures in
    let fan = c.fan_of-fan.ensures.value ∙ ap (λ w. 4 ^ w) width in
    let found = rw fan at c.in-Ok.ensures.whole in
    let some : 0 < c.levels.level = omega (arith, c.levels-test.true) in
    rw (width, fan) (levels_go_on c.levels.invariant some found)

pub returns-in-Err : goal.returns-in-Err
returns-in-Err c =
    let width = c.width_below-width.ensures in
    let fan = c.fan_of-fan.ensures.value ∙ ap (λ w. 4 ^ w) width in
    sym (rw (← widths_under-top c.args.height c.args.wide c.requires.fits)
    (level_fails c.levels.invariant (omega (arith, c.levels-test.true)) (rw fan at c.in-Err.ensures.flaw)))

pub returns-then-start-len : goal.returns-then-start-len
returns-then-start-len c =
    sym (rw (← widths_under-top c.args.height c.args.wide c.requires.fits)
    (some_remain c.levels.invariant (omega arith) (omega (arith, c.len-2.ensures))))

pub returns-else-start-len : goal.returns-else-start-len
returns-else-start-len c =
    sym (rw (← widths_under-top c.args.height c.args.wide c.requires.fits)
    (none_remain c.levels.invariant (omega arith) (omega (arith, c.len-2.ensures))))
