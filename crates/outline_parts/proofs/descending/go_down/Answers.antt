use Rattle.std.proofs.Common.{◌≡◌, ◌∙◌, ◌+◌, ◌*◌, ◌∷◌, ap, arith, drop, refl, sym}
use Rattle.k2_tree.specs.Tree.{codes_below}
use Rattle.k2_tree.specs.Widths.{levels_with}
use Rattle.outline_parts.proofs.DescentLemmas.{levels-more}
use Rattle.outline_parts.proofs.descending.go_down.Goals as goal

pub loop-init : goal.loop-init
unfolding levels_with
loop-init c = record { level = c.requires.level; digits = omega arith; below = λ rest. refl }

pub loop-preserved : goal.loop-preserved
loop-preserved c =
    let width = c.args.width in
    let from = drop c.args.from.start c.args.bits.now in
    let inv = c.loop.invariant in
    let more : width * (c.loop.counter + 1) ≡ width * c.loop.counter + width = grind arith in
    record {
      level = c.in_ok-level.ensures.level;
      digits = omega (arith, c.in_ok-level.ensures.digits, inv.digits, more);
      below = λ rest. c.in_ok-level.ensures.below rest ∙ inv.below (width ∷ rest)
          ∙ ap (λ widths. codes_below widths c.args.from.codes.items from) (sym (levels-more width c.loop.counter rest));
    }
