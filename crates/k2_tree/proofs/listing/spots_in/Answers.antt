use Rattle.std.proofs.Common.{◌≡◌, ◌∙◌, ◌-◌, ◌*◌, ◌++◌, ◌∷◌, [], ap, arith, map, sym, ℕ}
use Rattle.k2_tree.specs.Listing.{spot_of}
use Rattle.k2_tree.specs.Squares.{squares_above}
use Rattle.k2_tree.specs.Tree.{codes_in}
use Rattle.k2_tree.specs.Widths.{width_below, widths_of, widths_under}
use Rattle.k2_tree.proofs.ListingLemmas.{length-spots, level-lowest, level-top, squares-below, squares-top}
use Rattle.k2_tree.proofs.ToldLemmas.{codes_in-none}
use Rattle.k2_tree.proofs.listing.spots_in.Goals as goal

pub returns-then-len-eq0-clause-ok : goal.returns-then-len-eq0-clause-ok
returns-then-len-eq0-clause-ok g c =
    c.new-spots.ensures.items
    ∙ sym (ap (map (spot_of c.args.height)) (codes_in-none (widths_of c.args.height c.args.wide) c.args.bits.now
    (omega (arith, c.len.ensures, c.if-len-eq0.true))))

pub loop-level-init : goal.loop-level-init
loop-level-init g c =
    let top = c.in_ok-push.ensures.items
    ∙ ap (λ front. front ++ record { code = 0; column = 0; row = 0 } ∷ []) c.new-spots.ensures.items in
    record {
      level = level-top c.requires.tree c.push.new.self.items top
          (omega (arith, c.if-len-eq0.false, c.len.ensures));
      reads = omega (arith, squares-top c.requires.tree);
    }

pub returns-in_err-level-clause-cost : goal.returns-in_err-level-clause-cost
returns-in_err-level-clause-cost g c =
    let level = c.loop-level.invariant.level in
    omega (
      arith,
      c.in_err-level.ensures.cost,
      c.loop-level.invariant.reads,
      length-spots c.requires.tree level c.loop-level-test.true,
      squares-below c.requires.tree level c.loop-level-test.true,
    )

pub loop-level-preserved : goal.loop-level-preserved
loop-level-preserved g c =
    let a = c.args in
    let from = c.loop-level.level in
    let level = c.loop-level.invariant.level in
    let low : ℕ = a.height - 2 * a.wide in
    let next : c.in_ok-level.level.below ≡ from.below - width_below low from.below =
    omega (arith, c.in_ok-level.ensures.below) in
    record {
      level = c.in_ok-level.ensures.level;
      reads = omega (
        arith,
        c.in_ok-level.ensures.cost,
        c.loop-level.invariant.reads,
        length-spots c.requires.tree level c.loop-level-test.true,
        squares-below c.requires.tree level c.loop-level-test.true,
        ap (λ n. squares_above (widths_under low n) 0 (codes_in (widths_of a.height a.wide) a.bits.now)) next,
      );
    }

pub returns-clause-ok : goal.returns-clause-ok
returns-clause-ok g c =
    let level = c.loop-level.level in
    level-lowest c.requires.tree level.spots.items level.start level.below c.loop-level.invariant.level (omega (arith, c.loop-level-test.false))
