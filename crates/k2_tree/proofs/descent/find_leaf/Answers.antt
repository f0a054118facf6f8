use Rattle.std.proofs.Common.{◌≡◌, ◌+◌, ◌-◌, ◌*◌, ◌/◌, ◌%◌, ◌^◌, ◌<◌, ap, ◌∙◌, refl, arith, length}
use Rattle.k2_tree.specs.Widths.{width_below, widths_of}
use Rattle.k2_tree.specs.Groups.{group_start, upper_squares}
use Rattle.k2_tree.specs.Tree.{codes_in}
use Rattle.k2_tree.proofs.MortonLemmas.{two_bits}
use Rattle.k2_tree.proofs.WidthLemmas.{width_below-within}
use Rattle.k2_tree.proofs.WayLemmas.{begins, reads_inside, ends, goes_on, arrives, upper_few}
use Rattle.k2_tree.proofs.descent.find_leaf.Goals as goal
use Rattle.k2_tree.proofs.descent.find_leaf.Goals.{After-from, After-group_start}
use Rattle.k2_tree.proofs.descent.find_leaf.Given.{Over}

pub levels-init : goal.levels-init
levels-init g c = record {
  here = begins c.requires.tree c.args.code c.requires.some c.requires.small;
  within = omega arith;
  cost = omega arith;
}

-- the digit that the code takes
digit_is : (g : Over) (c : After-from g)
    → c.args.code / 2 ^ (2 * (c.levels.level - c.width_below-width.result)) % c.from.result
    ≡ c.args.code / 4 ^ (c.levels.level - width_below (c.args.height - 2 * c.args.wide) c.levels.level)
    % 4 ^ width_below (c.args.height - 2 * c.args.wide) c.levels.level
digit_is g c =
    let w = width_below (c.args.height - 2 * c.args.wide) c.levels.level in
    let width = c.width_below-width.ensures in
    let many : c.from.result ≡ 4 ^ w = c.from.ensures ∙ c.fan_of.ensures.value ∙ ap (λ k. 4 ^ k) width in
    rw (width, many, two_bits (c.levels.level - w)) refl

-- the place that the code reads is the one of the child's bit
inside : (g : Over) (c : After-from g)
    → group_start c.args.upper c.levels.square
    + c.args.code / 2 ^ (2 * (c.levels.level - c.width_below-width.result)) % c.from.result < length c.args.bits.now
inside g c =
    rw (digit_is g c, c.requires.upper)
    (reads_inside c.requires.tree c.args.code (omega (arith, c.levels-test.true)) c.levels.invariant.here)

pub group_start-requires : goal.group_start-requires
group_start-requires g c =
    omega (arith, inside g (goal.at.group_start-requires g c).After-from, c.requires.tree.few)

pub overflow_add-group_start : goal.overflow_add-group_start
overflow_add-group_start g c =
    omega (
      arith,
      inside g (goal.at.overflow_add-group_start g c).After-from,
      c.group_start.ensures,
      c.requires.tree.few,
    )

pub child_at-requires-clause-inside : goal.child_at-requires-clause-inside
child_at-requires-clause-inside g c =
    omega (arith, inside g (goal.at.child_at-requires-clause-inside g c).After-from, c.group_start.ensures)

-- that place by its meaning
place_is : (g : Over) (c : After-group_start g)
    → c.group_start.result + c.args.code / 2 ^ (2 * (c.levels.level - c.width_below-width.result)) % c.from.result
    ≡ group_start (upper_squares c.args.height c.args.wide
    (codes_in (widths_of c.args.height c.args.wide) c.args.bits.now))
    c.levels.square
    + c.args.code / 4 ^ (c.levels.level - width_below (c.args.height - 2 * c.args.wide) c.levels.level)
    % 4 ^ width_below (c.args.height - 2 * c.args.wide) c.levels.level
place_is g c =
    let w = width_below (c.args.height - 2 * c.args.wide) c.levels.level in
    let width = c.width_below-width.ensures in
    let many : c.from.result ≡ 4 ^ w = c.from.ensures ∙ c.fan_of.ensures.value ∙ ap (λ k. 4 ^ k) width in
    rw (c.group_start.ensures, ← c.requires.upper, width, many, two_bits (c.levels.level - w)) refl

pub returns-in_default-clause-value : goal.returns-in_default-clause-value
returns-in_default-clause-value g c =
    let at = goal.at.returns-in_default-clause-value g c in
    ends c.requires.tree c.args.code (omega (arith, c.levels-test.true)) c.levels.invariant.here
    (rw (place_is g at.After-group_start) at c.in_default.ensures.value)

pub levels-preserved : goal.levels-preserved
levels-preserved g c =
    let at = goal.at.levels-preserved g c in
    let told = rw (place_is g at.After-group_start) at c.in-Some.ensures.value in
    let width = c.width_below-width.ensures in
    let some = width_below-within (c.args.height - 2 * c.args.wide) c.levels.level (omega (arith, c.levels-test.true))
    in
    record {
      here = rw width (goes_on c.requires.tree c.args.code (omega (arith, c.levels-test.true)) c.levels.invariant.here
          told.0 told.1);
      within = omega (arith, c.levels.invariant.within);
      cost = omega (arith, c.levels.invariant.cost, c.in-Some.ensures.cost, some.0, some.1, width);
    }

pub square_at-requires : goal.square_at-requires
square_at-requires g c = omega (arith, upper_few c.requires.tree, c.requires.upper, c.requires.tree.few)

pub overflow_sub-result : goal.overflow_sub-result
overflow_sub-result g c =
    rw (c.square_at.ensures, c.len.ensures, c.requires.upper)
    (arrives c.requires.tree (omega arith) c.levels.invariant.here).0

pub returns-clause-value : goal.returns-clause-value
returns-clause-value g c =
    rw (c.square_at.ensures, c.len.ensures, c.requires.upper)
    (arrives c.requires.tree (omega arith) c.levels.invariant.here).1
