use Rattle.std.proofs.Common.{◌≡◌, ◌*◌, ◌%◌, ◌^◌, ap, ◌∙◌, arith, length}
use Rattle.std.proofs.Math.Nat.{mod-eq_of_lt}
use Rattle.k2_tree.specs.Groups.{digit_at, square_at}
use Rattle.k2_tree.proofs.MortonLemmas.{two_bits}
use Rattle.k2_tree.proofs.WayLemmas.{upper_few}
use Rattle.k2_tree.proofs.ClimbLemmas.{starts, has_one, climbs, arrives_at_top, IsHigher}
use Rattle.k2_tree.proofs.climb.code_of_leaf.Goals as goal
use Rattle.k2_tree.proofs.climb.code_of_leaf.Goals.{After-from}
use Rattle.k2_tree.proofs.climb.code_of_leaf.Given.{Over}

pub square_at-requires : goal.square_at-requires
square_at-requires g c = omega (arith, upper_few c.requires.tree, c.requires.upper, c.requires.tree.few)

pub overflow_add-square : goal.overflow_add-square
overflow_add-square g c =
    let first = (starts c.requires.tree c.requires.within).0 in
    let same = c.square_at.ensures ∙ ap (λ n. square_at c.args.upper n) c.len.ensures
    ∙ ap (λ u. square_at u (length c.args.bits.now)) c.requires.upper in
    omega (arith, first, same)

pub levels-init : goal.levels-init
levels-init g c = record {
  climb = rw (c.square_at.ensures, c.len.ensures, c.requires.upper) (starts c.requires.tree c.requires.within).1;
  cost = omega arith;
}

pub select1-place-requires-clause-from_one : goal.select1-place-requires-clause-from_one
select1-place-requires-clause-from_one g c =
    (has_one c.requires.tree c.requires.within c.levels.invariant.climb c.levels-test.true).0

pub select1-place-requires-clause-enough : goal.select1-place-requires-clause-enough
select1-place-requires-clause-enough g c =
    (has_one c.requires.tree c.requires.within c.levels.invariant.climb c.levels-test.true).1

pub square_at-square-requires : goal.square_at-square-requires
square_at-square-requires g c = omega (arith, upper_few c.requires.tree, c.requires.upper, c.requires.tree.few)

pub digit_at-requires : goal.digit_at-requires
digit_at-requires g c = omega (arith, upper_few c.requires.tree, c.requires.upper, c.requires.tree.few)

-- one level up
up : (g : Over) (c : After-from g)
    → IsHigher c.args.height c.args.wide c.args.bits.now c.args.leaf c.levels.level c.levels.code c.args.upper
    c.select1-place.result
up g c =
    rw c.requires.upper (climbs c.requires.tree c.requires.within c.levels.invariant.climb c.levels-test.true
    c.requires.low c.select1-place.ensures.place)

-- what the code adds
added : (g : Over) (c : After-from g) → c.from.result * 2 ^ (2 * c.levels.level) % 18446744073709551616
    ≡ digit_at c.args.upper c.select1-place.result * 4 ^ c.levels.level
added g c =
    let digit = c.from.ensures ∙ c.digit_at.ensures.value in
    let small = (up g c).small in
    rw (two_bits c.levels.level, digit) (mod-eq_of_lt (omega (arith, small)))

pub overflow_add-code : goal.overflow_add-code
overflow_add-code g c =
    let at = (goal.at.overflow_add-code g c).After-from in omega (arith, added g at, (up g at).small)

pub levels-preserved : goal.levels-preserved
levels-preserved g c =
    let at = (goal.at.levels-preserved g c).After-from in
    let next = (up g at).climb in
    record {
      climb = rw (c.width_at-level.ensures.value, c.square_at-square.ensures, added g at) next;
      cost = omega (arith, c.levels.invariant.cost, c.select1-place.ensures.cost, c.width_at-level.ensures.some);
    }

pub returns-clause-value : goal.returns-clause-value
returns-clause-value g c =
    arrives_at_top c.requires.tree c.requires.within c.levels.invariant.climb (omega arith)
