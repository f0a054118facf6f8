use Rattle.std.proofs.Common.{◌≡◌, ◌+◌, ◌<◌, length, arith, ap, sym, ◌∙◌, Some}
use Rattle.bit_rank.specs.Bits.{rank_of}
use Rattle.k2_tree.specs.Widths.{fan_of}
use Rattle.k2_tree.specs.Groups.{group_start}
use Rattle.k2_tree.specs.Tree.{Tree, tree_of}
use Rattle.k2_tree.specs.TreeSquares.{node_width, child_at, node_of, square_number, IsSquareOf}
use Rattle.k2_tree.proofs.StoredLemmas.{child_inside, child_stands, child_told}
use Rattle.k2_tree.proofs.tree.K2Tree.child.Goals as goal
use Rattle.k2_tree.proofs.tree.K2Tree.child.Goals.{After-number, After-group_start}
use Rattle.k2_tree.proofs.tree.K2Tree.child.Given.{Over}

-- the square is one of the tree that the bits tell
of : (g : Over) (c : After-number g)
    → IsSquareOf (tree_of c.self.inside.height c.self.inside.wide c.self.inside.base c.self.inside.bits)
    c.args.square.now
of g c = rw c.self.view_is c.requires.of

-- the digit is one of its
small : (g : Over) (c : After-number g)
    → c.args.digit < fan_of
    (node_width (tree_of c.self.inside.height c.self.inside.wide c.self.inside.base c.self.inside.bits)
    (node_of c.args.square.now))
small g c =
    omega (arith, c.requires.small, ap (λ (t : Tree). fan_of (node_width t (node_of c.args.square.now))) c.self.view_is)

inside : (g : Over) (c : After-number g)
    → group_start c.self.inside.upper c.number.result + c.args.digit < length c.self.inside.bits
inside g c = rw c.number.ensures (child_inside c.self.invariant (of g c) c.requires.inner c.args.digit (small g c))

pub group_start-requires : goal.group_start-requires
group_start-requires g c =
    omega (arith, inside g (goal.at.group_start-requires g c).After-number, c.self.invariant.tree.few)

pub overflow_add-place : goal.overflow_add-place
overflow_add-place g c =
    omega (
      arith,
      inside g (goal.at.overflow_add-place g c).After-number,
      c.group_start.ensures,
      c.self.invariant.tree.few,
    )

pub child_at-requires-clause-inside : goal.child_at-requires-clause-inside
child_at-requires-clause-inside g c =
    omega (arith, inside g (goal.at.child_at-requires-clause-inside g c).After-number, c.group_start.ensures)

-- the place that is read, by the square's number
place : (g : Over) (c : After-group_start g)
    → c.group_start.result + c.args.digit
    ≡ group_start c.self.inside.upper (square_number c.args.square.now) + c.args.digit
place g c = omega (arith, c.group_start.ensures, ap (group_start c.self.inside.upper) c.number.ensures)

pub returns-in_default-clause-none : goal.returns-in_default-clause-none
returns-in_default-clause-none g c =
    let at = goal.at.returns-in_default-clause-none g c in
    rw (← c.self.view_is)
    (child_told c.self.invariant (of g at.After-number) c.requires.inner c.args.digit (small g at.After-number)
    ∙ (rw (place g at.After-group_start) at c.in_default.ensures.value))

pub returns-clause-found : goal.returns-clause-found
returns-clause-found g c =
    let at = goal.at.returns-clause-found g c in
    let here = of g at.After-number in
    let told = rw (place g at.After-group_start) at c.in-Some.ensures.value in
    let number : square_number c.child.result
    ≡ rank_of c.self.inside.bits (group_start c.self.inside.upper (square_number c.args.square.now) + c.args.digit) + 1
    =
    c.child.ensures.number ∙ told.1 in
    rw (← c.self.view_is) (record {
      base = c.child.ensures.base ∙ here.base;
      stands = rw number (child_stands c.self.invariant here c.requires.inner c.args.digit (small g at.After-number)
          told.0)
          ∙ ap Some (sym (c.child.ensures.node
          ∙ ap (λ w. child_at w (node_of c.args.square.now) c.args.digit)
          (c.width.ensures.value ∙ sym (ap (λ (t : Tree). node_width t (node_of c.args.square.now)) c.self.view_is))));
    })
