use Rattle.std.proofs.Common.{◌≡◌, ℕ, ◌+◌, ◌-◌, ◌^◌, ◌≤◌, length, map, arith, ap, sym, ◌∙◌, refl}
use Rattle.packed_bits.specs.Bits.{window_of}
use Rattle.packed_bits.proofs.NumberLemmas.{window_of-lt}
use Rattle.bit_rank.specs.Bits.{rank_of}
use Rattle.bit_rank.proofs.RankLemmas.{rank_of-le-place}
use Rattle.k2_tree.specs.Widths.{fan_of}
use Rattle.k2_tree.specs.Groups.{group_start}
use Rattle.k2_tree.specs.Tree.{Tree, tree_of}
use Rattle.k2_tree.specs.TreeSquares.{node_width, child_at, node_of, square_number, IsSquareOf}
use Rattle.k2_tree.specs.Digits.{digits_of}
use Rattle.k2_tree.specs.PendingChildren.{nodes_of}
use Rattle.k2_tree.proofs.PrefixLemmas.{fan_pos}
use Rattle.k2_tree.proofs.StoredLemmas.{child_inside, group_nodes, group_stands, length-digits_of}
use Rattle.k2_tree.proofs.tree.K2Tree.pending_children.Goals as goal
use Rattle.k2_tree.proofs.tree.K2Tree.pending_children.Given.{Over}
use Rattle.k2_tree.proofs.tree.K2Tree.pending_children.Goals.{After-number, After-rank1-number}
use Rattle.k2_tree.proofs.tree.K2Tree.pending_children.Goals.{After-new}

-- the square is one of the tree that the bits tell
of : (g : Over) (c : After-number g)
    → IsSquareOf (tree_of c.self.inside.height c.self.inside.wide c.self.inside.base c.self.inside.bits) c.args.square
of g c = rw c.self.view_is c.requires.of

-- the width that the code takes is the square's
width : (g : Over) (c : After-number g) → c.width-width.result
    ≡ node_width (tree_of c.self.inside.height c.self.inside.wide c.self.inside.base c.self.inside.bits)
    (node_of c.args.square)
width g c =
    c.width-width.ensures.value ∙ sym (ap (λ (t : Tree). node_width t (node_of c.args.square)) c.self.view_is)

-- its bits are in the tree, which has few
inside : (g : Over) (c : After-number g)
    → group_start c.self.inside.upper c.number.result + fan_of c.width-width.result ≤ length c.self.inside.bits
inside g c =
    let w = node_width (tree_of c.self.inside.height c.self.inside.wide c.self.inside.base c.self.inside.bits)
    (node_of c.args.square) in
    let last = child_inside c.self.invariant (of g c) c.requires.inner (fan_of w - 1) (omega (arith, fan_pos w)) in
    rw (c.number.ensures, width g c) (omega (arith, last, fan_pos w))

pub group_start-place-requires : goal.group_start-place-requires
group_start-place-requires g c =
    omega (arith, inside g (goal.at.group_start-place-requires g c).After-number, c.self.invariant.tree.few)

pub window-digits-requires-clause-within : goal.window-digits-requires-clause-within
window-digits-requires-clause-within g c =
    omega (
      arith,
      inside g (goal.at.window-digits-requires-clause-within g c).After-number,
      c.group_start-place.ensures,
      c.fan_of.ensures.value,
    )

pub rank1-number-requires : goal.rank1-number-requires
rank1-number-requires g c =
    omega (arith, inside g (goal.at.rank1-number-requires g c).After-number, c.group_start-place.ensures)

-- the number of the first child, if there is one
first_number : (g : Over) (c : After-rank1-number g) → c.rank1-number.result ≤ c.group_start-place.result
first_number g c =
    omega (arith, c.rank1-number.ensures.value, rank_of-le-place c.self.inside.bits c.group_start-place.result)

pub overflow_add-number : goal.overflow_add-number
overflow_add-number g c =
    let at = goal.at.overflow_add-number g c in
    omega (
      arith,
      inside g at.After-number,
      first_number g at.After-rank1-number,
      c.group_start-place.ensures,
      c.self.invariant.tree.few,
    )

pub new-requires-clause-few : goal.new-requires-clause-few
new-requires-clause-few g c =
    rw (c.window-digits.ensures.value, ← c.fan_of.ensures.value)
    (window_of-lt c.self.inside.bits c.group_start-place.result c.fan_of.result)

pub new-requires-clause-room : goal.new-requires-clause-room
new-requires-clause-room g c =
    let at = goal.at.new-requires-clause-room g c in
    let first = first_number g at.After-rank1-number in
    omega (
      arith,
      inside g at.After-number,
      first,
      c.group_start-place.ensures,
      c.self.invariant.tree.few,
      length-digits_of (fan_of c.width-width.result) c.window-digits.result,
    )

-- the children that the bits tell
nodes : (g : Over) (c : After-new g) (w : ℕ) → c.width-width.result ≡ w → nodes_of c.new.result
    ≡ map (child_at w (node_of c.args.square)) (digits_of (fan_of w)
    (window_of c.self.inside.bits (group_start c.self.inside.upper (square_number c.args.square)) (fan_of w)))
nodes g c w same =
    let many : c.fan_of.result ≡ fan_of w = c.fan_of.ensures.value ∙ ap (λ k. 4 ^ k) same in
    rw (
      c.new.ensures.square,
      c.new.ensures.width,
      c.new.ensures.digits,
      c.window-digits.ensures.value,
      c.group_start-place.ensures,
      c.number.ensures,
      many,
      same,
    ) refl

pub returns-clause-nodes : goal.returns-clause-nodes
returns-clause-nodes g c =
    let at = goal.at.returns-clause-nodes g c in
    let w = node_width (tree_of c.self.inside.height c.self.inside.wide c.self.inside.base c.self.inside.bits)
    (node_of c.args.square) in
    rw (← c.self.view_is)
    (nodes g at.After-new w (width g at.After-number)
    ∙ group_nodes c.self.invariant (of g at.After-number) c.requires.inner)

pub returns-clause-stands : goal.returns-clause-stands
returns-clause-stands g c =
    let at = goal.at.returns-clause-stands g c in
    let w = node_width (tree_of c.self.inside.height c.self.inside.wide c.self.inside.base c.self.inside.bits)
    (node_of c.args.square) in
    let number : c.new.result.number
    ≡ rank_of c.self.inside.bits (group_start c.self.inside.upper (square_number c.args.square)) + 1 =
    c.new.ensures.number ∙ ap (λ r. r + 1) c.rank1-number.ensures.value
    ∙ ap (λ p. rank_of c.self.inside.bits p + 1)
    (c.group_start-place.ensures ∙ ap (group_start c.self.inside.upper) c.number.ensures) in
    rw (← c.self.view_is, number, nodes g at.After-new w (width g at.After-number))
    (group_stands c.self.invariant (of g at.After-number) c.requires.inner)
