use Rattle.std.proofs.Common.{ℕ, ◌-◌, ◌∷◌, ◌≤◌, ◌^◌, refl, length, map, arith, ap, sym, ◌∙◌, bit_and, lit<}
use Rattle.std.proofs.Math.Nat.{pow-le-pow_right}
use Rattle.k2_tree.specs.Widths.{fan_of}
use Rattle.k2_tree.specs.Squares.{Node}
use Rattle.k2_tree.specs.TreeSquares.{child_at, node_of}
use Rattle.k2_tree.specs.Digits.{digits_of}
use Rattle.k2_tree.proofs.LowestLemmas.{digits_of-zero, lowest}
use Rattle.k2_tree.proofs.pending_children.PendingChildren.next.Goals as goal

pub returns-then-self-eq0-clause-none : goal.returns-then-self-eq0-clause-none
returns-then-self-eq0-clause-none c =
    let s = c.args.self.now in
    ap (λ d. map (child_at s.width (node_of s.square)) (digits_of (fan_of s.width) d)) c.if-self-eq0.true
    ∙ ap (map (child_at s.width (node_of s.square))) (digits_of-zero (fan_of s.width))

-- at most sixteen bits
fits : (w : ℕ) → w ≤ 2 → fan_of w ≤ 32
fits w narrow =
    let most : 4 ^ w ≤ 4 ^ 2 = pow-le-pow_right {n = 4} (lit< tt) {i = w} {j = 2} narrow in omega (arith, most)

pub child-child-requires-clause-small : goal.child-child-requires-clause-small
child-child-requires-clause-small c =
    let s = c.args.self.now in
    (lowest (fan_of s.width) s.digits (fits s.width s.narrow) s.few c.if-self-eq0.false).small

pub overflow_add-self : goal.overflow_add-self
overflow_add-self c =
    let s = c.args.self.now in
    let first = ap length (lowest (fan_of s.width) s.digits (fits s.width s.narrow) s.few c.if-self-eq0.false).first in
    omega (arith, s.room, first)

pub invariant_of-self : goal.invariant_of-self
invariant_of-self c =
    let s = c.args.self.now in
    let low = lowest (fan_of s.width) s.digits (fits s.width s.narrow) s.few c.if-self-eq0.false in
    let first = ap length low.first in
    record { some = s.some; narrow = s.narrow; inner = s.inner; few = low.few; room = omega (arith, s.room, first) }

pub returns-clause-found : goal.returns-clause-found
returns-clause-found c =
    let s = c.args.self.now in
    let low = lowest (fan_of s.width) s.digits (fits s.width s.narrow) s.few c.if-self-eq0.false in
    let facts = c.child-child.ensures in
    record {
      nodes = ap (map (child_at s.width (node_of s.square))) low.first
          ∙ ap (λ n. n ∷ map (child_at s.width (node_of s.square))
          (digits_of (fan_of s.width) (bit_and s.digits (s.digits - 1))))
          (sym facts.node);
      number = facts.number;
      later = refl;
      base = facts.base;
      level = omega (arith, ap (λ (n : Node). n.level) facts.node, s.inner);
    }
