use Rattle.std.proofs.Common.{◌∙◌, ◌^◌, ◌≤◌, ◌-◌, ◌++◌, ◌∷◌, [], ap, append-nil, arith, bit_and, length, lit<, map, refl, sym, ℕ}
use Rattle.std.proofs.lemmas.List.{append_assoc}
use Rattle.std.proofs.Math.Nat.{pow-le-pow_right}
use Rattle.k2_tree.specs.Digits.{digits_of}
use Rattle.k2_tree.specs.Listing.{child_spot}
use Rattle.k2_tree.specs.Widths.{fan_of}
use Rattle.k2_tree.proofs.LowestLemmas.{digits_of-zero, lowest}
use Rattle.k2_tree.proofs.listing.push_children.Goals as goal

-- at most sixteen bits
fits : (w : ℕ) → w ≤ 2 → fan_of w ≤ 32
fits w narrow =
    let most : 4 ^ w ≤ 4 ^ 2 = pow-le-pow_right {n = 4} (lit< tt) {i = w} {j = 2} narrow in omega (arith, most)

pub loop-left-init : goal.loop-left-init
loop-left-init c = record { few = c.requires.few; spots = refl }

pub child-requires-clause-small : goal.child-requires-clause-small
child-requires-clause-small c =
    let left = c.loop-left in
    (lowest (fan_of c.args.width) left.left (fits c.args.width c.requires.narrow) left.invariant.few c.loop-left-test.true).small

pub loop-left-smaller : goal.loop-left-smaller
loop-left-smaller c =
    let left = c.loop-left in
    let low = lowest (fan_of c.args.width) left.left (fits c.args.width c.requires.narrow) left.invariant.few c.loop-left-test.true in
    omega (arith, ap length low.first)

pub loop-left-preserved : goal.loop-left-preserved
loop-left-preserved c =
    let left = c.loop-left in
    let low = lowest (fan_of c.args.width) left.left (fits c.args.width c.requires.narrow) left.invariant.few c.loop-left-test.true in
    let child = child_spot c.args.width c.args.spot in
    let rest = map child (digits_of (fan_of c.args.width) (bit_and left.left (left.left - 1))) in
    record {
      few = low.few;
      spots = ap (λ xs. xs ++ rest) c.in_ok-push.ensures.items ∙ append_assoc left.spots.items (c.child.result ∷ []) rest
          ∙ ap (λ s. left.spots.items ++ s ∷ rest) c.child.ensures
          ∙ ap (λ ds. left.spots.items ++ map child ds) (sym low.first) ∙ left.invariant.spots;
    }

pub returns : goal.returns
returns c =
    let left = c.loop-left in
    let child = child_spot c.args.width c.args.spot in
    record {
      ok = sym (append-nil left.spots.items)
          ∙ ap (λ ds. left.spots.items ++ map child ds) (sym (digits_of-zero (fan_of c.args.width)))
          ∙ ap (λ d. left.spots.items ++ map child (digits_of (fan_of c.args.width) d)) (sym c.loop-left-test.false)
          ∙ left.invariant.spots;
    }
