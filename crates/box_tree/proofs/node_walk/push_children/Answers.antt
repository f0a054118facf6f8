use Rattle.std.proofs.Common.{◌≡◌, ℕ, ◌+◌, ◌-◌, ◌*◌, ◌/◌, ◌%◌, ◌^◌, ◌<◌, ◌≤◌, List, [], ◌∷◌, ◌++◌, length, reverse}
use Rattle.std.proofs.Common.{refl, sym, ap, ◌∙◌, arith, lit<, length-append}
use Rattle.std.proofs.lemmas.List.{reverse-append}
use Rattle.k2_tree.specs.Morton.{morton_column, morton_row}
use Rattle.box_tree.specs.Held.{mask_digits}
use Rattle.box_tree.specs.Walk.{child_refs}
use Rattle.box_tree.specs.declared.node_ref.NodeRef.{NodeRef}
use Rattle.box_tree.proofs.DigitsLemmas.{digits_from, digits_from-clear, digits_from-end, digits_from-few}
use Rattle.box_tree.proofs.DigitsLemmas.{digits_from-set, digits_from-zero}
use Rattle.box_tree.proofs.node_walk.push_children.Goals as goal

pub loop-digit-init : goal.loop-digit-init
loop-digit-init c =
    let none : digits_from c.args.width c.args.mask c.fan_of-fan.result ≡ [] =
    digits_from-end c.args.width c.args.mask c.fan_of-fan.result (omega arith) in
    record {
      here = rw none refl;
      left = omega (arith, ap length none);
      long = omega (arith, ap length none);
    }

-- the digit is the first of those from it on
cut : (width mask digit : ℕ) → 0 < digit → digit ≤ 4 ^ width → mask / 2 ^ (digit - 1) % 2 ≡ 1
    → digits_from width mask (digit - 1) ≡ (digit - 1) ∷ digits_from width mask digit
cut width mask digit some low set =
    let back : digit - 1 + 1 ≡ digit = omega arith in
    digits_from-set width mask (digit - 1) (omega arith) set ∙ ap (λ d. (digit - 1) ∷ digits_from width mask d) back

few : (width mask digit : ℕ) → 0 < digit → digit ≤ 4 ^ width → mask / 2 ^ (digit - 1) % 2 ≡ 1
    → length (digits_from width mask digit) + 1 ≤ length (mask_digits width mask)
few width mask digit some low set =
    let most = digits_from-few width mask (digit - 1) (omega arith) in
    omega (arith, ap length (cut width mask digit some low set), most)

pub overflow_sub-number : goal.overflow_sub-number
overflow_sub-number c = let most =
    few c.args.width c.args.mask c.loop-digit.digit (omega arith) (omega arith) c.if-mask-digit-eq1.true in
    omega (arith, c.loop-digit.invariant.left, c.requires.stand, most)

pub push-requires : goal.push-requires
push-requires c =
    let most = few c.args.width c.args.mask c.loop-digit.digit (omega arith) (omega arith) c.if-mask-digit-eq1.true in
    (lit< tt, omega (arith, c.loop-digit.invariant.long, c.requires.room, most))

pub loop-digit-preserved-then-mask-digit-eq1 : goal.loop-digit-preserved-then-mask-digit-eq1
loop-digit-preserved-then-mask-digit-eq1 c =
    let l = c.loop-digit in
    let first = cut c.args.width c.args.mask l.digit (omega arith) (omega arith) c.if-mask-digit-eq1.true in
    let most = few c.args.width c.args.mask l.digit (omega arith) (omega arith) c.if-mask-digit-eq1.true in
    let parent : NodeRef = c.args.parent.now in
    let ds : List ℕ = digits_from c.args.width c.args.mask l.digit in
    let made : ℕ → ℕ → NodeRef = λ x y.
    record {
      node = l.number - 1;
      below = parent.below - 1;
      level = parent.level - c.args.width;
      column = x;
      row =
          y;
    } in
    let x : ℕ = c.child_column.result in
    let y : ℕ = c.child_row.result in
    let some : 1 ≤ l.number = omega (arith, l.invariant.left, c.requires.stand, most) in
    let back : l.number ≡ l.number - 1 + 1 = omega arith in
    record {
      here = ap reverse c.push.ensures.items ∙ reverse-append l.stack.items (made x y ∷ [])
          ∙ ap (λ rest. made x y ∷ rest) l.invariant.here
          ∙ ap (λ k. made k y ∷ child_refs parent c.args.width l.number ds ++ reverse c.args.stack.now.items) c.child_column.ensures
          ∙ ap (λ k. made (2 ^ c.args.width * parent.column + morton_column c.args.width
          (l.digit - 1)) k ∷ child_refs parent c.args.width l.number ds ++ reverse c.args.stack.now.items) c.child_row.ensures
          ∙ ap (λ n. made (2 ^ c.args.width * parent.column + morton_column c.args.width (l.digit - 1))
          (2 ^ c.args.width * parent.row + morton_row c.args.width (l.digit - 1)) ∷ child_refs parent c.args.width n ds
          ++ reverse c.args.stack.now.items) back
          ∙ ap (λ all. child_refs parent c.args.width (l.number - 1) all ++ reverse c.args.stack.now.items) (sym first);
      left = omega (arith, l.invariant.left, ap length first);
      long = omega (
        arith,
        l.invariant.long,
        ap length first,
        ap length c.push.ensures.items,
        length-append l.stack.items (made x y ∷ []),
      );
    }

pub loop-digit-preserved : goal.loop-digit-preserved
loop-digit-preserved c =
    let l = c.loop-digit in
    let same : digits_from c.args.width c.args.mask (l.digit - 1) ≡ digits_from c.args.width c.args.mask
    (l.digit - 1 + 1) =
    digits_from-clear c.args.width c.args.mask (l.digit - 1) (omega arith) (c.if-mask-digit-eq1.false) in
    let back : l.digit - 1 + 1 ≡ l.digit = omega arith in
    record {
      here = rw (same, back) l.invariant.here;
      left = rw (same, back) l.invariant.left;
      long = rw (same, back) l.invariant.long;
    }

pub returns : goal.returns
returns c =
    let l = c.loop-digit in
    let end : l.digit ≡ 0 = omega arith in
    let all : digits_from c.args.width c.args.mask l.digit ≡ mask_digits c.args.width c.args.mask =
    ap (digits_from c.args.width c.args.mask) end ∙ digits_from-zero c.args.width c.args.mask in
    let number : l.number ≡ c.args.end - length (mask_digits c.args.width c.args.mask) =
    omega (arith, l.invariant.left, ap length all) in
    l.invariant.here ∙ ap
    (λ ds. child_refs c.args.parent.now c.args.width l.number ds ++ reverse c.args.stack.now.items) all
    ∙ ap (λ n. child_refs c.args.parent.now c.args.width n
    (mask_digits c.args.width c.args.mask) ++ reverse c.args.stack.now.items) number
