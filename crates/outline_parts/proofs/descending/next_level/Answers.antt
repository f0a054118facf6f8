use Rattle.std.proofs.Common.{◌≡◌, ◌∙◌, ◌+◌, ◌*◌, ◌^◌, ◌<◌, ◌≤◌, ◌++◌, All, ap, arith, drop, get_or, length, refl, subst, sym, take}
use Rattle.std.specs.List.{range_with_len}
use Rattle.std.proofs.Math.Nat.{pow-le-pow_right}
use Rattle.std.proofs.lemmas.List.{length-drop, take_all}
use Rattle.k2_tree.specs.Tree.{codes_below, where_set}
use Rattle.k2_tree.specs.TreeBits.{children_of_prefixes}
use Rattle.k2_tree.specs.Widths.{fan, fan_of}
use Rattle.track_types.specs.declared.limit.TheConstants.{MAX_HEIGHT}
use Rattle.outline_parts.proofs.DescentLemmas.{All-where_set, fan-more, length-where_set, small-children, start-more, told-more, where_set-nil}
use Rattle.outline_parts.proofs.descending.next_level.Goals as goal
use Rattle.outline_parts.proofs.descending.next_level.Goals.{After-drop-from-2}

pub loop-prefix-init : goal.loop-prefix-init
unfolding children_of_prefixes
loop-prefix-init c =
    let none : c.fan_of-fan.result * 0 ≡ 0 = omega arith in
    record {
      codes = c.new-codes.ensures.items ∙ sym (where_set-nil (drop c.args.from.start c.args.bits.now));
      behind = ap (λ n. drop n (drop c.args.from.start c.args.bits.now)) (sym none);
      within = c.requires.level.within;
    }

pub loop-prefix-preserved : goal.loop-prefix-preserved
loop-prefix-preserved c =
    let bits = c.args.bits.now in
    let prefixes = c.args.from.codes.items in
    let size = c.fan_of-fan.result in
    let i = c.loop-prefix.prefix-index in
    let read = c.as_slice-prefix-items.ensures.value in
    let within : i < length prefixes = omega (arith, c.loop-prefix-test.true, ap length read) in
    let behind = c.loop-prefix.invariant.behind in
    let end = c.in_ok-start.ensures.end in
    let end_within : c.in_ok-start.start ≤ length bits = omega (arith, end) in
    record {
      codes =
          c.in_ok-start.ensures.ok
          ∙ ap (λ front. front ++ where_set (drop c.loop-prefix.start bits) (range_with_len (size * get_or c.as_slice-prefix-items.result.now i 0) size))
          c.loop-prefix.invariant.codes
          ∙ ap (λ all. where_set (drop c.args.from.start bits) (children_of_prefixes size (take i prefixes))
          ++ where_set (drop c.loop-prefix.start bits) (range_with_len (size * get_or all i 0) size)) read
          ∙ sym (told-more bits c.args.from.start size prefixes i c.loop-prefix.start within behind);
      behind = start-more bits c.args.from.start size prefixes i c.loop-prefix.start c.in_ok-start.start behind end;
      within = end_within;
    }

pub push_children-requires-clause-small : goal.push_children-requires-clause-small
push_children-requires-clause-small c =
    let prefixes = c.args.from.codes.items in
    let read = c.as_slice-prefix-items.ensures.value in
    let i = c.loop-prefix.prefix-index in
    let within : i < length prefixes = omega (arith, c.loop-prefix-test.true, ap length read) in
    let low = c.requires.level.small i 0 within in
    let few_digits : c.args.from.digits ≤ MAX_HEIGHT = omega (arith, c.requires.low) in
    let few : fan ^ c.args.from.digits ≤ fan ^ MAX_HEIGHT = pow-le-pow_right (omega arith) few_digits in
    omega (arith, low, few, ap (λ all. get_or all i 0) read)

-- all prefixes were told
all_told : (c : After-drop-from-2)
    → (c.loop-prefix.codes.items
    ≡ where_set (drop c.args.from.start c.args.bits.now) (children_of_prefixes (fan_of c.args.width) c.args.from.codes.items))
    × (drop c.loop-prefix.start c.args.bits.now
    ≡ drop (fan_of c.args.width * length c.args.from.codes.items) (drop c.args.from.start c.args.bits.now))
all_told c =
    let prefixes = c.args.from.codes.items in
    let read = c.as_slice-prefix-items.ensures.value in
    let i = c.loop-prefix.prefix-index in
    let from = drop c.args.from.start c.args.bits.now in
    let size = c.fan_of-fan.ensures.value in
    let all : i ≡ length prefixes = omega (arith, c.loop-prefix-test.false, c.loop-prefix.auto.prefix-index-end, ap length read) in (
      c.loop-prefix.invariant.codes
          ∙ ap (λ those. where_set from (children_of_prefixes c.fan_of-fan.result those)) (take_all i prefixes (omega (arith, all)))
          ∙ ap (λ n. where_set from (children_of_prefixes n prefixes)) size,
      c.loop-prefix.invariant.behind ∙ ap (λ n. drop (c.fan_of-fan.result * n) from) all ∙ ap (λ n. drop (n * length prefixes) from) size,
    )

pub returns-clause-level : goal.returns-clause-level
returns-clause-level c =
    let told = all_told (goal.at.returns-clause-level c).After-drop-from-2 in
    let prefixes = c.args.from.codes.items in
    let bits = drop c.args.from.start c.args.bits.now in
    let children = children_of_prefixes (fan_of c.args.width) prefixes in
    let limit : fan_of c.args.width * fan ^ c.args.from.digits ≡ fan ^ (c.args.from.digits + c.args.width) =
    fan-more c.args.width c.args.from.digits in
    let small : All (λ code. code < fan ^ (c.args.from.digits + c.args.width)) (where_set bits children) =
    subst (λ n. All (λ code. code < n) (where_set bits children)) limit
    (All-where_set (λ code. code < fan_of c.args.width * fan ^ c.args.from.digits) bits children
    (small-children (fan_of c.args.width) (fan ^ c.args.from.digits) prefixes c.requires.level.small)) in
    record {
      small = subst (All (λ code. code < fan ^ (c.args.from.digits + c.args.width))) (sym told.0) small;
      few = omega (
        arith,
        ap length told.0,
        length-where_set bits children,
        length-drop c.args.from.start c.args.bits.now,
      );
      within = c.loop-prefix.invariant.within;
    }

pub returns-clause-below : goal.returns-clause-below
unfolding codes_below
returns-clause-below c rest =
    let told = all_told (goal.at.returns-clause-below c).After-drop-from-2 in
    rw (told.0, told.1) refl
