use Rattle.std.proofs.Common.{◌≡◌, ℕ, ◌+◌, ◌-◌, ◌*◌, ◌^◌, ◌≤◌, refl, sym, ap, ◌∙◌}
use Rattle.std.proofs.Common.{arith, append-nil, lit<}
use Rattle.std.proofs.Math.Nat.{pow-le-pow_right}
use Rattle.k2_tree.proofs.PrefixLemmas.{fan_pos}
use Rattle.k2_tree.specs.Pruning.{place_among}
use Rattle.k2_tree.specs.TreeBits.{code_limit}
use Rattle.box_tree.specs.Building.{child_task}
use Rattle.box_tree.specs.Held.{mask_digits}
use Rattle.box_tree.specs.Levels.{children, square_start, is_held}
use Rattle.box_tree.specs.declared.task.Task.{Task}
use Rattle.box_tree.proofs.RunLemmas.{square_start-up, place_among-up, square_start-child}
use Rattle.box_tree.proofs.SplitLemmas.{longer-within, small-front, split-next}
use Rattle.box_tree.proofs.building.split.Goals as goal
use Rattle.box_tree.proofs.building.split.Goals.{After-from-in-loop-digit}
use Rattle.box_tree.proofs.PlacesLemmas.{square_start-le}

-- the child's prefix
prefix : (c : After-from-in-loop-digit)
    → c.from.result * c.args.task.prefix + c.from-in-loop-digit.result ≡ 4 ^ c.args.width * c.args.task.prefix
    + c.loop-digit.digit
prefix c = rw (c.from.ensures, c.fan_of-fan.ensures.value, c.from-in-loop-digit.ensures) refl

-- it ends within the square
ends : (c : After-from-in-loop-digit)
    → (c.from.result * c.args.task.prefix + c.from-in-loop-digit.result + 1) * 4 ^ (c.args.task.level - c.args.width)
    ≤ (c.args.task.prefix + 1) * 4 ^ c.args.task.level
ends c =
    rw (prefix c) (longer-within c.args.task.prefix c.args.width c.args.task.level c.loop-digit.digit
    c.requires.level (omega arith))

small : (c : After-from-in-loop-digit)
    → c.from.result * c.args.task.prefix + c.from-in-loop-digit.result + 1 ≤ code_limit
small c =
    let all = ends c in
    small-front (c.from.result * c.args.task.prefix + c.from-in-loop-digit.result + 1)
    (c.args.task.level - c.args.width) code_limit (omega (arith, all, c.requires.small))

pub overflow_mul-first : goal.overflow_mul-first
overflow_mul-first c =
    let some = fan_pos c.args.width in
    let all = longer-within c.args.task.prefix c.args.width c.args.task.level 0 c.requires.level some in
    let few = small-front (4 ^ c.args.width * c.args.task.prefix + 0 + 1)
    (c.args.task.level - c.args.width) code_limit (omega (arith, all, c.requires.small)) in
    let same : c.from.result * c.args.task.prefix ≡ 4 ^ c.args.width * c.args.task.prefix =
    rw (c.from.ensures, c.fan_of-fan.ensures.value) refl in
    omega (arith, few, same)

pub loop-digit-init : goal.loop-digit-init
unfolding is_held
loop-digit-init c =
    let n : ℕ = c.args.task.level - c.args.width in
    let back : c.args.width + n ≡ c.args.task.level = omega (arith, c.requires.level) in
    let flat : 4 ^ c.args.width * c.args.task.prefix + 0 ≡ 4 ^ c.args.width * c.args.task.prefix = omega arith in
    record {
      few = omega arith;
      told = refl;
      pushed = sym (append-nil c.args.tasks.now.items);
      here = c.requires.low ∙ ap (λ m. square_start c.args.codes.now m c.args.task.prefix) (sym back)
          ∙ sym (square_start-child c.args.codes.now n c.args.width c.args.task.prefix)
          ∙ ap (square_start c.args.codes.now n) (sym flat);
    }

pub overflow_add-prefix : goal.overflow_add-prefix
overflow_add-prefix c = let all = small c in omega (arith, all)

pub overflow_add-prefix-in-loop-digit : goal.overflow_add-prefix-in-loop-digit
overflow_add-prefix-in-loop-digit c = let all = small c in omega (arith, all)

pub bound_of-requires-clause-small : goal.bound_of-requires-clause-small
bound_of-requires-clause-small c = let all = ends c in omega (arith, all, c.requires.small)

pub end_of-high-requires-clause-low : goal.end_of-high-requires-clause-low
unfolding square_start
end_of-high-requires-clause-low c =
    let at = (goal.at.end_of-high-requires-clause-low c) in
    let n : ℕ = c.args.task.level - c.args.width in
    let q : ℕ = 4 ^ c.args.width * c.args.task.prefix + c.loop-digit.digit in
    let up : place_among c.args.codes.now (q * 4 ^ n) ≤ place_among c.args.codes.now ((q + 1) * 4 ^ n) =
    square_start-up c.args.codes.now n q in
    let bound : c.bound_of.result ≡ (q + 1) * 4 ^ n = c.bound_of.ensures
    ∙ ap (λ k. (k + 1) * 4 ^ n) (prefix at.After-from-in-loop-digit) in
    rw bound (omega (arith, up, c.loop-digit.invariant.here))

pub end_of-high-requires-clause-high : goal.end_of-high-requires-clause-high
unfolding square_start
end_of-high-requires-clause-high c =
    let at = (goal.at.end_of-high-requires-clause-high c) in
    let up = place_among-up c.args.codes.now c.bound_of.result ((c.args.task.prefix + 1) * 4 ^ c.args.task.level)
    (omega (arith, ends at.After-from-in-loop-digit, c.bound_of.ensures)) in
    omega (arith, up, c.requires.high)

pub end_of-high-requires-clause-within : goal.end_of-high-requires-clause-within
end_of-high-requires-clause-within c =
    let most = square_start-le c.args.codes.now c.args.task.level (c.args.task.prefix + 1) in
    omega (arith, c.requires.high, most)

pub loop-digit-preserved : goal.loop-digit-preserved
unfolding square_start
loop-digit-preserved c =
    let l = c.loop-digit in
    let at = (goal.at.loop-digit-preserved c) in
    let n : ℕ = c.args.task.level - c.args.width in
    let q : ℕ = 4 ^ c.args.width * c.args.task.prefix + l.digit in
    let raw : ℕ = c.from.result * c.args.task.prefix + c.from-in-loop-digit.result in
    let same : raw ≡ q = prefix at.After-from-in-loop-digit in
    let next : c.end_of-high.result ≡ square_start c.args.codes.now n (q + 1) =
    c.end_of-high.ensures ∙ ap (place_among c.args.codes.now) (c.bound_of.ensures ∙ ap (λ k. (k + 1) * 4 ^ n) same) in
    let child : Task = record {
      below = c.args.task.below - 1;
      level = n;
      prefix = raw;
      low = l.low;
      high =
          c.end_of-high.result;
    } in
    let made : ℕ → ℕ → ℕ → Task =
    λ k low high. record { below = c.args.task.below - 1; level = n; prefix = k; low = low; high = high } in
    let its : child ≡ child_task c.args.codes.now c.args.width c.args.task q =
    ap (λ k. made k l.low c.end_of-high.result) same ∙ ap (λ a. made q a c.end_of-high.result) l.invariant.here
    ∙ ap (made q (square_start c.args.codes.now n q)) next in
    split-next c.args.codes.now c.args.width c.args.task l.digit l.low c.end_of-high.result l.mask
    c.args.tasks.now.items l.tasks.items
    l.invariant next child c.in_ok-mask.mask c.push_child.new.tasks.items its refl refl c.in_ok-mask.ensures.ok

pub returns : goal.returns
unfolding mask_digits children
returns c =
    let is = c.loop-digit.invariant in
    let all : c.loop-digit.digit ≡ 4 ^ c.args.width = omega (arith, c.fan_of-fan.ensures.value) in
    let low : c.loop-digit.digit ≤ 16 = omega (arith, c.fan_of-fan.ensures.within) in
    let most : 2 ^ c.loop-digit.digit ≤ 2 ^ 16 = pow-le-pow_right (lit< tt) low in
    record {
      ok = record {
        few = omega (arith, is.few, most);
        told = rw all at is.told;
        pushed = rw all at is.pushed;
      };
    }
