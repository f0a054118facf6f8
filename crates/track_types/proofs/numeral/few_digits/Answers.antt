use Rattle.std.proofs.lemmas.Grind.{common_steps}
use Rattle.std.proofs.Common.{◌≡◌, ◌+◌, ◌-◌, ◌*◌, take, drop, length, arith}
use Rattle.track_types.specs.Numeral.{magnitude_of}
use Rattle.track_types.proofs.Digits.{IsReadTo, IsReadTo-all, IsReadTo-below, IsReadTo-places, next_digits, read_next}
use Rattle.track_types.proofs.numeral.few_digits.Goals.{in_default, in-len8-up+in_ok-value}
use Rattle.track_types.proofs.numeral.few_digits.Goals as goal

pub loop-left-init : goal.loop-left-init
loop-left-init c =
    let digits = c.args.digits.now in
    let all = IsReadTo-all digits c.requires in
    elim c.if-left-lt8.branch [
      | in_default w ↦ rw (w.value-is, w.left-is) all
      | in-len8-up+in_ok-value w ↦
          let eight = w.in_ok-value.ensures.digits in
          let more = read_next digits digits 0 8 w.in-len8-up.len_at_least eight.0 all in
          let plain : 100000000 * 0 + magnitude_of (next_digits digits 8 0) ≡ magnitude_of (next_digits digits 8 0) =
          omega arith in
          rw (w.value-is, w.left-is, eight.1, ← plain) more
    ]

-- with four digits more
four_read : (c : goal.In_ok-value-2) →
    IsReadTo c.args.digits.now (take (length c.loop-left.left.now - 4) (drop 4 c.loop-left.left.now))
    (10000 * c.loop-left.value + c.in_ok-value-2.field-0)
four_read c =
    let digits = c.in_ok-value-2.ensures.digits in
    rw digits.1 (read_next c.args.digits.now c.loop-left.left.now c.loop-left.value 4 c.in-len4-up.len_at_least
    digits.0 c.loop-left.invariant)

pub overflow_mul-value : goal.overflow_mul-value
overflow_mul-value c =
    let places =
    IsReadTo-places c.args.digits.now c.loop-left.left.now c.loop-left.value 4 c.loop-left.invariant
    c.in-len4-up.len_at_least in
    omega (arith, places)

pub overflow_add-value : goal.overflow_add-value
overflow_add-value c =
    let left = take (length c.loop-left.left.now - 4) (drop 4 c.loop-left.left.now) in
    let small =
    IsReadTo-below c.args.digits.now left (10000 * c.loop-left.value + c.in_ok-value-2.field-0) (four_read c) in
    omega (arith, small)

pub loop-left-preserved : goal.loop-left-preserved
loop-left-preserved c = four_read c

pub returns-in_err-value-clause-none : goal.returns-in_err-value-clause-none
returns-in_err-value-clause-none c = grind (arith, common_steps)

pub returns-else-is_empty-2-clause-decimal : goal.returns-else-is_empty-2-clause-decimal
returns-else-is_empty-2-clause-decimal c = grind (arith, common_steps)

pub returns-else-is_empty-2-clause-within : goal.returns-else-is_empty-2-clause-within
returns-else-is_empty-2-clause-within c = grind (arith, common_steps)
