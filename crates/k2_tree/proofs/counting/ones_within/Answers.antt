use Rattle.std.proofs.Common.{◌≡◌, ◌+◌, ◌-◌, ◌*◌, ◌/◌, ◌%◌, ◌^◌, take, drop, arith, sym, ap, ◌∙◌, length-drop, length-take}
use Rattle.std.specs.Int.RustNames.{count_ones}
use Rattle.std.proofs.lemmas.Nat.{one_shl}
use Rattle.packed_bits.specs.Bits.{number_of, ones_of, window_of}
use Rattle.packed_bits.proofs.NumberLemmas.{count_ones-number_of, window_of-inside}
use Rattle.packed_bits.proofs.OnesLemmas.{ones_of-nil, ones_of-le-length}
use Rattle.packed_bits.proofs.WordLemmas.{place_in_word}
use Rattle.k2_tree.proofs.CountingLemmas.{ones_of-part}
use Rattle.k2_tree.proofs.counting.ones_within.Goals as goal
use Rattle.k2_tree.proofs.counting.ones_within.Goals.{After-word}

-- the ones of the part
part_of : (c : After-word) → count_ones (c.word.result / 2 ^ (c.loop-place.place % 64)
    % (1 * 2 ^ c.min-size.result % 18446744073709551616))
    ≡ ones_of (take c.min-size.result (drop c.loop-place.place c.args.bits.now))
unfolding window_of
part_of c =
    let bits = c.args.bits.now in
    let place = c.loop-place.place in
    let size = c.min-size.result in
    let short = c.min-size.ensures in
    let inside = window_of-inside bits (64 * (place / 64)) (place % 64) size 64 (omega (arith, short)) in
    let here = ap (λ p. window_of bits p size) (place_in_word place) in
    let part : c.word.result / 2 ^ (place % 64) % 2 ^ size ≡ number_of (take size (drop place bits)) =
    ap (λ word. word / 2 ^ (place % 64) % 2 ^ size) c.word.ensures ∙ sym inside ∙ here in
    rw (one_shl size 64 (omega (arith, short))) (ap count_ones part ∙ count_ones-number_of (take size (drop place bits)))

pub loop-place-init : goal.loop-place-init
loop-place-init c =
    let none : c.args.from - c.args.from ≡ 0 = omega arith in
    record {
      after = omega arith;
      within = c.requires.ordered;
      counted = sym (ap (λ n. ones_of (take n (drop c.args.from c.args.bits.now))) none ∙ ones_of-nil);
    }

pub overflow_add-ones : goal.overflow_add-ones
overflow_add-ones c =
    let seen = drop c.args.from c.args.bits.now in
    let place = c.loop-place.place in
    let size = c.min-size.result in
    let part = part_of (goal.at.overflow_add-ones c).After-word in
    let more = ones_of-part c.args.bits.now c.args.from place size c.loop-place.invariant.after in
    let n = place + size - c.args.from in
    omega (
      arith,
      part,
      more,
      c.loop-place.invariant.counted,
      c.requires.few,
      ones_of-le-length (take n seen),
      length-take n seen,
      length-drop c.args.from c.args.bits.now,
    )

pub loop-place-preserved : goal.loop-place-preserved
loop-place-preserved c =
    let place = c.loop-place.place in
    let size = c.min-size.result in
    let part = part_of (goal.at.loop-place-preserved c).After-word in
    let more = ones_of-part c.args.bits.now c.args.from place size c.loop-place.invariant.after in
    record {
      after = omega (arith, c.loop-place.invariant.after);
      within = omega (arith, c.min-size.ensures, c.loop-place.invariant.within);
      counted = omega (arith, part, more, c.loop-place.invariant.counted);
    }
