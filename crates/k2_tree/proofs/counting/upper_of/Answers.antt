use Rattle.std.proofs.Common.{◌≡◌, ◌+◌, ◌-◌, take, drop, ap, ◌∙◌, arith}
use Rattle.packed_bits.specs.Bits.{ones_of}
use Rattle.k2_tree.proofs.CountingLemmas.{counted_ends, counted_goes_on, counted_starts}
use Rattle.k2_tree.proofs.counting.upper_of.Goals as goal

pub loop-init : goal.loop-init
loop-init c = counted_starts c.args.wide c.args.bits.now

pub loop-preserved : goal.loop-preserved
loop-preserved c =
    let bits = c.args.bits.now in
    let least = c.min-size.ensures in
    let most = c.saturating_mul.ensures in
    let long = c.len-in-loop.ensures in
    let size : c.loop.start + c.min-size.result - c.loop.start ≡ c.min-size.result = omega arith in
    counted_goes_on c.loop.invariant c.loop-test.true (omega (arith, least, long))
    (λ whole. omega (arith, least, most, long, c.requires)) (λ short. omega (arith, least, most, long, c.requires))
    (c.ones_within-groups.ensures ∙ ap (λ n. ones_of (take n (drop c.loop.start bits))) size)

pub returns-clause-some : goal.returns-clause-some
returns-clause-some c = λ some. counted_ends c.loop.invariant (omega arith)
