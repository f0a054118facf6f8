use Rattle.std.proofs.Common.{◌≡◌, ◌/◌, ◌+◌, ◌-◌, ◌*◌, ◌^◌, refl, arith}
use Rattle.std.proofs.lemmas.Grind.{common_steps}
use Rattle.k2_tree.specs.Morton.{interleaved}
use Rattle.k2_tree.proofs.MortonLemmas.{interleaved-lt}
use Rattle.k2_tree.proofs.SpreadLemmas.{interleaved-end, interleaved-few, interleaved-half, interleaved-parts}
use Rattle.k2_tree.proofs.morton_code.interleave.Goals as goal

pub loop-half-init : goal.loop-half-init
unfolding interleaved
loop-half-init c =
    let count : c.div_ceil-half.result ≡ (c.args.height + 15) / 16 = grind (arith, common_steps) in
    let none : 16 * ((c.args.height + 15) / 16 - c.div_ceil-half.result) ≡ 0 = omega (arith, count) in
    rw none refl

pub overflow_mul-code : goal.overflow_mul-code
overflow_mul-code c =
    let l = c.loop-half in
    omega (
      arith,
      interleaved-few c.args.height l.half (c.args.row / 2 ^ (16 * l.half)) (c.args.column / 2 ^ (16 * l.half)) l.code
          c.requires.low (omega arith) l.invariant,
    )

pub overflow_add-code : goal.overflow_add-code
overflow_add-code c =
    let l = c.loop-half in
    let row = c.args.row / 2 ^ (16 * (l.half - 1)) in
    let column = c.args.column / 2 ^ (16 * (l.half - 1)) in
    omega (
      arith,
      interleaved-few c.args.height l.half (c.args.row / 2 ^ (16 * l.half)) (c.args.column / 2 ^ (16 * l.half)) l.code
          c.requires.low (omega arith) l.invariant,
      c.spread.ensures.value,
      c.spread-in-loop-half.ensures.value,
      interleaved-parts 16 row column,
      interleaved-lt 16 row column,
    )

pub loop-half-preserved : goal.loop-half-preserved
loop-half-preserved c =
    let l = c.loop-half in
    let count : c.div_ceil-half.result ≡ (c.args.height + 15) / 16 = grind (arith, common_steps) in
    rw (c.spread.ensures.value, c.spread-in-loop-half.ensures.value) (interleaved-half ((c.args.height + 15) / 16) l.half c.args.row
    c.args.column l.code (omega arith) (omega (arith, count)) l.invariant)

pub returns : goal.returns
returns c =
    let l = c.loop-half in
    let end : l.half ≡ 0 = omega arith in
    interleaved-end c.args.height c.args.row c.args.column l.code c.requires.row c.requires.column (rw end at l.invariant)
