use Rattle.std.proofs.Common.{◌≡◌, ◌+◌, ◌*◌, ◌≤◌, ◌++◌, length, take, min, sym, ap, ◌∙◌, append_assoc, append-nil, arith}
use Rattle.std.specs.Int.{w64, to_le_bytes}
use Rattle.index_format.specs.Spelling.{bytes_filled, bytes_for, bit_bytes}
use Rattle.index_format.proofs.BitLemmas.{bytes_filled-none, bytes_filled-word}
use Rattle.index_format.proofs.putting.put_bits.Goals as goal

pub loop-i-init : goal.loop-i-init
loop-i-init c =
    let none : min 0 (bytes_for (length c.args.bits.now)) ≡ 0 = omega arith in
    let out = c.args.out.now.items in
    sym (ap (λ n. out ++ bytes_filled n c.args.bits.now) none
    ∙ ap (λ tail. out ++ tail) (bytes_filled-none c.args.bits.now) ∙ append-nil out)

pub loop-i-preserved : goal.loop-i-preserved
loop-i-preserved c =
    let bits = c.args.bits.now in
    let i = c.loop-i.i in
    let out = c.args.out.now.items in
    let n = c.min.result in
    let now : min (8 * i) (bytes_for (length bits)) ≡ 8 * i =
    omega (arith, c.loop-i-test.true, c.div_ceil-i-end.ensures, c.len.ensures) in
    let few : n ≤ 8 = omega (arith, c.min.ensures) in
    let next : 8 * i + n ≡ min (8 * (i + 1)) (bytes_for (length bits)) =
    omega (
      arith,
      now,
      c.min.ensures,
      c.bits_len-len.ensures.exact,
      c.loop-i-test.true,
      c.div_ceil-i-end.ensures,
      c.len.ensures,
    ) in
    let word = c.to_le_bytes-word.ensures ∙ ap (to_le_bytes w64) c.word.ensures in
    let piece = ap (take n) word in
    let before = c.loop-i.invariant ∙ ap (λ n. out ++ bytes_filled n bits) now in
    c.in_ok-extend_from_slice.ensures.items
    ∙ ap (λ front. front ++ take n c.to_le_bytes-word.result) before
    ∙ append_assoc out (bytes_filled (8 * i) bits) (take n c.to_le_bytes-word.result)
    ∙ ap (λ tail. out ++ (bytes_filled (8 * i) bits ++ tail)) piece
    ∙ ap (λ tail. out ++ tail) (bytes_filled-word bits i n few ∙ ap (λ n. bytes_filled n bits) next)

pub returns : goal.returns
unfolding bit_bytes
returns c =
    let last : min (8 * c.loop-i.i) (bytes_for (length c.args.bits.now)) ≡ bytes_for (length c.args.bits.now) =
    omega (arith, c.loop-i-test.false, c.div_ceil-i-end.ensures, c.bits_len-len.ensures.exact) in
    c.loop-i.invariant ∙ ap (λ n. c.args.out.now.items ++ bytes_filled n c.args.bits.now) last
