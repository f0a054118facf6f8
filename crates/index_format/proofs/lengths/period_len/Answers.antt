use Rattle.std.proofs.Common.{◌+◌, ◌*◌, ◌^◌, ◌≤◌, length, ap, arith}
use Rattle.packed_bits.proofs.OnesLemmas.{ones_of-le-length}
use Rattle.index_format.proofs.LengthLaws.{length-period_bytes}
use Rattle.index_format.proofs.lengths.period_len.Goals as goal

-- three lists have at most as many numbers as there are presence bits
few : (c : goal.After-as_slice-lengths)
    → length c.as_slice-offsets.result.now + 1 + length c.as_slice-perm.result.now
    + length c.as_slice-lengths.result.now ≤ 3 * 2 ^ 32
few c = omega (
  arith,
  ones_of-le-length c.args.period.now.present,
  c.bits_len.ensures.few,
  c.requires.offsets,
  c.requires.perm,
  c.requires.lengths,
  ap length c.as_slice-offsets.ensures,
  ap length c.as_slice-perm.ensures,
  ap length c.as_slice-lengths.ensures,
)

pub overflow_mul-result : goal.overflow_mul-result
overflow_mul-result c = omega (arith, few c)

pub overflow_add-result-4 : goal.overflow_add-result-4
overflow_add-result-4 c =
    omega (arith, few c, c.bits_len.ensures.within, c.bits_len-2.ensures.within, c.bits_len-3.ensures.within)

pub returns-clause-exact : goal.returns-clause-exact
returns-clause-exact c = omega (
  arith,
  length-period_bytes c.args.period.now,
  c.bits_len.ensures.exact,
  c.bits_len-2.ensures.exact,
  c.bits_len-3.ensures.exact,
  ap length c.as_slice-offsets.ensures,
  ap length c.as_slice-perm.ensures,
  ap length c.as_slice-lengths.ensures,
)

pub returns-clause-within : goal.returns-clause-within
returns-clause-within c =
    omega (arith, few c, c.bits_len.ensures.within, c.bits_len-2.ensures.within, c.bits_len-3.ensures.within)
