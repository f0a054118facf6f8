use Rattle.std.proofs.Common.{◌≡◌, ◌+◌, ◌*◌, ◌/◌, ◌≤◌}
use Rattle.bit_rank.specs.Bits.{rank_of}
use Rattle.bit_rank.specs.declared.superblock.TheConstants.{SUPERBLOCK, WORDS}
use Rattle.bit_rank.proofs.bits.Bits.rank1.Given as goal

abbrev pub invariant-loop-i : goal.invariant-loop-i
invariant-loop-i g l = record {
  counted : l.count ≡ rank_of l.self (64 * l.i);
  cost : l.steps + l.p / SUPERBLOCK * WORDS ≤ l.fn.steps + 1 + l.i;
}
