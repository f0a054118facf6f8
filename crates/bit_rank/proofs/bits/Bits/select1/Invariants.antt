use Rattle.std.proofs.Common.{◌≡◌, ◌+◌, ◌*◌, ◌<◌, ◌≤◌, ◌-◌, length}
use Rattle.bit_rank.specs.Bits.{rank_of}
use Rattle.packed_bits.specs.Bits.{window_of}
use Rattle.bit_rank.specs.declared.superblock.TheConstants.{WORDS}
use Rattle.bit_rank.proofs.bits.Bits.select1.Given as goal

abbrev pub invariant-loop-word : goal.invariant-loop-word
invariant-loop-word g l = record {
  current : l.word ≡ window_of l.self (64 * l.i) 64;
  within : 64 * l.i < length l.self;
  from_one : 1 ≤ l.rest;
  rank : rank_of l.self (64 * l.i) + l.rest ≡ l.j;
  cost : l.steps + WORDS * l.superblock ≤ l.fn.steps + 27 + l.i;
}

abbrev pub decreases-loop-word : goal.decreases-loop-word
decreases-loop-word g l = length l.self - l.i
