use Rattle.std.proofs.Common.{ℕ, ◌+◌, ◌*◌, ◌^◌, ◌<◌, ◌≤◌, ◌-◌, length}
use Rattle.bit_rank.specs.Bits.{rank_of}
use Rattle.bit_rank.specs.declared.superblock.TheConstants.{SUPERBLOCK}
use Rattle.bit_rank.proofs.bits.Bits.superblock_of.Given as goal

abbrev pub invariant-loop-high : goal.invariant-loop-high
invariant-loop-high g l = record {
  apart : l.low < l.high;
  within : SUPERBLOCK * l.high < length l.self + SUPERBLOCK;
  before : rank_of l.self (SUPERBLOCK * l.low) < l.j;
  reached : l.j ≤ rank_of l.self (SUPERBLOCK * l.high);
  halvings : ℕ;
  near : l.high ≤ l.low + 2 ^ halvings;
  cost : l.steps + halvings ≤ l.fn.steps + 25;
}

abbrev pub decreases-loop-high : goal.decreases-loop-high
decreases-loop-high g l = l.high - l.low
