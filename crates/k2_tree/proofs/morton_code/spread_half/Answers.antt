use Rattle.std.proofs.Common.{ℕ, ◌*◌, ◌%◌, ◌^◌, refl}
use Rattle.std.specs.Int.Bits.{bit_and, bit_or}
use Rattle.k2_tree.specs.Morton.{interleaved}
use Rattle.k2_tree.proofs.SpreadLemmas.{all_below, agree_below}
use Rattle.k2_tree.proofs.morton_code.spread_half.Goals as goal

-- the bits go apart by so much, as the code does it
abbrev apart : ℕ → ℕ → ℕ → ℕ
apart by mask number = bit_and (bit_or number (number * by % 2 ^ 64)) mask

pub returns : goal.returns
unfolding interleaved all_below
returns c =
    agree_below 65536
    (λ half. apart 2 1431655765 (apart 4 858993459 (apart 16 252645135 (apart 256 16711935 half)))) (interleaved 16 0) refl
    c.args.half c.requires
