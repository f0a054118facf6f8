use Rattle.std.proofs.Common.{ℕ, ◌/◌, ◌^◌, refl}
use Rattle.std.specs.Int.Bits.{bit_and, bit_or}
use Rattle.k2_tree.specs.Morton.{morton_column}
use Rattle.k2_tree.proofs.SpreadLemmas.{agree_below, all_below}
use Rattle.k2_tree.proofs.morton_code.part_column.Goals as goal

-- the bits close up by so much, as the code does it
abbrev closed : ℕ → ℕ → ℕ → ℕ
closed by mask number = bit_and (bit_or number (number / 2 ^ by)) mask

pub returns-clause-value : goal.returns-clause-value
unfolding morton_column all_below
returns-clause-value c =
    agree_below 65536 (λ part. closed 4 255 (closed 2 3855 (closed 1 13107 (bit_and part 21845)))) (morton_column 8) refl
    c.args.part c.requires
