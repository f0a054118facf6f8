-- How many words and directory entries each query of a tree reads at most.
use Rattle.std.specs.Prelude.{ℕ, ◌+◌, ◌*◌}
use Rattle.bit_rank.specs.Cost.{rank_reads, select_reads, window_reads}

-- `child` and `children`, and what a walk reads for a square that it opens: one window and one rank
abbrev pub child_reads : ℕ
child_reads = window_reads + rank_reads

-- `leaf_cell`: one select for each level; there are at most as many levels as digits
abbrev pub climb_reads : ℕ → ℕ
climb_reads height = select_reads * height

-- `leaf_of`: one child for each level; there are at most as many levels as digits
abbrev pub descent_reads : ℕ → ℕ
descent_reads height = child_reads * height
