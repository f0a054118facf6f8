-- How many reads each query of a snapshot makes at most.
use Rattle.std.specs.Prelude.{ℕ, ◌+◌}
use Rattle.bit_rank.specs.Cost.{get_reads, rank_reads, select_reads}
use Rattle.object_perm.specs.Cost.{at_reads, inverse_reads}
use Rattle.k2_tree.specs.Cost.{child_reads, climb_reads}

-- the place of an object's block in leaf order: whether the object is present, which it is among the present ones, and
-- the place
abbrev pub place_reads : ℕ
place_reads = get_reads + rank_reads + inverse_reads

-- `Snapshot::find`: this place, its leaf, and the climb to the leaf's cell
abbrev pub find_reads : ℕ → ℕ
find_reads height = (place_reads + rank_reads) + climb_reads height

-- a block of a leaf: its object among the present ones, the object itself, and whether it is the leaf's last
abbrev pub block_reads : ℕ
block_reads = at_reads + select_reads + get_reads

-- `members`: where the leaf's first block is
abbrev pub first_reads : ℕ
first_reads = select_reads

-- `objects_in`: a square that passes the test, which is opened or is a leaf whose first block is looked for
abbrev pub square_reads : ℕ
square_reads = child_reads + first_reads

-- a block by its record: its cell, where it begins, and its log
abbrev pub record_reads : ℕ
record_reads = 3

-- `Stores::find`: the place of the block in leaf order, and its record
abbrev pub lookup_reads : ℕ
lookup_reads = place_reads + record_reads
