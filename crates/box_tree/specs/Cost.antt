-- How many words each question of a tree reads at most.
use Rattle.std.specs.Prelude.{ℕ, ◌+◌, ◌*◌}

-- a bucket has at most so many places, unless its square is a cell; a square has at most so many children
abbrev pub bucket_limit : ℕ
bucket_limit = 16

-- the reads of a box, of a node or of a place
abbrev pub box_reads : ℕ
box_reads = 2

-- the reads of what a node is
abbrev pub link_reads : ℕ
link_reads = 1

-- the reads of a place's cell
abbrev pub cell_reads : ℕ
cell_reads = 1

-- the reads of all of a place: its box, and its cell
abbrev pub place_reads : ℕ
place_reads = box_reads + cell_reads

-- the reads of all of a node: its box, and what it is
abbrev pub node_reads : ℕ
node_reads = box_reads + link_reads

-- the reads of the places of a bucket, or of the nodes of a branch's children
abbrev pub opened_reads : ℕ
opened_reads = bucket_limit * place_reads

-- the reads of a square with a node of its own that is opened
abbrev pub opened_square_reads : ℕ
opened_square_reads = opened_reads + node_reads
