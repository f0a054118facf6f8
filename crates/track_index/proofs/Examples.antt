-- The definitions, run on the parts of small charts, and on damaged ones.
use Rattle.std.proofs.Common.{◌≡◌, ℕ, zero, suc, Bool, true, false, pos, neg_ℤ, List, [], ◌∷◌, map, Option, None, Some, refl}
use Rattle.bit_rank.specs.Bits.{rank_of}
use Rattle.k2_tree.specs.Flaws.{group_flaw, level_flaw, tree_flaw}
use Rattle.k2_tree.specs.Morton.{cell_of, morton_column, morton_row}
use Rattle.k2_tree.specs.Squares.{squares_above, squares_from}
use Rattle.k2_tree.specs.Tree.{codes_below, codes_in, where_set}
use Rattle.k2_tree.specs.TreeBits.{children_of_prefixes, prefixes}
use Rattle.k2_tree.specs.Widths.{digits_in, levels_with}
use Rattle.list_laws.specs.First.{first_given}
use Rattle.list_laws.specs.Grown.{table_of_rules}
use Rattle.packed_bits.specs.Bits.{ones_of}
use Rattle.spiral_code.specs.Spiral.{move_of, ring_moves, ring_of_code, side_moves}
use Rattle.track_types.specs.declared.flaw.Flaw.{Flaw}
use Rattle.track_types.specs.declared.flaw.Kind.TheVariants as kind
use Rattle.track_types.specs.declared.flaw.Section.TheVariants as section
use Rattle.track_types.specs.declared.frame.Frame.{Frame}
use Rattle.track_types.specs.declared.parts.Parts.{Parts}
use Rattle.track_types.specs.declared.period_parts.PeriodParts.{PeriodParts}
use Rattle.rule_store.specs.Boxes.{bounding_box_of, box_round}
use Rattle.rule_store.specs.Cells.{cells_along, displacement_of}
use Rattle.rule_store.specs.Entry.{duration_of, entry_of}
use Rattle.rule_store.specs.Expansion.{depth_in, expansion_of, values_of}
use Rattle.rule_store.specs.Flaws.{code_flaw, is_rule_flawed, rule_flaw, symbol_flaw}
use Rattle.rule_store.specs.Nodes.{block_budget, nodes_in, opened_count, parsed}
use Rattle.snapshots.specs.View.{all_blocks}
use Rattle.track_types.specs.Flaws.{flaw_in}
use Rattle.snapshots.specs.IndexCost.{blocks_reads, open_cost, path_cost, position_cost}
use Rattle.log_bounds.specs.Bounds.{cell_after, duration_of_log}
use Rattle.snapshots.specs.JoinFlaws.{blocks_flaw, is_off_grid, log_flaw, logs_flaw, off_grid_at}
use Rattle.snapshots.specs.Parts.{start_in}
use Rattle.track_index.specs.Path.{cost_until}
use Rattle.track_index.specs.CheckFlaws.{check_flaw, grammar_flaw, lengths_flaw, snapshots_flaw}

-- a header of three instants, whose grid has side 4 and begins at (10, 10)
abbrev pub frame : Frame
frame = record {
  version = 1;
  first = pos 0;
  span = 3;
  period = 4;
  height = 2;
  base = record { x = pos 10; y = pos 10 };
  cell = 1;
  tick = 1;
}

-- one object's block at (10, 10), with so many symbols
abbrev pub block : ℕ → List Bool → ℕ → PeriodParts
block offset tree len = record {
  present = true ∷ [];
  offsets = offset ∷ [];
  tree = tree;
  lasts = true ∷ [];
  perm = 0 ∷ [];
  lengths = len ∷ [];
}

-- the bits of the cell at the least corner of a grid, level by level
abbrev pub corner : ℕ → List Bool
corner zero = []
corner (suc levels) = true ∷ false ∷ false ∷ false ∷ corner levels

abbrev pub with : Frame → List ℕ → List (ℕ × ℕ) → List PeriodParts → List ℕ → Parts
with frame alphabet rules periods symbols = record {
  frame = frame;
  objects = 7 ∷ [];
  alphabet = alphabet;
  rules = rules;
  periods = periods;
  symbols = symbols;
}

-- one object that moves to the right, and then up to the right
abbrev pub path : Parts
path = with frame (2 ∷ 3 ∷ []) [] (block 0 (corner 2) 2 ∷ []) (0 ∷ 1 ∷ [])

-- two periods of two instants
abbrev pub halves : Frame
halves = record {
  version = 1;
  first = pos 0;
  span = 4;
  period = 2;
  height = 2;
  base = record { x = pos 10; y = pos 10 };
  cell = 1;
  tick = 1;
}

-- one object that moves to the right in each of them
abbrev twice : Parts
twice = with halves (2 ∷ []) [] (block 0 (corner 2) 1 ∷ block 0 (corner 2) 1 ∷ []) (0 ∷ 0 ∷ [])

-- one object that is absent at the second instant, in a grid of side 2 that begins at (-1, 5)
abbrev pub absent : Parts
absent = record {
  frame = record {
    version = 1;
    first = pos 0;
    span = 3;
    period = 4;
    height = 1;
    base = record { x = neg_ℤ (pos 1); y = pos 5 };
    cell = 1;
    tick = 1;
  };
  objects = 9 ∷ [];
  alphabet = 0 ∷ 4 ∷ [];
  rules = [];
  periods = block 0 (corner 1) 2 ∷ [];
  symbols = 0 ∷ 1 ∷ [];
}

-- one object that moves to the right four times, by one rule that stands twice
abbrev pub repeated : Parts
repeated = record {
  frame = record {
    version = 1;
    first = pos 0;
    span = 5;
    period = 8;
    height = 3;
    base = record { x = pos 0; y = pos 0 };
    cell = 1;
    tick = 1;
  };
  objects = 1 ∷ [];
  alphabet = 2 ∷ [];
  rules = (0, 0) ∷ [];
  periods = block 0 (corner 3) 2 ∷ [];
  symbols = 1 ∷ 1 ∷ [];
}

-- parts, sound and damaged, and the first flaw of each
abbrev told : List (Parts × Option Flaw)
told =
    -- parts of a path have no flaw
    (path, None) ∷
    -- a long movement is flawed: a code of ring 5 in a grid of side 4
    (
      with frame (2 ∷ 100 ∷ []) [] (block 0 (corner 2) 2 ∷ []) (0 ∷ 1 ∷ []),
      Some (flaw_in 0 section.Alphabet kind.Code 1),
    ) ∷
    -- a rule of itself is flawed
    (
      with frame (2 ∷ 3 ∷ []) ((2, 0) ∷ []) (block 0 (corner 2) 2 ∷ []) (0 ∷ 1 ∷ []),
      Some (flaw_in 0 section.Rules kind.Rule 0),
    ) ∷
    -- an unknown symbol is flawed
    (
      with frame (2 ∷ 3 ∷ []) [] (block 0 (corner 2) 2 ∷ []) (0 ∷ 2 ∷ []),
      Some (flaw_in 0 section.Log kind.Symbol 1),
    ) ∷
    -- a length too small is flawed: the anchor is late too
    (
      with frame (2 ∷ 3 ∷ []) [] (block 4 (corner 2) 1 ∷ []) (0 ∷ 1 ∷ []),
      Some (flaw_in 0 section.Lengths kind.Total 0),
    ) ∷
    -- a late anchor is flawed: the third instant is the last
    (
      with frame (2 ∷ 3 ∷ []) [] (block 3 (corner 2) 2 ∷ []) (0 ∷ 1 ∷ []),
      Some (flaw_in 0 section.Offsets kind.Offset 0),
    ) ∷
    -- leaving the grid comes before the duration: the fourth of these movements does, and only two would last to the
    -- end
    (
      with frame (2 ∷ 3 ∷ []) [] (block 0 (corner 2) 4 ∷ []) (1 ∷ 1 ∷ 1 ∷ 1 ∷ []),
      Some (flaw_in 0 section.Log kind.OffGrid 3),
    ) ∷
    -- a short log is flawed
    (
      with frame (2 ∷ 3 ∷ []) [] (block 0 (corner 2) 1 ∷ []) (0 ∷ []),
      Some (flaw_in 0 section.Lengths kind.Duration 0),
    ) ∷
    -- earlier periods come first: the second period's anchor is late, and the first one's bits tell no tree
    (
      with halves (2 ∷ 3 ∷ []) [] (block 0 (corner 1) 1 ∷ block 2 (corner 2) 1 ∷ []) (0 ∷ 1 ∷ []),
      Some (flaw_in 0 section.Tree kind.Tree 4),
    ) ∷
    -- periods come before logs: the first period's log is too long, and the second one's anchor is late
    (
      with halves (2 ∷ 3 ∷ []) [] (block 0 (corner 2) 2 ∷ block 2 (corner 2) 0 ∷ []) (0 ∷ 1 ∷ []),
      Some (flaw_in 1 section.Offsets kind.Offset 0),
    ) ∷
    -- the total is told in the last period: one symbol is missing
    (
      with halves (2 ∷ 3 ∷ []) [] (block 0 (corner 2) 1 ∷ block 0 (corner 2) 0 ∷ []) (0 ∷ 1 ∷ []),
      Some (flaw_in 1 section.Lengths kind.Total 0),
    ) ∷
    -- an absence has no flaw
    (absent, None) ∷
    -- a rule has no flaw
    (repeated, None) ∷
    []

each_is_told : map (λ row. check_flaw row.0) told ≡ map (λ row. row.1) told
unfolding check_flaw grammar_flaw lengths_flaw snapshots_flaw first_given logs_flaw blocks_flaw all_blocks log_flaw
    off_grid_at is_off_grid cell_after duration_of_log start_in code_flaw rule_flaw symbol_flaw is_rule_flawed entry_of values_of
    expansion_of table_of_rules displacement_of bounding_box_of box_round cells_along duration_of move_of ring_moves ring_of_code
    side_moves morton_row morton_column cell_of where_set codes_below codes_in levels_with digits_in children_of_prefixes rank_of ones_of group_flaw level_flaw tree_flaw
each_is_told = refl

-- what opening reads
opening_reads : map open_cost (path ∷ absent ∷ repeated ∷ []) ≡ 201 ∷ 149 ∷ 253 ∷ []
unfolding open_cost blocks_reads all_blocks squares_above squares_from prefixes where_set codes_below codes_in levels_with digits_in children_of_prefixes
    morton_row morton_column cell_of rank_of ones_of start_in
opening_reads = refl

-- what positions and paths read, at most
abbrev reads : List (ℕ × ℕ)
reads =
    -- a position
    (position_cost path 7 (pos 2), 48) ∷
    -- a position of no object reads nothing
    (position_cost path 8 (pos 2), 0) ∷
    -- a position after the last instant reads nothing
    (position_cost path 7 (pos 3), 0) ∷
    -- a path
    (path_cost path 7 (pos 0) (pos 9), 48) ∷
    -- a path with an absence
    (path_cost absent 9 (pos 0) (pos 2), 48) ∷
    -- a position by a rule
    (position_cost repeated 1 (pos 3), 49) ∷
    -- a path of which one rule meets the window
    (path_cost repeated 1 (pos 2) (pos 3), 50) ∷
    -- the same rules up to an instant, of which none, one and both begin by then
    (cost_until repeated 0 (pos 0) (pos 0) 0 1, 48) ∷
    (cost_until repeated 0 (pos 0) (pos 2) 0 1, 49) ∷
    (cost_until repeated 0 (pos 0) (pos 3) 0 1, 50) ∷
    -- two periods up to the last instant of the first, and up to the first of the second
    (cost_until twice 0 (pos 0) (pos 1) 0 2, 47) ∷
    (cost_until twice 0 (pos 0) (pos 2) 0 2, 94) ∷
    []

each_reads_so : map (λ row. row.0) reads ≡ map (λ row. row.1) reads
unfolding position_cost path_cost cost_until depth_in table_of_rules all_blocks where_set codes_below codes_in levels_with digits_in children_of_prefixes morton_row morton_column cell_of
    rank_of ones_of start_in block_budget nodes_in opened_count parsed values_of expansion_of bounding_box_of box_round
    cells_along move_of ring_moves ring_of_code side_moves
each_reads_so = refl
