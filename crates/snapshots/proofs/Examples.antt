-- The definitions, run on periods of two objects.
use Rattle.std.proofs.Common.{◌≡◌, ℕ, Bool, true, false, pos, List, [], ◌∷◌, length, map, take, refl, None, Some}
use Rattle.track_types.specs.Flaws.{flaw_in}
use Rattle.track_types.specs.declared.flaw.Section.TheVariants.{Offsets, Tree, Lasts, Perm}
use Rattle.track_types.specs.declared.flaw.Kind.TheVariants.{Offset, Cells, CellOrder}
use Rattle.track_types.specs.declared.flaw.Kind.TheVariants as kind
use Rattle.k2_tree.specs.Morton.{morton_row, morton_column, cell_of}
use Rattle.k2_tree.specs.Tree.{where_set, codes_below, codes_in}
use Rattle.k2_tree.specs.TreeBits.{children_of_prefixes}
use Rattle.k2_tree.specs.Widths.{levels_with}
use Rattle.k2_tree.specs.Flaws.{group_flaw, level_flaw, tree_flaw}
use Rattle.packed_bits.specs.Bits.{ones_of}
use Rattle.bit_rank.specs.Bits.{rank_of, select_of}
use Rattle.spiral_code.specs.Spiral.{move_of}
use Rattle.list_laws.specs.Grown.{table_of_rules}
use Rattle.track_types.specs.declared.frame.Frame.{Frame}
use Rattle.track_types.specs.declared.parts.Parts.{Parts}
use Rattle.track_types.specs.declared.period_parts.PeriodParts.{PeriodParts}
use Rattle.rule_store.specs.Boxes.{bounding_box_of, box_round}
use Rattle.rule_store.specs.Cells.{cell_with, cells_along, displacement_of}
use Rattle.rule_store.specs.Entry.{duration_of, entry_of}
use Rattle.rule_store.specs.Expansion.{expansion_of, values_of}
use Rattle.rule_store.specs.Log.{block_stops, log_values, stop_at, stops_after, stops_from}
use Rattle.log_bounds.specs.Bounds.{cell_after, duration_of_log}
use Rattle.snapshots.specs.Parts.{numbers_in, start_in, stops_in}
use Rattle.log_bounds.specs.Bounds.{log_speed}
use Rattle.snapshots.specs.Speed.{blocks_speed, speed_of}
use Rattle.snapshots.specs.View.{SnapshotView, all_blocks, block_at, block_of, blocks_in}
use Rattle.snapshots.specs.Flaws.{bits_flaw, flaw_of}
use Rattle.snapshots.specs.declared.anchored.Anchored.{Anchored}

abbrev I : Bool
I = true

abbrev O : Bool
O = false

-- two objects, and anchors in cells of a grid of side 4
abbrev with : List Bool → List ℕ → List Bool → List Bool → List ℕ → SnapshotView
with present offsets tree lasts perm = record {
  frame = record {
    version = 1;
    first = pos 0;
    span = 4;
    period = 4;
    height = 2;
    base = record { x = pos 0; y = pos 0 };
    cell = 1;
    tick = 1;
  };
  number = 0;
  objects = 2;
  start = 0;
  parts = record {
    present = present;
    offsets = offsets;
    tree = tree;
    lasts = lasts;
    perm = perm;
    lengths = take (length perm) (3 ∷ 0 ∷ []);
  };
}

-- the bits of (0, 0) and (1, 1)
abbrev two_cells : List Bool
two_cells = I ∷ O ∷ O ∷ O ∷ I ∷ O ∷ O ∷ I ∷ []

-- the bits of (0, 0) alone
abbrev one_cell : List Bool
one_cell = I ∷ O ∷ O ∷ O ∷ I ∷ O ∷ O ∷ O ∷ []

-- two objects at (0, 0) and (1, 1), the second one from the fourth instant on
abbrev two : List ℕ → List Bool → SnapshotView
two offsets lasts = with (I ∷ I ∷ []) offsets two_cells lasts (0 ∷ 1 ∷ [])

-- both at (0, 0)
abbrev both : List ℕ → SnapshotView
both perm = with (I ∷ I ∷ []) (0 ∷ 3 ∷ []) one_cell (O ∷ I ∷ []) perm

-- the block of an object at (0, 0)
abbrev block : ℕ → ℕ → ℕ → ℕ → Anchored
block index offset from len =
    record { index = index; offset = offset; cell = record { x = pos 0; y = pos 0 }; from = from; len = len }

the_second_object_has_its_block : block_of (two (0 ∷ 3 ∷ []) (I ∷ I ∷ [])) 1
    ≡ Some (record { index = 1; offset = 3; cell = record { x = pos 1; y = pos 1 }; from = 3; len = 0 })
unfolding morton_row morton_column cell_of where_set codes_below codes_in children_of_prefixes levels_with rank_of select_of ones_of
the_second_object_has_its_block = refl

the_parts_have_no_flaw : flaw_of (two (0 ∷ 3 ∷ []) (I ∷ I ∷ [])) ≡ None
unfolding morton_row morton_column cell_of where_set codes_below codes_in children_of_prefixes rank_of ones_of levels_with group_flaw level_flaw tree_flaw
the_parts_have_no_flaw = refl

a_late_anchor_is_flawed : flaw_of (two (0 ∷ 4 ∷ []) (I ∷ I ∷ []))
    ≡ Some (flaw_in 0 Offsets Offset 1)
unfolding morton_row morton_column cell_of where_set codes_below codes_in children_of_prefixes rank_of ones_of levels_with group_flaw level_flaw tree_flaw
a_late_anchor_is_flawed = refl

a_last_object_that_is_none_is_flawed : flaw_of (two (0 ∷ 3 ∷ []) (I ∷ O ∷ []))
    ≡ Some (flaw_in 0 Lasts Cells 2)
unfolding morton_row morton_column cell_of where_set codes_below codes_in children_of_prefixes rank_of ones_of levels_with group_flaw level_flaw tree_flaw
a_last_object_that_is_none_is_flawed = refl

two_objects_in_one_cell_come_by_object : blocks_in (both (0 ∷ 1 ∷ [])) 0 ≡ block 0 0 0 3 ∷ block 1 3 3 0 ∷ []
unfolding morton_row morton_column cell_of where_set codes_below codes_in children_of_prefixes levels_with rank_of select_of ones_of
two_objects_in_one_cell_come_by_object = refl

the_second_place_has_the_second_object : block_at (both (0 ∷ 1 ∷ [])) 1 ≡ block 1 3 3 0
unfolding morton_row morton_column cell_of where_set codes_below codes_in children_of_prefixes levels_with rank_of select_of ones_of
the_second_place_has_the_second_object = refl

objects_of_one_cell_have_no_flaw : flaw_of (both (0 ∷ 1 ∷ [])) ≡ None
unfolding morton_row morton_column cell_of where_set codes_below codes_in children_of_prefixes rank_of ones_of levels_with group_flaw level_flaw tree_flaw
objects_of_one_cell_have_no_flaw = refl

objects_that_do_not_ascend_are_flawed : flaw_of (both (1 ∷ 0 ∷ [])) ≡ Some (flaw_in 0 Perm CellOrder 1)
unfolding morton_row morton_column cell_of where_set codes_below codes_in children_of_prefixes rank_of ones_of levels_with group_flaw level_flaw tree_flaw
objects_that_do_not_ascend_are_flawed = refl

an_object_that_stands_twice_is_flawed : flaw_of (both (0 ∷ 0 ∷ [])) ≡ Some (flaw_in 0 Perm kind.Perm 1)
unfolding morton_row morton_column cell_of where_set codes_below codes_in children_of_prefixes rank_of ones_of levels_with group_flaw level_flaw tree_flaw
an_object_that_stands_twice_is_flawed = refl

an_empty_group_is_flawed : bits_flaw 0 (with [] [] [] [] []).frame (I ∷ O ∷ O ∷ O ∷ O ∷ O ∷ O ∷ O ∷ []) ≡ Some (flaw_in 0 Tree kind.Tree 4)
unfolding ones_of group_flaw level_flaw tree_flaw levels_with
an_empty_group_is_flawed = refl

-- a header with a grid of side 16, and the bits of (5, 0) over a level of sixteen and two of four
abbrev tall : ℕ → Frame
tall version = record {
  version = version;
  first = pos 0;
  span = 4;
  period = 4;
  height = 4;
  base = record { x = pos 0; y = pos 0 };
  cell = 1;
  tick = 1;
}

abbrev wide_bits : List Bool
wide_bits = O ∷ I ∷ O ∷ O ∷ O ∷ O ∷ O ∷ O ∷ O ∷ O ∷ O ∷ O ∷ O ∷ O ∷ O ∷ O ∷ I ∷ O ∷ O ∷ O ∷ O ∷ I ∷ O ∷ O ∷ []

the_version_tells_the_levels : map (λ version. bits_flaw 0 (tall version) wide_bits) (1 ∷ 2 ∷ [])
    ≡ Some (flaw_in 0 Tree kind.Tree 4) ∷ None ∷ []
unfolding ones_of levels_with group_flaw level_flaw tree_flaw
the_version_tells_the_levels = refl

cells_without_objects_are_flawed : flaw_of (with (O ∷ O ∷ []) [] two_cells [] []) ≡ Some (flaw_in 0 Lasts Cells 0)
unfolding morton_row morton_column cell_of where_set codes_below codes_in children_of_prefixes rank_of ones_of levels_with group_flaw level_flaw tree_flaw
cells_without_objects_are_flawed = refl

objects_without_cells_are_flawed : flaw_of (with (I ∷ I ∷ []) (0 ∷ 1 ∷ []) [] (I ∷ I ∷ []) (0 ∷ 1 ∷ []))
    ≡ Some (flaw_in 0 Lasts Cells 2)
unfolding morton_row morton_column cell_of where_set codes_below codes_in children_of_prefixes rank_of ones_of levels_with group_flaw level_flaw tree_flaw
objects_without_cells_are_flawed = refl

-- a period of one object, whose log has one symbol
abbrev alone : List Bool → PeriodParts
alone tree = record {
  present = I ∷ [];
  offsets = 0 ∷ [];
  tree = tree;
  lasts = I ∷ [];
  perm = 0 ∷ [];
  lengths = 1 ∷ [];
}

-- the bits of (0, 0) and of (5, 6) in a grid of side 8
abbrev at_origin : List Bool
at_origin = I ∷ O ∷ O ∷ O ∷ I ∷ O ∷ O ∷ O ∷ I ∷ O ∷ O ∷ O ∷ []

abbrev at_end : List Bool
at_end = O ∷ O ∷ O ∷ I ∷ O ∷ O ∷ I ∷ O ∷ O ∷ I ∷ O ∷ O ∷ []

-- the object 4 is at (0, 0), (5, 5), (0, 0), absent, at (5, 6) and at (5, 5), in periods of two instants; the alphabet has
-- the absence, and the movements by (0, -1) and by (5, 5)
abbrev wanderer : Parts
wanderer = record {
  frame = record {
    version = 1;
    first = pos 0;
    span = 6;
    period = 2;
    height = 3;
    base = record { x = pos 0; y = pos 0 };
    cell = 1;
    tick = 1;
  };
  objects = 4 ∷ [];
  alphabet = 0 ∷ 8 ∷ 91 ∷ [];
  rules = [];
  periods = alone at_origin ∷ alone at_origin ∷ alone at_end ∷ [];
  symbols = 2 ∷ 0 ∷ 1 ∷ [];
}

its_blocks_stop_where_it_is : map (stops_in wanderer 0) (numbers_in wanderer.frame)
    ≡ (stop_at (pos 0) (cell_with (pos 0) (pos 0)) ∷ stop_at (pos 1) (cell_with (pos 5) (pos 5)) ∷ [])
    ∷ (stop_at (pos 2) (cell_with (pos 0) (pos 0)) ∷ [])
    ∷ (stop_at (pos 4) (cell_with (pos 5) (pos 6)) ∷ stop_at (pos 5) (cell_with (pos 5) (pos 5)) ∷ []) ∷ []
unfolding morton_row morton_column cell_of where_set codes_below codes_in children_of_prefixes levels_with rank_of select_of ones_of start_in stops_in
    block_stops stops_after stops_from log_values values_of expansion_of table_of_rules cells_along move_of
its_blocks_stop_where_it_is = refl

each_period_has_its_speed : map (speed_of wanderer) (numbers_in wanderer.frame) ≡ 5 ∷ 0 ∷ 1 ∷ []
unfolding morton_row morton_column cell_of where_set codes_below codes_in children_of_prefixes levels_with rank_of select_of ones_of start_in all_blocks
    blocks_speed log_speed cell_after duration_of_log entry_of bounding_box_of box_round displacement_of
    values_of expansion_of table_of_rules cells_along move_of duration_of
each_period_has_its_speed = refl
