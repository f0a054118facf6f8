-- The definitions, run on small sets of cells.
use Rattle.std.proofs.Common.{◌≡◌, ℕ, Bool, true, false, pos, List, [], ◌∷◌, map, refl, None, Some}
use Rattle.track_types.specs.declared.cell.Cell.{Cell}
use Rattle.track_types.specs.Region.{intersects_region}
use Rattle.track_types.specs.declared.region.Region.TheVariants.{Rect}
use Rattle.packed_bits.specs.Bits.{ones_of}
use Rattle.k2_tree.specs.Morton.{interleaved, morton_of, morton_row, morton_column, cell_of}
use Rattle.k2_tree.specs.Widths.{digits_in, levels_with, widths_of}
use Rattle.k2_tree.specs.TreeBits.{prefixes, children_of_prefixes, level_bits, morton_bits}
use Rattle.k2_tree.specs.Squares.{node, squares_above, squares_from}
use Rattle.k2_tree.specs.Groups.{upper_squares, group_start, square_at}
use Rattle.k2_tree.specs.Tree.{Tree, codes_below, codes_in, where_set, tree_with}
use Rattle.k2_tree.specs.Flaws.{group_flaw, level_flaw, tree_flaw}
use Rattle.k2_tree.specs.Checking.{group_ones}
use Rattle.k2_tree.specs.Pruning.{digits_left, passes, passes_at, kept_leaves, square_count}

-- the cell at a column and a row
abbrev at : ℕ → ℕ → Cell
at x y = record { x = pos x; y = pos y }

abbrev I : Bool
I = true

abbrev O : Bool
O = false

the_row_bit_stands_above : morton_of 1 (at 0 0) (at 0 1) ≡ 2
unfolding morton_of interleaved
the_row_bit_stands_above = refl

numbers_count_from_the_base : morton_of 2 (at 10 20) (at 13 20) ≡ 5
unfolding morton_of interleaved
numbers_count_from_the_base = refl

a_number_leads_back : cell_of 2 (at 10 20) 5 ≡ at 13 20
unfolding cell_of morton_row morton_column
a_number_leads_back = refl

prefixes_stand_once : prefixes 1 (0 ∷ 3 ∷ 5 ∷ []) ≡ 0 ∷ 1 ∷ []
unfolding prefixes
prefixes_stand_once = refl

one_cell : morton_bits (widths_of 2 0) (morton_of 2 (at 0 0) (at 3 0) ∷ []) ≡ O ∷ I ∷ O ∷ O ∷ O ∷ I ∷ O ∷ O ∷ []
unfolding morton_bits digits_in levels_with level_bits children_of_prefixes prefixes morton_of interleaved
one_cell = refl

two_cells : morton_bits (widths_of 1 0) (map (morton_of 1 (at 0 0)) (at 0 0 ∷ at 1 1 ∷ [])) ≡ I ∷ O ∷ O ∷ I ∷ []
unfolding morton_bits digits_in levels_with level_bits children_of_prefixes prefixes morton_of interleaved
two_cells = refl

no_cell : morton_bits (widths_of 2 0) [] ≡ []
unfolding morton_bits digits_in levels_with level_bits children_of_prefixes prefixes
no_cell = refl

three_cells : morton_bits (widths_of 2 0) (map (morton_of 2 (at 0 0)) (at 0 0 ∷ at 1 1 ∷ at 3 0 ∷ []))
    ≡ I ∷ I ∷ O ∷ O ∷ I ∷ O ∷ O ∷ I ∷ O ∷ I ∷ O ∷ O ∷ []
unfolding morton_bits digits_in levels_with level_bits children_of_prefixes prefixes morton_of interleaved
three_cells = refl

no_bits_have_no_flaw : tree_flaw (widths_of 2 0) [] ≡ None
unfolding tree_flaw levels_with
no_bits_have_no_flaw = refl

a_missing_level_is_flawed : tree_flaw (widths_of 2 0) (O ∷ I ∷ O ∷ O ∷ []) ≡ Some 4
unfolding tree_flaw levels_with level_flaw group_flaw ones_of
a_missing_level_is_flawed = refl

an_empty_group_is_flawed : tree_flaw (widths_of 2 0) (O ∷ I ∷ O ∷ O ∷ O ∷ O ∷ O ∷ O ∷ []) ≡ Some 4
unfolding tree_flaw levels_with level_flaw group_flaw ones_of
an_empty_group_is_flawed = refl

what_remains_is_flawed : tree_flaw (widths_of 2 0) (O ∷ I ∷ O ∷ O ∷ O ∷ I ∷ O ∷ O ∷ I ∷ O ∷ O ∷ O ∷ []) ≡ Some 8
unfolding tree_flaw levels_with level_flaw group_flaw ones_of
what_remains_is_flawed = refl

an_empty_top_is_flawed : tree_flaw (widths_of 1 0) (O ∷ O ∷ O ∷ O ∷ []) ≡ Some 0
unfolding tree_flaw levels_with level_flaw group_flaw ones_of
an_empty_top_is_flawed = refl

a_tree_has_no_flaw : tree_flaw (widths_of 2 0) (O ∷ I ∷ O ∷ O ∷ O ∷ I ∷ O ∷ O ∷ []) ≡ None
unfolding tree_flaw levels_with level_flaw group_flaw ones_of
a_tree_has_no_flaw = refl

a_whole_group_has_its_ones : group_ones 4 (I ∷ O ∷ O ∷ I ∷ I ∷ []) ≡ 2
unfolding ones_of
a_whole_group_has_its_ones = refl

a_cut_group_has_none : group_ones 4 (I ∷ I ∷ I ∷ []) ≡ 0
a_cut_group_has_none = refl

-- three cells of a grid of side 4
abbrev three : Tree
three = tree_with 2 0 (at 0 0) (at 0 0 ∷ at 1 1 ∷ at 3 0 ∷ [])

a_rect_keeps_two_leaves : kept_leaves (intersects_region (Rect (pos 1) (pos 0) (pos 3) (pos 3))) three
    ≡ (1, at 1 1) ∷ (2, at 3 0) ∷ []
unfolding passes_at passes digits_left digits_in levels_with morton_of interleaved morton_row morton_column
a_rect_keeps_two_leaves = refl

a_rect_touches_five_squares : square_count (intersects_region (Rect (pos 1) (pos 0) (pos 3) (pos 3))) three ≡ 5
unfolding squares_from digits_in levels_with prefixes morton_of interleaved morton_row morton_column
a_rect_touches_five_squares = refl

a_far_rect_keeps_none : kept_leaves (intersects_region (Rect (pos 5) (pos 5) (pos 6) (pos 6))) three ≡ []
unfolding passes_at passes digits_left digits_in levels_with morton_of interleaved morton_row morton_column
a_far_rect_keeps_none = refl

-- one wide level and two others
abbrev four : List ℕ
four = widths_of 4 1

the_widths : widths_of 4 1 ≡ 2 ∷ 1 ∷ 1 ∷ []
unfolding levels_with
the_widths = refl

the_widths_of_24 : widths_of 24 6 ≡ 2 ∷ 2 ∷ 2 ∷ 2 ∷ 2 ∷ 2 ∷ 1 ∷ 1 ∷ 1 ∷ 1 ∷ 1 ∷ 1 ∷ 1 ∷ 1 ∷ 1 ∷ 1 ∷ 1 ∷ 1 ∷ []
unfolding levels_with
the_widths_of_24 = refl

one_cell_of_a_wide_level : morton_bits four (map (morton_of 4 (at 0 0)) (at 5 0 ∷ []))
    ≡ O ∷ I ∷ O ∷ O ∷ O ∷ O ∷ O ∷ O ∷ O ∷ O ∷ O ∷ O ∷ O ∷ O ∷ O ∷ O ∷ I ∷ O ∷ O ∷ O ∷ O ∷ I ∷ O ∷ O ∷ []
unfolding levels_with morton_bits level_bits children_of_prefixes prefixes digits_in morton_of interleaved
one_cell_of_a_wide_level = refl

an_empty_wide_top : tree_flaw four (O ∷ O ∷ O ∷ O ∷ O ∷ O ∷ O ∷ O ∷ O ∷ O ∷ O ∷ O ∷ O ∷ O ∷ O ∷ O ∷ []) ≡ Some 0
unfolding levels_with tree_flaw level_flaw group_flaw ones_of
an_empty_wide_top = refl

a_wide_top_alone : tree_flaw four (O ∷ I ∷ O ∷ O ∷ O ∷ O ∷ O ∷ O ∷ O ∷ O ∷ O ∷ O ∷ O ∷ O ∷ O ∷ O ∷ []) ≡ Some 16
unfolding levels_with tree_flaw level_flaw group_flaw ones_of
a_wide_top_alone = refl

a_cut_wide_group : tree_flaw four (O ∷ I ∷ O ∷ []) ≡ Some 0
unfolding levels_with tree_flaw level_flaw group_flaw ones_of
a_cut_wide_group = refl

what_is_told : codes_in four
    (O ∷ I ∷ O ∷ O ∷ O ∷ O ∷ O ∷ O ∷ O ∷ O ∷ O ∷ O ∷ O ∷ O ∷ O ∷ O ∷ I ∷ O ∷ O ∷ O ∷ O ∷ I ∷ O ∷ O ∷ []) ≡ 17 ∷ []
unfolding levels_with codes_in codes_below where_set children_of_prefixes
what_is_told = refl

its_squares : squares_from four (17 ∷ []) ≡ node 4 0 ∷ node 2 1 ∷ node 1 4 ∷ node 0 17 ∷ []
unfolding levels_with squares_from digits_in prefixes
its_squares = refl

its_upper_squares : upper_squares 4 1 (17 ∷ []) ≡ 1
unfolding levels_with squares_above digits_in prefixes
its_upper_squares = refl

its_groups : group_start 1 0 ∷ group_start 1 1 ∷ group_start 1 2 ∷ [] ≡ 0 ∷ 16 ∷ 20 ∷ []
unfolding group_start
its_groups = refl

and_back : square_at 1 1 ∷ square_at 1 16 ∷ square_at 1 21 ∷ square_at 1 24 ∷ [] ≡ 0 ∷ 1 ∷ 2 ∷ 3 ∷ []
unfolding square_at
and_back = refl
