-- The definitions, run on the two worked files of version 3.
use Rattle.std.proofs.Common.{◌≡◌, Bool, true, false, [], ◌∷◌, refl}
use Rattle.packed_bits.specs.Bits.{ones_of}
use Rattle.bit_rank.specs.Bits.{rank_of}
use Rattle.list_laws.specs.Ordered.{ordered, insert_in_order}
use Rattle.k2_tree.specs.Morton.{cell_of, interleaved, morton_column, morton_of, morton_row}
use Rattle.k2_tree.specs.Tree.{where_set, codes_below, codes_in}
use Rattle.k2_tree.specs.TreeBits.{level_bits, children_of_prefixes, morton_bits, prefixes}
use Rattle.k2_tree.specs.Widths.{digits_in, levels_with}
use Rattle.index_format.specs.IsOutline.{blocks_with_logs}
use Rattle.index_format.proofs.OutlineExamples.{long, short}
use Rattle.snapshots.specs.Parts.{start_in}
use Rattle.track_types.specs.declared.parts.Parts.{Parts}
use Rattle.chart_parts.specs.LeafOrder.{distinct_codes, ends_of, leaf_codes, leaf_order}
use Rattle.chart_parts.specs.PeriodWith.{period_of_blocks}
use Rattle.outline_parts.specs.PartsOfOutline.{parts_of_outline}
use Rattle.outline_parts.specs.OutlineOf.{block_in, logged_blocks, outline_of}

abbrev I : Bool
I = true

abbrev O : Bool
O = false

-- the parts of the outline of one object
abbrev short_parts : Parts
short_parts = record {
  frame = short.frame;
  objects = 7 ∷ [];
  alphabet = 2 ∷ 3 ∷ [];
  rules = [];
  periods = record {
    present = I ∷ [];
    offsets = 0 ∷ [];
    tree = I ∷ O ∷ O ∷ O ∷ I ∷ O ∷ O ∷ O ∷ [];
    lasts = I ∷ [];
    perm = 0 ∷ [];
    lengths = 2 ∷ [];
  } ∷ [];
  symbols = 0 ∷ 1 ∷ [];
}

short_opens : parts_of_outline short ≡ short_parts
unfolding parts_of_outline blocks_with_logs period_of_blocks leaf_order leaf_codes distinct_codes ends_of
    ordered insert_in_order morton_of interleaved levels_with digits_in morton_bits level_bits children_of_prefixes prefixes
short_opens = refl

short_is_told : outline_of short_parts ≡ short
unfolding outline_of logged_blocks block_in start_in rank_of ones_of codes_in codes_below where_set children_of_prefixes levels_with
    cell_of morton_column morton_row
short_is_told = refl

-- and of that of two: the logs stand by period, then object, and in the second period the lesser object stands second in leaf order
abbrev long_parts : Parts
long_parts = record {
  frame = long.frame;
  objects = 7 ∷ 9 ∷ [];
  alphabet = 0 ∷ 2 ∷ [];
  rules = (1, 1) ∷ (2, 1) ∷ [];
  periods =
      record {
        present = I ∷ I ∷ [];
        offsets = 0 ∷ 1 ∷ [];
        tree = I ∷ O ∷ O ∷ O ∷ I ∷ O ∷ I ∷ O ∷ I ∷ O ∷ O ∷ O ∷ I ∷ O ∷ O ∷ O ∷ [];
        lasts = I ∷ I ∷ [];
        perm = 0 ∷ 1 ∷ [];
        lengths = 1 ∷ 2 ∷ [];
      }
      ∷ record {
        present = I ∷ I ∷ [];
        offsets = 0 ∷ 2 ∷ [];
        tree = I ∷ I ∷ O ∷ O ∷ O ∷ O ∷ I ∷ O ∷ I ∷ O ∷ O ∷ O ∷ O ∷ O ∷ I ∷ O ∷ I ∷ O ∷ O ∷ O ∷ [];
        lasts = I ∷ I ∷ [];
        perm = 1 ∷ 0 ∷ [];
        lengths = 1 ∷ 1 ∷ [];
      } ∷ [];
  symbols = 3 ∷ 0 ∷ 0 ∷ 3 ∷ 0 ∷ [];
}

long_opens : parts_of_outline long ≡ long_parts
unfolding parts_of_outline blocks_with_logs period_of_blocks leaf_order leaf_codes distinct_codes ends_of
    ordered insert_in_order morton_of interleaved levels_with digits_in morton_bits level_bits children_of_prefixes prefixes
long_opens = refl

long_is_told : outline_of long_parts ≡ long
unfolding outline_of logged_blocks block_in start_in rank_of ones_of codes_in codes_below where_set children_of_prefixes levels_with
    cell_of morton_column morton_row
long_is_told = refl
