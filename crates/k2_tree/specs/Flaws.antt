-- The first flaw of bits that are no tree's.
use Rattle.std.specs.Prelude.{◌≡◌, ℕ, zero, suc, ◌+◌, ◌*◌, Bool, ◌&&◌, nat_le, if◌then◌else◌, List, [], ◌∷◌}
use Rattle.std.specs.Prelude.{length, take, drop, Option, None, Some}
use Rattle.std.specs.Option.{option_map, option_or}
use Rattle.std.specs.List.{list_any}
use Rattle.packed_bits.specs.Bits.{ones_of}
use Rattle.track_types.specs.declared.cell.Cell.{Cell}
use Rattle.k2_tree.specs.Widths.{fan_of, widths_of}
use Rattle.k2_tree.specs.TreeBits.{morton_bits, AreCodes}
use Rattle.k2_tree.specs.Tree.{Tree, tree_bits, IsTree}
use Rattle.k2_tree.specs.declared.fault.TreeFault.{TreeFault}
use Rattle.k2_tree.specs.declared.fault.TreeFault.TheVariants.{Flaw, Memory}

-- whether the bits begin with a whole group of so many that holds a one
abbrev pub has_group : ℕ → List Bool → Bool
has_group size bits = nat_le size (length bits) && list_any (λ bit. bit) (take size bits)

-- the place of the first of so many groups that is not whole or holds no one
unfoldable pub group_flaw : ℕ → ℕ → List Bool → Option ℕ
group_flaw size zero bits = None
group_flaw size (suc groups) bits =
    if has_group size bits then option_map (λ place. size + place) (group_flaw size groups (drop size bits)) else Some 0

-- the place of the first flaw of levels of these widths, or of what stands after them; the first level has so many
-- groups
unfoldable pub level_flaw : List ℕ → ℕ → List Bool → Option ℕ
level_flaw [] groups [] = None
level_flaw [] groups (bit ∷ bits) = Some 0
level_flaw (width ∷ widths) groups bits = option_or (group_flaw (fan_of width) groups bits)
    (option_map (λ place. fan_of width * groups + place)
    (level_flaw widths (ones_of (take (fan_of width * groups) bits)) (drop (fan_of width * groups) bits)))

-- the place of the first flaw of bits that are no tree's with levels of these widths
unfoldable pub tree_flaw : List ℕ → List Bool → Option ℕ
tree_flaw widths [] = None
tree_flaw widths (bit ∷ bits) = level_flaw widths 1 (bit ∷ bits)

-- the bits are those of no Morton numbers of so many digits, over so many wide levels
abbrev pub AreNoTree : ℕ → ℕ → List Bool → Type 0
AreNoTree height wide bits =
    (codes : List ℕ) → AreCodes height codes → morton_bits (widths_of height wide) codes ≡ bits → ⊥

-- a flaw is the first one of bits that are no tree's; memory may be wanting for bits without a flaw
abbrev pub IsTreeFault : ℕ → ℕ → List Bool → TreeFault → Type 0
IsTreeFault height wide bits (Flaw place) =
    (tree_flaw (widths_of height wide) bits ≡ Some place) × AreNoTree height wide bits
IsTreeFault height wide bits Memory = tree_flaw (widths_of height wide) bits ≡ None

-- the tree of this height, with so many wide levels and this base, has these bits
pub record StandsFor (height wide : ℕ) (base : Cell) (bits : List Bool) (tree : Tree) : Type 0 where
  pub high : tree.height ≡ height
  pub levels : tree.wide ≡ wide
  pub from : tree.base ≡ base
  pub is_tree : IsTree tree
  pub same : tree_bits tree ≡ bits
