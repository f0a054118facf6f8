-- A period in which no object is present.
use Rattle.std.proofs.Common.{◌≡◌, Bool, true, false, List, [], ◌∷◌, length, map, refl, ap, ◌∙◌, arith}
use Rattle.std.specs.Prelude.{None, replicate}
use Rattle.std.proofs.lemmas.List.{nil_from_length}
use Rattle.packed_bits.specs.Bits.{ones_of}
use Rattle.packed_bits.proofs.OnesLemmas.{ones_of-cons, ones_of-le-length}
use Rattle.k2_tree.specs.Morton.{morton_of}
use Rattle.k2_tree.specs.Tree.{Tree, tree_bits, tree_widths}
use Rattle.k2_tree.specs.TreeBits.{morton_bits}
use Rattle.k2_tree.proofs.ToldLemmas.{morton_bits-none}
use Rattle.snapshots.specs.Stored.{parts_with}
use Rattle.track_types.specs.declared.period_parts.PeriodParts.{PeriodParts}

-- bits without a one are all 0
replicate-absent : (bits : List Bool) → ones_of bits ≡ 0 → replicate (length bits) false ≡ bits
replicate-absent [] none = refl
replicate-absent (true ∷ bits) none = absurd (omega (arith, ones_of-cons true bits))
replicate-absent (false ∷ bits) none =
    ap (λ rest. false ∷ rest) (replicate-absent bits (omega (arith, ones_of-cons false bits)))

-- no object is the last of a cell where there is none, so the tree has no cell, and no bit
pub tree_bits-absent : (lasts : List Bool) (tree : Tree) → length lasts ≡ 0 → ones_of lasts ≡ length tree.cells
    → tree_bits tree ≡ []
unfolding tree_bits
tree_bits-absent lasts tree none count =
    let few = ones_of-le-length lasts in
    let empty : tree.cells ≡ [] = nil_from_length tree.cells (omega (arith, few)) in
    ap (λ cells. morton_bits (tree_widths tree) (map (morton_of tree.height tree.base) cells)) empty
    ∙ morton_bits-none (tree_widths tree)

-- so nothing need be stored of its parts
pub parts_with-absent : (parts : PeriodParts) → ones_of parts.present ≡ 0 → length parts.offsets ≡ 0
    → parts.tree ≡ [] → length parts.lasts ≡ 0 → length parts.perm ≡ 0 → length parts.lengths ≡ 0
    → parts_with (length parts.present) None ≡ parts
parts_with-absent parts present offsets tree lasts perm lengths =
    rw (
      replicate-absent parts.present present,
      nil_from_length parts.offsets offsets,
      tree,
      nil_from_length parts.lasts lasts,
      nil_from_length parts.perm perm,
      nil_from_length parts.lengths lengths,
    ) refl
