use Rattle.std.proofs.Common.{◌≡◌, pos, negsuc, List, [], ◌∷◌, ◌++◌, map, refl, sym, ap, ◌∙◌, Option, None, Some, arith}
use Rattle.std.specs.Prelude.{option_to_list}
use Rattle.track_types.specs.Region.{intersects_region}
use Rattle.track_types.specs.declared.cell.Cell.{Cell}
use Rattle.track_types.specs.declared.region.Region.{Region}
use Rattle.track_types.specs.declared.region.Region.TheVariants.{Rect}
use Rattle.k2_tree.specs.Morton.{morton_of, interleaved, cell_of, morton_row, morton_column}
use Rattle.k2_tree.specs.Widths.{digits_in, levels_with}
use Rattle.k2_tree.specs.TreeBits.{prefixes}
use Rattle.k2_tree.specs.Squares.{squares_from}
use Rattle.k2_tree.specs.Tree.{Tree, tree_with}
use Rattle.k2_tree.specs.Pruning.{digits_left, passes, passes_at, kept_leaves, square_count}
use Rattle.part_tests.proofs.trees.walks.far_leaf.Goals as goal

abbrev base : Cell
base = record { x = pos 10; y = negsuc 19 }

abbrev three : Tree
three = tree_with 2 0 base (map (cell_of 2 base) (0 ∷ 3 ∷ 5 ∷ []))

abbrev far : Region
far = Rect (pos 15) (negsuc 14) (pos 16) (negsuc 13)

no_leaf : (tree : Tree) (region : Region) → tree ≡ three → region ≡ far
    → kept_leaves (intersects_region region) tree ≡ []
unfolding passes_at passes digits_left digits_in levels_with morton_of interleaved cell_of morton_row morton_column
no_leaf tree region t r = rw (t, r) refl

none_of_three : square_count (intersects_region far) three ≡ 0
unfolding squares_from digits_in levels_with prefixes morton_of interleaved cell_of morton_row morton_column
none_of_three = refl

no_square : (tree : Tree) (region : Region) → tree ≡ three → region ≡ far
    → square_count (intersects_region region) tree ≡ 0
no_square tree region t r =
    ap (λ z. square_count (intersects_region region) z) t
    ∙ ap (λ z. square_count (intersects_region z) three) r ∙ none_of_three

none_found : {A : Type 0} (found : Option A) (rest : List A) → [] ≡ option_to_list found ++ rest → found ≡ None
none_found None rest e = refl
none_found (Some x) rest e = absurd (cc)

pub returns-clause-none : goal.returns-clause-none
returns-clause-none g c =
    none_found c.draw.result _
    (sym (no_leaf _ _ c.in_ok-tree.ensures.ok c.rect.ensures) ∙ sym c.pruned-walk.ensures.left ∙ c.draw.ensures.found)

pub returns-clause-cost : goal.returns-clause-cost
returns-clause-cost g c =
    let none = no_square _ _ c.in_ok-tree.ensures.ok c.rect.ensures in
    omega (arith, c.draw.ensures.cost, c.pruned-walk.ensures.budget, none)
