-- What tests of boxes keep of a tree: nothing wanted is lost, and a stronger test keeps fewer squares and leaves.
use Rattle.std.proofs.Common.{◌≡◌, ℕ, ◌+◌, ◌/◌, ◌^◌, ◌≤◌, ◌==◌, Bool, true, List, [], ◌∷◌, filter}
use Rattle.std.proofs.Common.{map, refl, arith, All}
use Rattle.std.specs.List.{enumerate_from}
use Rattle.std.proofs.lemmas.Bool.{and_from}
use Rattle.std.proofs.lemmas.List.Elements.{All-append, All-nil, All-cons, All-head, All-map, All-tail, All-weaker}
use Rattle.std.proofs.lemmas.List.Filters.{All-dedup}
use Rattle.list_laws.proofs.FilterLemmas.{filter_implied, length-filter-le}
use Rattle.track_types.specs.Near.{IsBoxWithin}
use Rattle.track_types.specs.declared.cell.Cell.{Cell}
use Rattle.track_types.specs.declared.cell_box.CellBox.{CellBox}
use Rattle.k2_tree.specs.Morton.{morton_of, IsInGrid}
use Rattle.k2_tree.specs.Widths.{digits_in, fan}
use Rattle.k2_tree.specs.TreeBits.{prefixes}
use Rattle.k2_tree.specs.Squares.{Node, node, level_squares, squares_from}
use Rattle.k2_tree.specs.Areas.{area_at}
use Rattle.k2_tree.specs.Tree.{Tree, codes_of, tree_widths, IsTree}
use Rattle.k2_tree.specs.TreeSquares.{squares_of}
use Rattle.k2_tree.specs.Pruning.{digits_left, kept_leaves, leaves_of, on_areas, passes, passes_at, square_count}
use Rattle.k2_tree.specs.Pruning.{IsKeptFor, IsWeaker}
use Rattle.k2_tree.proofs.WidthLemmas.{digits_in-widths_of}
use Rattle.k2_tree.proofs.AreaLemmas.{area_within, in_area}

-- a test that is true on each square from a level down passes
pub passes-from_each : (test : Node → Bool) (widths : List ℕ) (code : ℕ)
    → ((m : ℕ) → m ≤ digits_in widths → test (node m (code / 4 ^ m)) ≡ true) → passes test widths code ≡ true
unfolding passes digits_left digits_in
passes-from_each test [] code each = and_from _ _ (each 0 (omega arith)) refl
passes-from_each test (w ∷ ws) code each =
    and_from _ _ (each (w + digits_in ws) (omega arith)) (passes-from_each test ws code (λ m low. each m (omega arith)))

-- what holds of all cells holds of them with their numbers
pub All-enumerate_from : (P : Cell → Type 0) (k : ℕ) (cells : List Cell) → All P cells
    → All (λ leaf. P leaf.1) (enumerate_from k cells)
All-enumerate_from P k [] each = All-nil (λ (leaf : ℕ × Cell). P leaf.1)
All-enumerate_from P k (cell ∷ cells) each =
    All-cons (λ (leaf : ℕ × Cell). P leaf.1) (k, cell) (enumerate_from (k + 1) cells) (All-head P cell cells each)
    (All-enumerate_from P (k + 1) cells (All-tail P cell cells each))

-- a tree's levels have as many digits as its height
in_height : (tree : Tree) → IsTree tree → (m : ℕ) → m ≤ digits_in (tree_widths tree) → m ≤ tree.height
in_height tree is m low = omega (arith, low, digits_in-widths_of tree.height tree.wide is.fits)

-- a test of boxes is true on each square of a wanted cell
pub passes-wanted : (keep : CellBox → Bool) (wanted : Cell → Bool) (tree : Tree) → IsTree tree
    → IsKeptFor keep wanted → (cell : Cell) → IsInGrid tree.height tree.base cell → wanted cell ≡ true
    → passes_at keep tree cell ≡ true
unfolding passes_at
passes-wanted keep wanted tree is only cell inside want =
    passes-from_each (on_areas keep tree) (tree_widths tree) (morton_of tree.height tree.base cell)
    (λ m low. let high : m ≤ tree.height = in_height tree is m low in
    only (area_at tree.base (node m (morton_of tree.height tree.base cell / 4 ^ m))) cell
    (area_within is.grid inside m high) (in_area is.grid inside m high) want)

-- of the leaves that a test keeps the wanted ones are all that the tree has
pub kept_leaves-wanted : (keep : CellBox → Bool) (wanted : Cell → Bool) (tree : Tree) → IsTree tree
    → IsKeptFor keep wanted
    → filter (λ leaf. wanted leaf.1) (kept_leaves keep tree) ≡ filter (λ leaf. wanted leaf.1) (leaves_of tree)
kept_leaves-wanted keep wanted tree is only =
    let P : Cell → Type 0 = λ cell. wanted cell ≡ true → passes_at keep tree cell ≡ true in
    filter_implied (λ leaf. wanted leaf.1) (λ leaf. passes_at keep tree leaf.1) (leaves_of tree)
    (All-enumerate_from P 0 tree.cells
    (All-weaker (IsInGrid tree.height tree.base) P (passes-wanted keep wanted tree is only) tree.cells is.inside))

-- what holds of each number's square of a level holds of the level's squares
All-level : (P : Node → Type 0) (n : ℕ) (codes : List ℕ) → All (λ code. P (node n (code / fan ^ n))) codes
    → All P (level_squares n codes)
unfolding prefixes
All-level P n codes each =
    All-map P (node n) (prefixes n codes) (All-dedup (λ a b. a == b) (λ prefix. P (node n prefix))
    (map (λ code. code / fan ^ n) codes) (All-map (λ prefix. P (node n prefix)) (λ code. code / fan ^ n) codes each))

-- what holds of the square of each level in which each cell lies holds of all squares
pub All-squares_from : (P : Node → Type 0) (widths codes : List ℕ)
    → ((level : ℕ) → level ≤ digits_in widths → All (λ code. P (node level (code / fan ^ level))) codes)
    → All P (squares_from widths codes)
unfolding squares_from digits_in
All-squares_from P [] codes each = All-level P 0 codes (each 0 (omega arith))
All-squares_from P (w ∷ ws) codes each =
    All-append P (level_squares (w + digits_in ws) codes) (squares_from ws codes)
    (All-level P (w + digits_in ws) codes (each (w + digits_in ws) (omega arith)))
    (All-squares_from P ws codes (λ level low. each level (omega arith)))

module _ (tree : Tree) (is : IsTree tree) where
  -- the area of each square of a tree is near 0
  pub areas_within : All (λ square. IsBoxWithin (area_at tree.base square)) (squares_of tree)
  areas_within =
      All-squares_from (λ square. IsBoxWithin (area_at tree.base square)) (tree_widths tree) (codes_of tree)
      (λ level low. All-map (λ code. IsBoxWithin (area_at tree.base (node level (code / fan ^ level))))
      (morton_of tree.height tree.base) tree.cells
      (All-weaker (IsInGrid tree.height tree.base)
      (λ cell. IsBoxWithin (area_at tree.base (node level (morton_of tree.height tree.base cell / fan ^ level))))
      (λ cell inside. area_within is.grid inside level (in_height tree is level low)) tree.cells is.inside))

  module _ (weak strong : CellBox → Bool) (only : IsWeaker weak strong) where
    -- fewer squares pass the stronger test
    pub square_count-le : square_count strong tree ≤ square_count weak tree
    square_count-le =
        length-filter-le (on_areas strong tree) (on_areas weak tree) (squares_of tree)
        (All-weaker (λ square. IsBoxWithin (area_at tree.base square))
        (λ square. on_areas strong tree square ≡ true → on_areas weak tree square ≡ true)
        (λ square. only (area_at tree.base square)) (squares_of tree) areas_within)
