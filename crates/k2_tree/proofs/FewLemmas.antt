-- A test of boxes keeps at most as many leaves as squares.
use Rattle.std.proofs.Common.{◌≡◌, ℕ, ◌+◌, ◌≤◌, Bool, true, List, [], ◌∷◌, length, map, filter}
use Rattle.std.proofs.Common.{sym, ap, ◌∙◌, arith}
use Rattle.std.proofs.lemmas.Bool.{and_parts}
use Rattle.std.proofs.lemmas.List.{length-append}
use Rattle.std.proofs.lemmas.List.Elements.{filter-append}
use Rattle.track_types.specs.declared.cell.Cell.{Cell}
use Rattle.track_types.specs.declared.cell_box.CellBox.{CellBox}
use Rattle.std.specs.List.{enumerate_from}
use Rattle.std.proofs.Math.Nat.{div-one}
use Rattle.k2_tree.specs.Morton.{morton_of}
use Rattle.k2_tree.specs.Widths.{digits_in}
use Rattle.k2_tree.specs.TreeBits.{prefixes}
use Rattle.k2_tree.specs.Squares.{Node, node, squares_from}
use Rattle.k2_tree.specs.Tree.{Tree, IsTree, codes_of, tree_widths}
use Rattle.k2_tree.specs.Pruning.{digits_left, kept_leaves, on_areas, passes, passes_at, square_count}
use Rattle.k2_tree.proofs.PrefixLemmas.{prefixes-zero}

-- where each square of a number passes, its own does
passes-own : (test : Node → Bool) (widths : List ℕ) (code : ℕ) → passes test widths code ≡ true → test (node 0 code)
    ≡ true
unfolding passes digits_left
passes-own test [] code e = ap (λ c. test (node 0 c)) (sym (div-one code)) ∙ (and_parts _ _ e).0
passes-own test (w ∷ ws) code e = passes-own test ws code (and_parts _ _ e).1

-- of cells at most as many pass as have an own square that does
few-cells : (test : Node → Bool) (widths : List ℕ) (height : ℕ) (base : Cell) (k : ℕ) (cells : List Cell)
    → length (filter (λ leaf. passes test widths (morton_of height base leaf.1)) (enumerate_from k cells))
    ≤ length (filter test (map (node 0) (map (morton_of height base) cells)))
few-cells test widths height base k [] = omega arith
few-cells test widths height base k (cell ∷ cells) =
    let own = passes-own test widths (morton_of height base cell) in
    grind (arith, own, few-cells test widths height base (k + 1) cells)

-- the squares of the lowest level are among those from a level down
few-squares : (test : Node → Bool) (widths codes : List ℕ)
    → length (filter test (map (node 0) (prefixes 0 codes))) ≤ length (filter test (squares_from widths codes))
unfolding squares_from
few-squares test [] codes = omega arith
few-squares test (w ∷ ws) codes =
    let n : ℕ = w + digits_in ws in
    let here : List Node = map (node n) (prefixes n codes) in
    let parts = ap length (filter-append test here (squares_from ws codes))
    ∙ length-append (filter test here) (filter test (squares_from ws codes)) in
    omega (arith, parts, few-squares test ws codes)

-- a test keeps at most as many leaves of a tree as squares
pub kept_leaves-few : (keep : CellBox → Bool) (tree : Tree) → IsTree tree
    → length (kept_leaves keep tree) ≤ square_count keep tree
unfolding passes_at
kept_leaves-few keep tree is =
    let test : Node → Bool = on_areas keep tree in
    let all : prefixes 0 (codes_of tree) ≡ codes_of tree = prefixes-zero (codes_of tree) is.codes.rising in
    let cells = few-cells test (tree_widths tree) tree.height tree.base 0 tree.cells in
    let squares = few-squares test (tree_widths tree) (codes_of tree) in
    let lowest = ap (λ codes. length (filter test (map (node 0) codes))) all in
    omega (arith, cells, squares, lowest)
