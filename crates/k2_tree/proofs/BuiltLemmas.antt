-- A tree that was built stands for the cells that it was built from.
use Rattle.std.proofs.Common.{◌≡◌, ℕ, zero, suc, ◌+◌, ◌-◌, ◌*◌, ◌/◌, ◌^◌, ◌<◌, ◌≤◌, Bool, List, [], ◌∷◌, ◌++◌, length}
use Rattle.std.proofs.Common.{map}
use Rattle.std.proofs.Common.{sym, ap, ◌∙◌, inl, inr, arith, subst, All, length-append, get_or}
use Rattle.std.proofs.Math.Nat.{mul-le-mul_left, mul-le-mul_right}
use Rattle.std.proofs.lemmas.List.{length-map}
use Rattle.std.proofs.lemmas.List.Elements.{All-map}
use Rattle.std.specs.List.Sorted.{IsStrictlyIncreasing}
use Rattle.track_types.specs.declared.cell.Cell.{Cell}
use Rattle.track_types.specs.declared.limit.TheConstants.{MAX_HEIGHT, MAX_OBJECTS, MAX_TREE}
use Rattle.k2_tree.specs.Morton.{morton_of, cell_of, IsGrid, IsInGrid}
use Rattle.k2_tree.specs.Widths.{levels_with, widths_of, digits_in, fan_of}
use Rattle.k2_tree.specs.TreeBits.{prefixes, level_bits, morton_bits, AreCodes}
use Rattle.k2_tree.specs.Groups.{upper_squares}
use Rattle.k2_tree.specs.Tree.{IsStoredTree, codes_in, AreTreeBits, tree_of, tree_with}
use Rattle.k2_tree.proofs.MortonLemmas.{morton_of-lt}
use Rattle.k2_tree.proofs.CellLemmas.{cells_back}
use Rattle.k2_tree.proofs.RisingLemmas.{rises}
use Rattle.k2_tree.proofs.PrefixLemmas.{by_test, once_from}
use Rattle.k2_tree.proofs.LevelLemmas.{length-level_bits}
use Rattle.k2_tree.proofs.ToldLemmas.{AreTreeBits-morton_bits, codes_in-own}

length-once_from : (k : ℕ) (xs : List ℕ) → length (once_from k xs) ≤ suc (length xs)
length-once_from k [] = omega arith
length-once_from k (x ∷ xs) = elim (by_test x k) [
  | inl same ↦ let rest = length-once_from k xs in rw same.1 (omega arith)
  | inr differ ↦ let rest = length-once_from x xs in rw differ.1 (omega arith)
]

-- there are no more prefixes than numbers
pub length-prefixes : (n : ℕ) (codes : List ℕ) → length (prefixes n codes) ≤ length codes
unfolding prefixes
length-prefixes n [] = omega arith
length-prefixes n (c ∷ cs) =
    let long = length-map cs (λ x. x / 4 ^ n) in
    omega (arith, length-once_from (c / 4 ^ n) (map (λ x. x / 4 ^ n) cs))

-- how many bits a number takes at most
unfoldable pub path_bits : List ℕ → ℕ
path_bits [] = 0
path_bits (w ∷ ws) = fan_of w + path_bits ws

-- each number takes at most that many bits
pub length-morton_bits : (widths codes : List ℕ) → length (morton_bits widths codes) ≤ path_bits widths * length codes
unfolding morton_bits path_bits
length-morton_bits [] codes = omega arith
length-morton_bits (w ∷ ws) codes =
    let n : ℕ = digits_in ws in
    let most : fan_of w * length (prefixes (w + n) codes) ≤ fan_of w * length codes =
    mul-le-mul_left (fan_of w) (length-prefixes (w + n) codes) in
    omega (
      arith,
      length-morton_bits ws codes,
      length-append (level_bits w n codes) (morton_bits ws codes),
      length-level_bits w n codes,
      most,
    )

path_bits-append : (xs ys : List ℕ) → path_bits (xs ++ ys) ≡ path_bits xs + path_bits ys
unfolding path_bits
path_bits-append [] ys = omega arith
path_bits-append (x ∷ xs) ys = omega (arith, path_bits-append xs ys)

path_bits-levels_with : (w n : ℕ) → path_bits (levels_with w n) ≡ fan_of w * n
unfolding path_bits levels_with
path_bits-levels_with w zero = omega arith
path_bits-levels_with w (suc n) = omega (arith, path_bits-levels_with w n)

-- four bits a digit in the lower levels, and eight in the upper ones
pub path_bits-widths_of : (height wide : ℕ) → 2 * wide ≤ height → path_bits (widths_of height wide)
    ≡ 4 * height + 8 * wide
path_bits-widths_of height wide fits =
    omega (
      arith,
      path_bits-append (levels_with 2 wide) (levels_with 1 (height - 2 * wide)),
      path_bits-levels_with 2 wide,
      path_bits-levels_with 1 (height - 2 * wide),
    )

-- there are few bits
pub few_bits : (height wide : ℕ) (codes : List ℕ) → height ≤ MAX_HEIGHT → 2 * wide ≤ height → length codes ≤ MAX_OBJECTS
    → length (morton_bits (widths_of height wide) codes) ≤ MAX_TREE
few_bits height wide codes low fits few =
    let most : path_bits (widths_of height wide) * length codes ≤ (8 * MAX_HEIGHT) * length codes =
    mul-le-mul_right (length codes) (omega (arith, path_bits-widths_of height wide fits)) in
    omega (arith, length-morton_bits (widths_of height wide) codes, most)

-- the numbers of cells of the grid
pub codes_of_cells : (height : ℕ) (base : Cell) (cells : List Cell)
    → IsStrictlyIncreasing (map (morton_of height base) cells) → AreCodes height (map (morton_of height base) cells)
codes_of_cells height base cells up = record {
  rising = rises (map (morton_of height base) cells) up;
  small =
      All-map (λ code. code < 4 ^ height) (morton_of height base) cells
      (λ k d h. morton_of-lt height base (get_or cells k d));
}

-- what was packed is stored
pub built : (height wide : ℕ) (base : Cell) (cells : List Cell) (bits : List Bool) (upper : ℕ) → IsGrid height base
    → 2 * wide ≤ height → length cells ≤ MAX_OBJECTS → All (IsInGrid height base) cells
    → IsStrictlyIncreasing (map (morton_of height base) cells)
    → bits ≡ morton_bits (widths_of height wide) (map (morton_of height base) cells)
    → upper ≡ upper_squares height wide (map (morton_of height base) cells)
    → IsStoredTree height wide base bits upper × (tree_of height wide base bits ≡ tree_with height wide base cells)
built height wide base cells bits upper grid fits few inside up is split =
    let codes : List ℕ = map (morton_of height base) cells in
    let are : AreCodes height codes = codes_of_cells height base cells up in
    let long : length codes ≡ length cells = length-map cells (morton_of height base) in
    let tree = AreTreeBits-morton_bits height wide codes grid.some fits are
    (few_bits height wide codes grid.limit fits (omega arith)) in
    let told : codes_in (widths_of height wide) bits ≡ codes =
    ap (codes_in (widths_of height wide)) is ∙ codes_in-own height wide codes grid.some fits are in (
      record {
        grid = grid;
        tree = subst (AreTreeBits height wide) (sym is) tree;
        upper_is = split ∙ ap (upper_squares height wide) (sym told);
      },
      ap (tree_with height wide base) (ap (map (cell_of height base)) told ∙ cells_back height base cells inside),
    )
