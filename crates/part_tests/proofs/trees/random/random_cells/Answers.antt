use Rattle.std.proofs.Common.{◌≡◌, ℕ, ◌^◌, ◌<◌, List, map, get_or, sym, ◌∙◌, ap, subst, All}
use Rattle.std.specs.List.Sorted.{IsStrictlyIncreasing}
use Rattle.std.proofs.lemmas.List.Elements.{All-map}
use Rattle.std.proofs.lemmas.Result.{IfOk-weaker}
use Rattle.track_types.specs.declared.cell.Cell.{Cell}
use Rattle.k2_tree.specs.Morton.{cell_of, morton_of, IsInGrid}
use Rattle.part_tests.specs.declared.trees.TheConstants.{BASE}
use Rattle.k2_tree.proofs.MortonLemmas.{cell_of-inside}
use Rattle.k2_tree.proofs.CellLemmas.{codes_back}
use Rattle.part_tests.proofs.trees.random.random_cells.Goals as goal

-- cells of numbers are in the grid
all_inside : (height : ℕ) (base : Cell) (codes : List ℕ) (cells : List Cell) → cells ≡ map (cell_of height base) codes
    → All (IsInGrid height base) cells
all_inside height base codes cells e =
    subst (All (IsInGrid height base)) (sym e)
    (All-map (IsInGrid height base) (cell_of height base) codes
    (λ k d h. cell_of-inside height base (get_or codes k d)))

-- and ascend as the numbers do
all_ascend : (height : ℕ) (base : Cell) (codes : List ℕ) (cells : List Cell) → cells ≡ map (cell_of height base) codes
    → All (λ code. code < 4 ^ height) codes → IsStrictlyIncreasing codes
    → IsStrictlyIncreasing (map (morton_of height base) cells)
all_ascend height base codes cells e small up =
    subst IsStrictlyIncreasing (sym (ap (map (morton_of height base)) e ∙ codes_back height base codes small)) up

pub returns-clause-inside : goal.returns-clause-inside
returns-clause-inside c =
    IfOk-weaker c.cells_of.result _ _ (λ cells e. all_inside c.args.height BASE c.as_slice.result.now cells.items e)
    c.cells_of.ensures.ok

pub returns-clause-ascending : goal.returns-clause-ascending
returns-clause-ascending c =
    let small : All (λ code. code < 4 ^ c.args.height) c.as_slice.result.now =
    rw c.as_slice.ensures.value c.in_ok-codes.ensures.small in
    let up : IsStrictlyIncreasing c.as_slice.result.now = rw c.as_slice.ensures.value c.in_ok-codes.ensures.ascending in
    IfOk-weaker c.cells_of.result _ _ (λ cells e. all_ascend c.args.height BASE c.as_slice.result.now cells.items e small up)
    c.cells_of.ensures.ok
