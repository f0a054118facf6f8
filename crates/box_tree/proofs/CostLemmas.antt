-- What a search over the walk reads.
use Rattle.std.proofs.Common.{◌≡◌, ℕ, ◌+◌, ◌*◌, ◌≤◌, Bool, List, length, filter, arith, mul-le-mul_right}
use Rattle.std.specs.List.{sum_by}
use Rattle.std.proofs.lemmas.Bool.{and_parts}
use Rattle.list_laws.proofs.FilterLemmas.{sum_by-filter-le}
use Rattle.list_laws.proofs.SumLemmas.{sum_by-each}
use Rattle.track_types.specs.declared.cell_box.CellBox.{CellBox}
use Rattle.box_tree.specs.BoxWalk.{found_places, search_reads}
use Rattle.box_tree.specs.Cost.{place_reads, opened_square_reads}
use Rattle.box_tree.specs.Places.{all_places, cell_passes, place_passes, held_square_count}
use Rattle.box_tree.specs.Tests.{squares_at, tests_at}
use Rattle.box_tree.specs.Tree.{TreeView}

-- the reads of a walk, and those of a record and a log for each place that it gives, are paid by the squares that pass
-- and by the places whose cell passes
pub search-pays : (squares boxes : CellBox → Bool) (tree : TreeView) (record_reads block : ℕ) (log : ℕ → ℕ)
    → place_reads + record_reads ≤ block
    → search_reads squares tree + sum_by (λ place. record_reads + log place) (found_places squares boxes tree)
    ≤ opened_square_reads * held_square_count (squares_at tree.base squares) tree.places
    + sum_by (λ place. block + log place)
    (filter (cell_passes (squares_at tree.base squares) tree.places) (all_places tree.places))
unfolding place_passes
search-pays squares boxes tree record_reads block log enough =
    let of_cell : ℕ → Bool = cell_passes (squares_at tree.base squares) tree.places in
    let cells : List ℕ = filter of_cell (all_places tree.places) in
    let given : sum_by (λ place. record_reads + log place) (found_places squares boxes tree)
    ≤ sum_by (λ place. record_reads + log place) cells =
    sum_by-filter-le (place_passes (tests_at tree.base squares boxes) tree.places) of_cell (λ place. record_reads + log place)
    (all_places tree.places) (λ k d within both. (and_parts _ _ both).1) in
    let paid : (place_reads + record_reads) * length cells ≤ block * length cells =
    mul-le-mul_right (length cells) enough in
    let parts : (place_reads + record_reads) * length cells ≡ place_reads * length cells
    + record_reads * length cells = grind arith in
    omega (arith, given, paid, parts, sum_by-each log record_reads cells, sum_by-each log block cells)
