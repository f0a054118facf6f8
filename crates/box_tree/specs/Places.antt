-- What a tree of boxes stands for: places in Morton order, each with the number of its cell and a box.
use Rattle.std.specs.Prelude.{◌≡◌, ℕ, ◌+◌, ◌*◌, ◌/◌, ◌^◌, ◌<◌, ◌≤◌, Bool, true, ◌&&◌, if◌then◌else◌, List, [], ◌∷◌}
use Rattle.std.specs.Prelude.{length, pos, All}
use Rattle.std.specs.Prelude.{slice_index, slice_index_or, nat_lt}
use Rattle.std.specs.List.{range_with_len, sum_by}
use Rattle.track_types.specs.declared.cell_box.CellBox.{CellBox}
use Rattle.k2_tree.specs.Squares.{Node, node}
use Rattle.track_types.specs.declared.limit.TheConstants.{MAX_HEIGHT}
use Rattle.k2_tree.specs.TreeBits.{code_limit}
use Rattle.track_types.specs.Boxes.{box_from}
use Rattle.k2_tree.specs.Areas.{IsBoxInside}
use Rattle.box_tree.specs.Cost.{node_reads, opened_reads, place_reads}
use Rattle.box_tree.specs.Levels.{digits, run, squares_in}
use Rattle.box_tree.specs.Tests.{Tests}

-- the levels from the whole grid down, the numbers of the places' cells, and their boxes
pub record Places : Type 0 where
  pub levels : List ℕ
  pub codes : List ℕ
  pub boxes : List CellBox

-- each number is at least n and at least the one before
abbrev pub Ascends : ℕ → List ℕ → Type 0
Ascends n [] = Unit {0}
Ascends n (x ∷ xs) = (n ≤ x) × Ascends x xs

-- the places are in order, and each has a box
pub record ArePlaces (places : Places) : Type 0 where
  pub ascend : Ascends 0 places.codes
  pub same : length places.boxes ≡ length places.codes
  pub small : All (λ code. code < code_limit) places.codes
  pub inside : All (λ code. code < 4 ^ digits places.levels) places.codes
  pub narrow : All (λ level. level ≤ 2) places.levels

-- what stands where there is no box
abbrev pub no_box : CellBox
no_box = box_from (pos 0) (pos 0) 0

-- the box of a place
abbrev pub box_at : List CellBox → ℕ → CellBox
box_at boxes place = slice_index_or boxes place no_box

-- whether a place's cell passes
abbrev pub cell_passes : (Node → Bool) → Places → ℕ → Bool
cell_passes test places place = test (node 0 (slice_index places.codes place))

-- whether a place's box and its cell pass
unfoldable pub place_passes : Tests → Places → ℕ → Bool
place_passes tests places place = tests.area (box_at places.boxes place) && cell_passes tests.square places place

-- a square of the grid passes where a cell in it does, and a box where one in it does
pub record ArePassed (tests : Tests) : Type 0 where
  pub square : (n code : ℕ) → n ≤ MAX_HEIGHT → code < code_limit → tests.square (node 0 code) ≡ true
      → tests.square (node n (code / 4 ^ n)) ≡ true
  pub area : (inner outer : CellBox) → IsBoxInside inner outer → tests.area inner ≡ true → tests.area outer ≡ true

-- a square as a walk knows it: the levels below it, and the prefix of its numbers
pub record Square : Type 0 where
  pub levels : List ℕ
  pub prefix : ℕ

-- the square with these levels and this prefix
abbrev pub square_with : List ℕ → ℕ → Square
square_with levels prefix = record { levels = levels; prefix = prefix }

-- the places of a square
abbrev pub square_places : Places → Square → List ℕ
square_places places square = run places.codes (digits square.levels) square.prefix

-- the reads that a place is worth: those of its box and its cell, where its cell passes
abbrev pub place_worth : (Node → Bool) → Places → ℕ → ℕ
place_worth test places place = if cell_passes test places place then place_reads else 0

-- the reads that a node of a square is worth: its own, those of the squares in it that pass, and those of its places
unfoldable pub square_worth : (Node → Bool) → Places → Square → ℕ
square_worth test places square =
    node_reads + (opened_reads * squares_in test places.codes square.levels square.prefix
    + sum_by (place_worth test places) (square_places places square))

-- how many squares that hold a place pass, from the whole grid down to the cells
unfoldable pub held_square_count : (Node → Bool) → Places → ℕ
held_square_count test places = if nat_lt 0 (length places.codes) then squares_in test places.codes places.levels 0 else 0

-- all places
abbrev pub all_places : Places → List ℕ
all_places places = range_with_len 0 (length places.codes)
