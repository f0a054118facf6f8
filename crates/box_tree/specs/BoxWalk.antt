-- What a walk finds, and what is left of one.
use Rattle.std.specs.Prelude.{ℕ, ◌+◌, ◌*◌, Bool, List, filter, length}
use Rattle.track_types.specs.declared.cell_box.CellBox.{CellBox}
use Rattle.box_tree.specs.Cost.{place_reads, opened_square_reads}
use Rattle.box_tree.specs.Places.{all_places, cell_passes, place_passes, held_square_count}
use Rattle.box_tree.specs.Tests.{Tests, squares_at, tests_at}
use Rattle.box_tree.specs.Tree.{TreeView}
use Rattle.box_tree.specs.Walk.{places_left, walk_reads}
use Rattle.box_tree.specs.declared.walk.BoxWalk.{BoxWalk}

-- the places of a tree whose cell passes the first test and whose box passes the second, in order
abbrev pub found_places : (CellBox → Bool) → (CellBox → Bool) → TreeView → List ℕ
found_places squares boxes tree =
    filter (place_passes (tests_at tree.base squares boxes) tree.places) (all_places tree.places)

-- at most so many reads find them: some for each square that holds a place and passes, and some for each place whose
-- cell passes
abbrev pub search_reads : (CellBox → Bool) → TreeView → ℕ
search_reads squares tree =
    opened_square_reads * held_square_count (squares_at tree.base squares) tree.places
    + place_reads * length (filter (cell_passes (squares_at tree.base squares) tree.places) (all_places tree.places))

-- the tree that a walk goes over
abbrev pub walked_tree : {S : Type 0} → BoxWalk S → TreeView
walked_tree walk = walk.walk.tree

module _ {S : Type 0} (squares boxes : S → CellBox → Bool) where
  -- what a walk asks of the nodes of its tree
  abbrev pub walk_tests : BoxWalk S → Tests
  walk_tests walk = tests_at walk.walk.tree.base (squares walk.search) (boxes walk.search)

  -- the places that are left
  abbrev pub box_left : BoxWalk S → List ℕ
  box_left walk = places_left (walk_tests walk) walk.walk

  -- the reads that are still to be made for them
  abbrev pub box_budget : BoxWalk S → ℕ
  box_budget walk = walk_reads (walk_tests walk).square walk.walk
