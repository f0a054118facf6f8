-- A walk at its beginning.
use Rattle.std.proofs.Common.{◌≡◌, ℕ, ◌+◌, ◌*◌, ◌<◌, ◌≤◌, true, false, ◌∷◌, []}
use Rattle.std.proofs.Common.{length, filter, refl, sym, ap, ◌∙◌, arith, Option, None, Some, ◌⊎◌, inl, inr}
use Rattle.std.specs.Prelude.{nat_lt, IfNone, IfSome}
use Rattle.std.specs.List.{range_with_len, sum_by}
use Rattle.std.proofs.lemmas.Bool.Decides.{nat_tests}
use Rattle.std.proofs.lemmas.List.{append-nil}
use Rattle.std.proofs.lemmas.List.Sums.{sum_by-cons}
use Rattle.list_laws.proofs.FilterLemmas.{sum_by_if}
use Rattle.k2_tree.specs.Squares.{node}
use Rattle.box_tree.specs.Levels.{digits, run}
use Rattle.box_tree.specs.Places.{ArePassed, ArePlaces, Places, all_places, cell_passes, place_worth, square_worth}
use Rattle.box_tree.specs.Places.{place_passes, held_square_count}
use Rattle.box_tree.specs.Tests.{Tests}
use Rattle.box_tree.specs.Tree.{TreeView, whole}
use Rattle.box_tree.specs.Walk.{NodeWalkView, places_left, walk_reads}
use Rattle.box_tree.specs.Cost.{place_reads, opened_square_reads}
use Rattle.track_types.specs.declared.limit.TheConstants.{MAX_HEIGHT}
use Rattle.box_tree.specs.declared.node_ref.NodeRef.{NodeRef}
use Rattle.box_tree.proofs.NodeLemmas.{skipped-square, squares_in-own}
use Rattle.box_tree.proofs.PlacesLemmas.{run-whole}

-- a walk at its beginning: all places that pass are left, for so many reads
pub record IsBegun (tests : Tests) (places : Places) (walk : NodeWalkView) : Type 0 where
  pub left : places_left tests walk ≡ filter (place_passes tests places) (all_places places)
  pub reads : walk_reads tests.square walk ≤ opened_square_reads * held_square_count tests.square places
      + place_reads * length (filter (cell_passes tests.square places) (all_places places))

module _ (tests : Tests) (mono : ArePassed tests) (tree : TreeView) (are : ArePlaces tree.places)
    (few : digits tree.places.levels ≤ MAX_HEIGHT) (walk : NodeWalkView)
    (same : walk.tree ≡ tree) (low : walk.low ≡ 0) (high : walk.high ≡ 0) where
  abbrev n : ℕ
  n = digits tree.places.levels

  all : run tree.places.codes n 0 ≡ all_places tree.places
  all = run-whole tree.places.codes n are.inside

  nothing : walk.pending ≡ [] → filter (place_passes tests tree.places) (all_places tree.places) ≡ []
      → IsBegun tests tree.places walk
  nothing pending none = record {
    left = rw (same, low, high, pending, none) refl;
    reads = rw (same, low, high, pending) (omega arith);
  }

  something : walk.pending ≡ whole tree ∷ [] → 0 < length tree.places.codes → tests.square (node n 0) ≡ true
      → IsBegun tests tree.places walk
  unfolding square_worth held_square_count
  something pending some holds =
      let own = squares_in-own tests.square tree.places.codes tree.places.levels 0 holds in
      let test : nat_lt 0 (length tree.places.codes) ≡ true = grind (arith, nat_tests) in
      let one = sum_by-cons (square_worth tests.square tree.places) (whole tree) [] in
      let cells : sum_by (place_worth tests.square tree.places) (run tree.places.codes n 0)
      ≡ place_reads * length (filter (cell_passes tests.square tree.places) (all_places tree.places)) =
      sum_by_if place_reads (cell_passes tests.square tree.places) (run tree.places.codes n 0)
      ∙ ap (λ xs. place_reads * length (filter (cell_passes tests.square tree.places) xs)) all in
      record {
        left = rw (same, low, high, pending, all)
            (ap (filter (place_passes tests tree.places)) (append-nil (all_places tree.places)));
        reads = rw (same, low, high, pending, test) (omega (arith, one, cells, own));
      }

  -- a walk whose first node is the grid's, where there is a place and the grid passes, is at its beginning
  pub begun : (found : Option NodeRef)
      → IfNone found ((tree.places.codes ≡ []) ⊎ (tests.square (node n 0) ≡ false))
      → IfSome found (λ ref. 0 < length tree.places.codes) → IfSome found (λ ref. tests.square (node n 0) ≡ true)
      → IfNone found (walk.pending ≡ []) → IfSome found (λ ref. walk.pending ≡ whole tree ∷ [])
      → IsBegun tests tree.places walk
  begun None (inl empty) some holds none pending =
      nothing none (ap (λ codes. filter (place_passes tests tree.places) (range_with_len 0 (length codes))) empty)
  begun None (inr fails) some holds none pending =
      nothing none (ap (filter (place_passes tests tree.places)) (sym all)
      ∙ skipped-square tests mono tree.places n 0 few are fails)
  begun (Some root) reason some holds none pending = something pending some holds
