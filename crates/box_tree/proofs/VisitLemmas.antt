-- Walks over places: what a node that is visited, and a place that is looked at, change.
use Rattle.std.proofs.Common.{◌≡◌, ℕ, suc, ◌+◌, ◌-◌, ◌<◌, ◌≤◌, true, false, ◌∷◌, filter, refl, []}
use Rattle.std.proofs.Common.{arith}
use Rattle.box_tree.specs.Places.{Places, Square, square_worth, place_passes, square_places}
use Rattle.box_tree.specs.Tests.{Tests}
use Rattle.box_tree.specs.Walk.{IsVisited, NodeWalkView, places_left, walk_reads}
use Rattle.box_tree.proofs.NodeLemmas.{squares_in-own}

-- a node in which nothing passes is skipped
pub skipped : (tests : Tests) (walk : NodeWalkView) (square : Square) (begun steps : ℕ)
    → filter (place_passes tests walk.tree.places) (square_places walk.tree.places square) ≡ [] → steps ≤ begun + 3
    → IsVisited tests walk walk square begun steps
unfolding square_worth
skipped tests walk square begun steps none paid = record {
  tree = refl;
  left = rw none refl;
  reads = omega arith;
  turns = let own = squares_in-own (λ _. true) walk.tree.places.codes square.levels square.prefix refl in omega arith;
}

module _ (tests : Tests) (old new : NodeWalkView) (tree : new.tree ≡ old.tree) where
  abbrev its : Places
  its = old.tree.places

  -- the next place of the bucket is taken off
  module _ (some : old.low < old.high) (low : new.low ≡ old.low + 1) (high : new.high ≡ old.high)
      (pending : new.pending ≡ old.pending) where
    more : old.high - old.low ≡ suc (old.high - (old.low + 1))
    more = omega arith

    pub left-kept : place_passes tests its old.low ≡ true → places_left tests old ≡ old.low ∷ places_left tests new
    left-kept holds = rw (tree, low, high, pending, more, holds) refl

    pub left-passed : place_passes tests its old.low ≡ false → places_left tests old ≡ places_left tests new
    left-passed fails = rw (tree, low, high, pending, more, fails) refl

    pub reads-place : walk_reads tests.square new + 3 ≡ walk_reads tests.square old
    reads-place = rw (tree, low, high, pending) (omega (arith, more))
