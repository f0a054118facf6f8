use Rattle.std.proofs.Common.{◌≡◌, ℕ, ◌+◌, ◌-◌, ◌≤◌}
use Rattle.box_tree.specs.BoxWalk.{walk_tests}
use Rattle.box_tree.specs.Tests.{Tests}
use Rattle.box_tree.specs.Walk.{NodeWalkView, places_left, walk_reads}
use Rattle.box_tree.proofs.walk.BoxWalk.scan.Given as goal

-- places of the bucket that do not pass were passed over
pub record IsScanning (tests : Tests) (old now : NodeWalkView) (begun steps : ℕ) : Type 0 where
  pub tree : now.tree ≡ old.tree
  pub pending : now.pending ≡ old.pending
  pub left : places_left tests old ≡ places_left tests now
  pub reads : steps + walk_reads tests.square now ≤ begun + walk_reads tests.square old

abbrev pub invariant-loop-place : goal.invariant-loop-place
invariant-loop-place g l =
    (l.self.search ≡ l.fn.self.search)
    × IsScanning (walk_tests g.S.Search.squares g.S.Search.boxes l.fn.self) l.fn.self.walk l.self.walk l.fn.steps l.steps

abbrev pub decreases-loop-place : goal.decreases-loop-place
decreases-loop-place g l = l.self.walk.high - l.self.walk.low
