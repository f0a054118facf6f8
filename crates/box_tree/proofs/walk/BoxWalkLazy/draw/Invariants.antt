use Rattle.std.proofs.Common.{◌≡◌, ℕ, ◌+◌, ◌≤◌}
use Rattle.box_tree.specs.BoxWalk.{walk_tests}
use Rattle.box_tree.specs.Tests.{Tests}
use Rattle.box_tree.specs.Walk.{NodeWalkView, walk_turns, places_left, walk_reads}
use Rattle.box_tree.proofs.walk.BoxWalkLazy.draw.Given as goal

-- nodes were visited in which nothing was found: the same is left, for so many reads
pub record IsDrawing (tests : Tests) (first now : NodeWalkView) (begun steps : ℕ) : Type 0 where
  pub tree : now.tree ≡ first.tree
  pub left : places_left tests first ≡ places_left tests now
  pub reads : steps + walk_reads tests.square now ≤ begun + walk_reads tests.square first

abbrev pub invariant-loop-place : goal.invariant-loop-place
invariant-loop-place g l =
    (l.self.search ≡ l.fn.self.search)
    × IsDrawing (walk_tests g.S.Search.squares g.S.Search.boxes l.fn.self) l.fn.self.walk l.self.walk l.fn.steps l.steps

abbrev pub decreases-loop-place : goal.decreases-loop-place
decreases-loop-place g l = walk_turns l.self.walk
