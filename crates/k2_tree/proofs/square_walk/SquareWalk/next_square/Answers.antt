use Rattle.k2_tree.proofs.WalkLemmas.{length-walk}
use Rattle.k2_tree.proofs.square_walk.SquareWalk.next_square.Goals as goal

pub next_child-requires : goal.next_child-requires
next_child-requires c = record { fits = length-walk c.self.invariant }
