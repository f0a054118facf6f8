use Rattle.std.proofs.Common.{length}
use Rattle.std.specs.BinaryHeap.{heap_items}
use Rattle.nearest_search.specs.Seeking.{quest_of}
use Rattle.nearest_search.proofs.OpenedLemmas.{AreMoving}
use Rattle.nearest_search.proofs.near_search.NearSearch.queue_nodes.Given as goal

abbrev pub invariant-loop-node : goal.invariant-loop-node
invariant-loop-node g l = AreMoving (quest_of l.self) l.fn.nodes.items l.nodes.items (heap_items l.fn.queue.heap)
    (heap_items l.queue.heap) l.fn.steps l.steps

abbrev pub decreases-loop-node : goal.decreases-loop-node
decreases-loop-node g l = length l.nodes.items
