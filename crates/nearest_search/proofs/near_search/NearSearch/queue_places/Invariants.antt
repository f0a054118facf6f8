use Rattle.std.specs.BinaryHeap.{heap_items}
use Rattle.nearest_search.specs.Seeking.{quest_of}
use Rattle.nearest_search.proofs.OpenedLemmas.{AreFilling}
use Rattle.nearest_search.proofs.near_search.NearSearch.queue_places.Given as goal

abbrev pub invariant-loop-place : goal.invariant-loop-place
invariant-loop-place g l = AreFilling (quest_of l.self) l.low l.high l.place (heap_items l.fn.queue.heap)
    (heap_items l.queue.heap) l.fn.steps l.steps
