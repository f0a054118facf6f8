use Rattle.std.specs.BinaryHeap.{heap_items}
use Rattle.nearest_search.specs.Seeking.{quest_of, sum_waiting, waiting_turns, AreSeeking}
use Rattle.nearest_search.proofs.near_search.NearSearch.nearest.Given as goal

abbrev pub invariant-loop-taken : goal.invariant-loop-taken
invariant-loop-taken g l =
    AreSeeking (quest_of l.self) l.count l.fn.steps (heap_items l.queue.heap) l.closest l.steps

abbrev pub decreases-loop-taken : goal.decreases-loop-taken
decreases-loop-taken g l = sum_waiting (waiting_turns (quest_of l.self)) (heap_items l.queue.heap)
