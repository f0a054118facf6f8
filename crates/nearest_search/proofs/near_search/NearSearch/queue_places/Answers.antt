use Rattle.std.proofs.Common.{◌-◌, arith}
use Rattle.std.specs.BinaryHeap.{heap_items}
use Rattle.nearest_search.specs.Seeking.{quest_of}
use Rattle.nearest_search.proofs.OpenedLemmas.{filling-first, filling-last, filling-more}
use Rattle.nearest_search.proofs.near_search.NearSearch.queue_places.Goals as goal

pub loop-place-init : goal.loop-place-init
loop-place-init g c =
    filling-first (quest_of c.args.self.now) c.args.low c.args.high (heap_items c.args.queue.now.heap) c.args.steps.now

pub loop-place-preserved : goal.loop-place-preserved
loop-place-preserved g c =
    filling-more (quest_of c.args.self.now) c.args.low c.args.high (heap_items c.args.queue.now.heap) c.args.steps.now
    c.loop-place.place c.loop-place.steps (heap_items c.loop-place.queue.heap) c.loop-place.invariant
    (c.loop-place.place - 1) (heap_items c.queue_place.new.queue.heap) c.queue_place.new.steps (omega arith) (omega arith)
    c.in_ok-queue_place.ensures.queued c.queue_place.ensures.cost

pub returns-in_err-queue_place-clause-cost : goal.returns-in_err-queue_place-clause-cost
returns-in_err-queue_place-clause-cost g c =
    omega (arith, c.loop-place.invariant.reads, c.loop-place.invariant.below, c.queue_place.ensures.cost)

pub returns-clause-added : goal.returns-clause-added
returns-clause-added g c =
    filling-last (quest_of c.args.self.now) c.args.low c.args.high (heap_items c.args.queue.now.heap) c.args.steps.now
    c.loop-place.place c.loop-place.steps (heap_items c.loop-place.queue.heap) c.loop-place.invariant (omega arith)

pub returns-clause-cost : goal.returns-clause-cost
returns-clause-cost g c =
    omega (arith, c.loop-place.invariant.reads, c.loop-place.invariant.above, c.loop-place.invariant.below)
