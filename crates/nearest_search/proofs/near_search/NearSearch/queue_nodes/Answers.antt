use Rattle.std.proofs.Common.{◌≡◌, [], length, arith}
use Rattle.std.proofs.lemmas.List.{nil_from_length}
use Rattle.std.specs.BinaryHeap.{heap_items}
use Rattle.nearest_search.specs.Seeking.{quest_of}
use Rattle.nearest_search.proofs.KeptLemmas.{at-most-none}
use Rattle.nearest_search.proofs.OpenedLemmas.{moving-count, moving-last, moving-more}
use Rattle.nearest_search.proofs.near_search.NearSearch.queue_nodes.Goals as goal
use Rattle.nearest_search.proofs.near_search.NearSearch.queue_nodes.Goals.{In_default}
use Rattle.nearest_search.proofs.near_search.NearSearch.queue_nodes.Given.{Over}

pub loop-node-preserved : goal.loop-node-preserved
loop-node-preserved g c =
    moving-more (quest_of c.args.self.now) c.args.nodes.now.items c.loop-node.nodes.items c.pop.new.self.items
    c.in-Some.node (heap_items c.args.queue.now.heap) (heap_items c.loop-node.queue.heap) c.args.steps.now
    c.loop-node.steps c.in-Some.ensures.items c.loop-node.invariant (heap_items c.queue_node.new.queue.heap)
    c.queue_node.new.steps c.in_ok-queue_node.ensures.queued c.queue_node.ensures.cost

pub returns-in_err-queue_node-clause-cost : goal.returns-in_err-queue_node-clause-cost
returns-in_err-queue_node-clause-cost g c =
    let few = moving-count (quest_of c.args.self.now) c.args.nodes.now.items c.loop-node.nodes.items c.pop.new.self.items
    c.in-Some.node (heap_items c.args.queue.now.heap) (heap_items c.loop-node.queue.heap) c.args.steps.now
    c.loop-node.steps c.in-Some.ensures.items c.loop-node.invariant in
    omega (arith, few, c.loop-node.invariant.reads, c.queue_node.ensures.cost)

-- no node is left
none-left : (g : Over) (c : In_default g) → c.loop-node.nodes.items ≡ []
none-left g c =
    let empty = at-most-none (length c.loop-node.nodes.items) (λ low. c.in_default.ensures.variant.1 low) in
    nil_from_length c.loop-node.nodes.items (omega (arith, empty))

pub returns-clause-added : goal.returns-clause-added
returns-clause-added g c =
    (moving-last (quest_of c.args.self.now) c.args.nodes.now.items c.loop-node.nodes.items (heap_items c.args.queue.now.heap)
    (heap_items c.loop-node.queue.heap) c.args.steps.now c.loop-node.steps c.loop-node.invariant (none-left g c)).0

pub returns-clause-cost : goal.returns-clause-cost
returns-clause-cost g c =
    (moving-last (quest_of c.args.self.now) c.args.nodes.now.items c.loop-node.nodes.items (heap_items c.args.queue.now.heap)
    (heap_items c.loop-node.queue.heap) c.args.steps.now c.loop-node.steps c.loop-node.invariant (none-left g c)).1
