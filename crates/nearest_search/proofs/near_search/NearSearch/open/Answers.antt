use Rattle.std.proofs.Common.{length, ap, arith}
use Rattle.std.specs.BinaryHeap.{heap_items}
use Rattle.box_tree.proofs.TreeLemmas.{child_limit-few}
use Rattle.nearest_search.specs.Seeking.{quest_of}
use Rattle.nearest_search.proofs.OpenedLemmas.{branch-opened, branch-paid, branch-pays, bucket-opened, bucket-paid, bucket-pays, bucket-within, children-of}
use Rattle.nearest_search.proofs.near_search.NearSearch.open.Goals as goal

pub queue_places-requires-clause-within : goal.queue_places-requires-clause-within
queue_places-requires-clause-within g c =
    bucket-within (quest_of c.args.self.now) c.requires.search.is c.args.node c.requires.node
    (heap_items c.args.queue.now.heap) (heap_items c.args.queue.now.heap) c.in-Bucket.low c.in-Bucket.high
    c.in-Bucket.ensures.kind

pub returns-in_err-queue_places-in-Bucket-clause-cost : goal.returns-in_err-queue_places-in-Bucket-clause-cost
returns-in_err-queue_places-in-Bucket-clause-cost g c = λ test holds.
    let pays = bucket-pays (quest_of c.args.self.now) c.requires.search.is c.args.node c.requires.node
    (heap_items c.args.queue.now.heap) (heap_items c.args.queue.now.heap) c.in-Bucket.low c.in-Bucket.high
    c.in-Bucket.ensures.kind test holds in
    omega (arith, pays, c.kind.ensures.cost, c.queue_places.ensures.cost)

pub returns-in_ok-queue_places-in-Bucket-clause-cost : goal.returns-in_ok-queue_places-in-Bucket-clause-cost
returns-in_ok-queue_places-in-Bucket-clause-cost g c = λ test holds.
    let pays = bucket-pays (quest_of c.args.self.now) c.requires.search.is c.args.node c.requires.node
    (heap_items c.args.queue.now.heap) (heap_items c.args.queue.now.heap) c.in-Bucket.low c.in-Bucket.high
    c.in-Bucket.ensures.kind test holds in
    omega (arith, pays, c.kind.ensures.cost, c.queue_places.ensures.cost)

pub returns-in_ok-queue_places-in-Bucket-clause-opened : goal.returns-in_ok-queue_places-in-Bucket-clause-opened
returns-in_ok-queue_places-in-Bucket-clause-opened g c =
    bucket-opened (quest_of c.args.self.now) c.requires.search.is c.args.node c.requires.node
    (heap_items c.args.queue.now.heap) (heap_items c.queue_places.new.queue.heap) c.in-Bucket.low c.in-Bucket.high
    c.in-Bucket.ensures.kind c.in_ok-queue_places-in-Bucket.ensures.added

pub returns-in_ok-queue_places-in-Bucket-clause-paid : goal.returns-in_ok-queue_places-in-Bucket-clause-paid
returns-in_ok-queue_places-in-Bucket-clause-paid g c =
    bucket-paid (quest_of c.args.self.now) c.requires.search.is c.args.node c.requires.node
    (heap_items c.args.queue.now.heap) (heap_items c.queue_places.new.queue.heap) c.in-Bucket.low c.in-Bucket.high
    c.in-Bucket.ensures.kind c.args.steps.now c.queue_places.new.steps c.in_ok-queue_places-in-Bucket.ensures.added
    (omega (arith, c.kind.ensures.cost, c.queue_places.ensures.cost))

pub push_children-requires-clause-room : goal.push_children-requires-clause-room
push_children-requires-clause-room g c =
    omega (
      arith,
      ap length c.new-children.ensures,
      child_limit-few c.args.self.now.kept.now.tree.narrow c.args.node.below,
    )

pub queue_nodes-requires-clause-nodes : goal.queue_nodes-requires-clause-nodes
queue_nodes-requires-clause-nodes g c =
    children-of (quest_of c.args.self.now) c.requires.search.is c.args.node c.requires.node
    (heap_items c.args.queue.now.heap) (heap_items c.args.queue.now.heap) c.new-children.result.items
    c.push_children.new.stack.items c.push_children.ensures.pushed c.new-children.ensures

pub returns-in_err-queue_nodes-in-Branch-clause-cost : goal.returns-in_err-queue_nodes-in-Branch-clause-cost
returns-in_err-queue_nodes-in-Branch-clause-cost g c = λ test holds.
    let pays = branch-pays (quest_of c.args.self.now) c.requires.search.is c.args.node c.requires.node
    (heap_items c.args.queue.now.heap) (heap_items c.args.queue.now.heap) c.new-children.result.items
    c.push_children.new.stack.items c.push_children.ensures.pushed c.new-children.ensures test holds in
    omega (arith, pays, c.kind.ensures.cost, c.queue_nodes.ensures.cost)

pub returns-in_ok-queue_nodes-in-Branch-clause-cost : goal.returns-in_ok-queue_nodes-in-Branch-clause-cost
returns-in_ok-queue_nodes-in-Branch-clause-cost g c = λ test holds.
    let pays = branch-pays (quest_of c.args.self.now) c.requires.search.is c.args.node c.requires.node
    (heap_items c.args.queue.now.heap) (heap_items c.args.queue.now.heap) c.new-children.result.items
    c.push_children.new.stack.items c.push_children.ensures.pushed c.new-children.ensures test holds in
    omega (arith, pays, c.kind.ensures.cost, c.queue_nodes.ensures.cost)

pub returns-in_ok-queue_nodes-in-Branch-clause-opened : goal.returns-in_ok-queue_nodes-in-Branch-clause-opened
returns-in_ok-queue_nodes-in-Branch-clause-opened g c =
    branch-opened (quest_of c.args.self.now) c.requires.search.is c.args.node c.requires.node
    (heap_items c.args.queue.now.heap) (heap_items c.queue_nodes.new.queue.heap) c.new-children.result.items
    c.push_children.new.stack.items c.push_children.ensures.pushed c.new-children.ensures
    c.in_ok-queue_nodes-in-Branch.ensures.added

pub returns-in_ok-queue_nodes-in-Branch-clause-paid : goal.returns-in_ok-queue_nodes-in-Branch-clause-paid
returns-in_ok-queue_nodes-in-Branch-clause-paid g c =
    branch-paid (quest_of c.args.self.now) c.requires.search.is c.args.node c.requires.node
    (heap_items c.args.queue.now.heap) (heap_items c.queue_nodes.new.queue.heap) c.new-children.result.items
    c.push_children.new.stack.items c.push_children.ensures.pushed c.new-children.ensures
    c.args.steps.now c.queue_nodes.new.steps c.in_ok-queue_nodes-in-Branch.ensures.added
    (omega (arith, c.kind.ensures.cost, c.queue_nodes.ensures.cost))
