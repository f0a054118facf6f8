use Rattle.std.proofs.Common.{List, sym, subst, arith}
use Rattle.nearest_search.specs.declared.waiting.Element.{Element}
use Rattle.nearest_search.specs.declared.waiting.Waiting.TheVariants.{Node as AtNode}
use Rattle.nearest_search.specs.Seeking.{quest_of, AreSeeking, IsQueued}
use Rattle.nearest_search.proofs.SearchLemmas.{root-cost, seeking-first, seeking-none}
use Rattle.std.specs.BinaryHeap.{heap_items}
use Rattle.nearest_search.proofs.near_search.NearSearch.begin.Goals as goal

pub returns-in_default-clause-seeking : goal.returns-in_default-clause-seeking
returns-in_default-clause-seeking g c = λ count closest some wanted none.
    let quest = quest_of c.args.self.now in
    subst (λ (es : List Element). AreSeeking quest count c.args.steps.now es closest c.args.steps.now)
    (sym c.new-queue.ensures)
    (seeking-none quest c.requires.search.is count some c.args.steps.now c.args.steps.now closest c.in_default.ensures.none
    wanted none (omega arith))

pub returns-in_err-queue_node-clause-cost : goal.returns-in_err-queue_node-clause-cost
returns-in_err-queue_node-clause-cost g c = λ count some.
    root-cost (quest_of c.args.self.now) c.requires.search.is count some c.in-Some.root c.in-Some.ensures.node
    c.in-Some.ensures.whole c.in-Some.ensures.some c.args.steps.now c.queue_node.new.steps c.queue_node.ensures.cost

pub returns-clause-cost : goal.returns-clause-cost
returns-clause-cost g c = λ count some.
    root-cost (quest_of c.args.self.now) c.requires.search.is count some c.in-Some.root c.in-Some.ensures.node
    c.in-Some.ensures.whole c.in-Some.ensures.some c.args.steps.now c.queue_node.new.steps c.queue_node.ensures.cost

pub returns-clause-seeking : goal.returns-clause-seeking
returns-clause-seeking g c = λ count closest some wanted none.
    let quest = quest_of c.args.self.now in
    seeking-first quest c.requires.search.is count some c.in-Some.root c.in-Some.ensures.node
    c.in-Some.ensures.whole c.in-Some.ensures.some c.args.steps.now c.queue_node.new.steps
    (heap_items c.queue_node.new.queue.heap) closest
    (subst (λ (es : List Element). IsQueued quest (AtNode c.in-Some.root) es (heap_items c.queue_node.new.queue.heap))
    c.new-queue.ensures c.in_ok-queue_node.ensures.queued) wanted none c.queue_node.ensures.cost
