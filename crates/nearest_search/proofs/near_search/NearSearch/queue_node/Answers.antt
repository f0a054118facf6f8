use Rattle.std.proofs.Common.{refl}
use Rattle.nearest_search.specs.declared.waiting.Waiting.TheVariants.{Node as AtNode}
use Rattle.nearest_search.specs.Seeking.{quest_of}
use Rattle.nearest_search.proofs.ElementLemmas.{node-element}
use Rattle.nearest_search.proofs.near_search.NearSearch.queue_node.Goals as goal

pub returns-clause-queued : goal.returns-clause-queued
returns-clause-queued g c = record {
  element = record { key = c.key-key.result; waiting = AtNode c.args.node };
  is = refl;
  its = node-element (quest_of c.args.self.now) c.requires.search.is c.key-key.result c.args.self.now.vantage.width
      c.area-area.result c.square-square.result c.key-key.ensures c.requires.search.width c.args.node c.requires.node
      c.square-square.ensures.value c.area-area.ensures.covers;
  moved = c.in_ok-push.ensures;
}
