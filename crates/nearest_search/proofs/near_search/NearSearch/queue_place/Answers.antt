use Rattle.std.proofs.Common.{refl}
use Rattle.nearest_search.specs.declared.waiting.Waiting.TheVariants.{Place as AtPlace}
use Rattle.nearest_search.specs.Seeking.{quest_of}
use Rattle.nearest_search.proofs.ElementLemmas.{place-element}
use Rattle.nearest_search.proofs.near_search.NearSearch.queue_place.Goals as goal

pub returns-clause-queued : goal.returns-clause-queued
returns-clause-queued g c = record {
  element = record { key = c.key-key.result; waiting = AtPlace c.args.place };
  is = refl;
  its = place-element (quest_of c.args.self.now) c.requires.search.is c.key-key.result c.args.self.now.vantage.width
      c.place_box-area.result c.place_cell-cell.result c.key-key.ensures c.requires.search.width c.args.place
      c.requires.place c.place_box-area.ensures.value c.place_cell-cell.ensures.value;
  moved = c.in_ok-push.ensures;
}
