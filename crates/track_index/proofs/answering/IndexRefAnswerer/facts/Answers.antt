use Rattle.std.proofs.Common.{rules}
use Rattle.track_index.specs.Facts.{facts_of}
use Rattle.object_track.proofs.TableLemmas.{IsTable-chart_in}
use Rattle.track_index.proofs.answering.IndexRefAnswerer.facts.Goals as goal

pub returns-clause-value : goal.returns-clause-value
unfolding facts_of
returns-clause-value c = search rules

pub returns-clause-table : goal.returns-clause-table
returns-clause-table c = IsTable-chart_in c.args.self.index.now c.stores-stores.ensures.valid
