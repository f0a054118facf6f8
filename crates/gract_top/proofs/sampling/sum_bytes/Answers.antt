use Rattle.std.proofs.Common.{◌≡◌, inr, arith}
use Rattle.gract_top.specs.Faults.{ended, turn_outcome}
use Rattle.gract_top.specs.Sampling.{SumsOver, speech}
use Rattle.gract_top.proofs.SamplingLemmas.{SinkCounts-said, SumsOver-opened, SumsOver-same}
use Rattle.gract_top.proofs.sampling.sum_bytes.Given.{Over}
use Rattle.gract_top.proofs.sampling.sum_bytes.Goals as goal
use Rattle.gract_top.proofs.sampling.sum_bytes.Goals.{After-say_summary}

-- the summary of what was opened was said, or a front of it
sums : (g : Over) (c : After-say_summary g) →
    SumsOver (ended turn_outcome c.say_summary.result) c.in_ok-index.index c.args.instants
    (speech (g.K.Sink.said c.args.sink.now) c.args.steps.now)
    (speech (g.K.Sink.said c.say_summary.new.sink) c.say_summary.new.steps)
sums g c =
    SumsOver-opened c.say_summary.result c.args.instants _ _ c.new.result.view.index.now c.in_ok-index.index
    c.open_bytes.new.steps c.new.ensures (omega (arith, c.in_ok-index.ensures.cost, c.in_ok-index.ensures.cost_opened))
    c.say_summary.ensures.ok c.say_summary.ensures.err c.say_summary.ensures.cost

pub returns-clause-ended : goal.returns-clause-ended
returns-clause-ended g c = rw c.end_of_summary.ensures
    (inr (record {
      parts = c.in_ok-index.index;
      file = c.in_ok-index.ensures.ok;
      sums = sums g (goal.at.returns-clause-ended g c).After-say_summary;
    }))

pub returns-clause-decides : goal.returns-clause-decides
returns-clause-decides g c = λ parts file.
    let is = c.in_ok-index.ensures.decides parts file in
    let same : c.in_ok-index.index ≡ parts = cc in
    rw c.end_of_summary.ensures
    (inr (SumsOver-same _ _ _ _ c.in_ok-index.index parts same
    (sums g (goal.at.returns-clause-decides g c).After-say_summary)))

pub returns-clause-say_faults : goal.returns-clause-say_faults
returns-clause-say_faults g c =
    rw c.end_of_summary.ensures (SinkCounts-said g.K.Sink _ _ c.say_summary.result c.say_summary.ensures.faults)
