use Rattle.std.proofs.Common.{◌≡◌, ◌∙◌, ap, arith, length, refl}
use Rattle.movement_log.specs.Logs.{alphabet_of, logs_of}
use Rattle.movement_log.specs.declared.raw_logs.JoinedLogs.{JoinedLogs}
use Rattle.repair_grammar.specs.Blocks.{joined_grammar, split_by}
use Rattle.repair_grammar.specs.RePair.{re_pair}
use Rattle.repair_grammar.proofs.BlockLemmas.{split_by-joined, sum-joined}
use Rattle.track_types.specs.Chart.{ChartView}
use Rattle.chart_parts.specs.Cut.{AreLogsOf}
use Rattle.chart_parts.specs.PartsOf.{grammar_of}
use Rattle.chart_parts.proofs.GrammarLemmas.{AreBelow-terminals, few_terminals, length-alphabet_of}
use Rattle.chart_parts.proofs.writing.blocks_of.Goals as goal
use Rattle.chart_parts.proofs.writing.blocks_of.Goals.{After-as_slice}

-- the alphabet that is read is the chart's
alphabet_is : (c : After-as_slice) → c.as_slice.result.now ≡ (logs_of c.requires.0).alphabet
alphabet_is c = c.as_slice.ensures ∙ ap (λ raw. raw.alphabet) c.requires.1.logs

-- the terminals come apart to those of the chart's logs
terminals_are : (raw : JoinedLogs) (chart : ChartView) → AreLogsOf chart raw → split_by raw.lengths raw.terminals ≡ (logs_of chart).terminals
terminals_are raw chart are = ap (λ raw. split_by raw.lengths raw.terminals) are.logs ∙ split_by-joined (logs_of chart).terminals

pub overflow_cast-size : goal.overflow_cast-size
unfolding logs_of
overflow_cast-size c =
    let alphabet : c.as_slice.result.now ≡ alphabet_of c.requires.0 = alphabet_is (goal.at.overflow_cast-size c).After-as_slice in
    record { fits = omega (arith, ap length alphabet, length-alphabet_of c.requires.0 c.requires.1.is) }

pub compress_joined-requires-clause-whole : goal.compress_joined-requires-clause-whole
compress_joined-requires-clause-whole c =
    rw (ap (λ raw. raw.lengths) c.requires.1.logs, ap (λ raw. raw.terminals) c.requires.1.logs)
    (sum-joined (logs_of c.requires.0).terminals)

pub compress_joined-requires-clause-below : goal.compress_joined-requires-clause-below
compress_joined-requires-clause-below c =
    let alphabet = alphabet_is (goal.at.compress_joined-requires-clause-below c).After-as_slice in
    rw (alphabet, terminals_are c.args.raw c.requires.0 c.requires.1) (AreBelow-terminals c.requires.0)

pub compress_joined-requires-clause-few : goal.compress_joined-requires-clause-few
compress_joined-requires-clause-few c =
    rw (terminals_are c.args.raw c.requires.0 c.requires.1) (few_terminals c.requires.0 c.requires.1.is)

pub compress_joined-requires-clause-small : goal.compress_joined-requires-clause-small
unfolding logs_of
compress_joined-requires-clause-small c =
    let alphabet : c.as_slice.result.now ≡ alphabet_of c.requires.0 =
    alphabet_is (goal.at.compress_joined-requires-clause-small c).After-as_slice in
    omega (arith, ap length alphabet, length-alphabet_of c.requires.0 c.requires.1.is)

pub returns : goal.returns
unfolding grammar_of
returns c chart is =
    let alphabet : c.as_slice.result.now ≡ (logs_of chart).alphabet =
    c.as_slice.ensures ∙ ap (λ raw. raw.alphabet) is.logs in
    let grammar : c.in_ok-rules.field-0 ≡ joined_grammar (re_pair (length (logs_of chart).alphabet) (logs_of chart).terminals) =
    rw (alphabet, terminals_are c.args.raw chart is) at c.in_ok-rules.ensures.ok in
    rw (
      ap (λ raw. raw.alphabet) is.logs,
      ap (λ raw. raw.heads) is.logs,
      ap (λ all. all.rules) grammar,
      ap (λ all. all.blocks) grammar,
    ) refl
