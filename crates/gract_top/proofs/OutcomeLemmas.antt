-- How a call ends once there are bytes to open.
use Rattle.std.proofs.Common.{◌≡◌, ◌≢◌, ℕ, ◌≤◌, ◌+◌, false, Result, refl, subst, arith}
use Rattle.host_ports.specs.Counting.{SinkCounts}
use Rattle.host_ports.specs.declared.sink.Sink.{Ghosts as OfSink}
use Rattle.host_ports.specs.declared.source.Source.{Ghosts as OfSource}
use Rattle.question_shell.specs.Desk.{DeskView, empty_desk}
use Rattle.question_shell.specs.RunEnds.{AnswersRun, CountsRun}
use Rattle.question_shell.specs.Session.{Meaning}
use Rattle.question_shell.specs.declared.shell_fault.ShellFault.{ShellFault}
use Rattle.gract_top.specs.Counting.{CountsTalk}
use Rattle.gract_top.specs.Faults.{ended, shell_outcome}
use Rattle.gract_top.specs.Refusal.{is_early}
use Rattle.track_types.specs.declared.parts.Parts.{Parts}
use Rattle.snapshots.specs.IndexCost.{open_cost}
use Rattle.gract_top.specs.Outcome.{AnswersSource, AnswersOver, Talk, index_meaning, run_at}
use Rattle.gract_top.specs.declared.outcome.Outcome.{Outcome}
use Rattle.gract_top.specs.declared.outcome.Outcome.TheVariants as outcome

module _ (untouched : Type 0) (before now : Talk) where
  -- the lines were answered over an index that was opened
  pub AnswersOver-opened : (result : Outcome) (asked index : Parts) (opened : ℕ) →
      opened ≤ before.steps + open_cost index → asked ≡ index →
      AnswersSource result untouched (index_meaning asked) (record before { steps = opened }) now →
      AnswersOver result index untouched before now
  AnswersOver-opened result asked index opened cost same answers =
      let P : Parts → Type 0 = λ these.
      AnswersSource result untouched (index_meaning these) (record before { steps = opened }) now in
      record { opened = opened; cost = cost; answers = subst P same answers }

  -- what holds of parts holds of parts that are the same
  pub AnswersOver-same : (result : Outcome) (index parts : Parts) → index ≡ parts →
      AnswersOver result index untouched before now → AnswersOver result parts untouched before now
  AnswersOver-same result index parts same answers = grind (arith)

-- the lines of a source were answered as far as a talk went
pub AnswersSource-run : (talk : Result (Unit {0}) ShellFault) (untouched : Type 0) (meaning : Meaning) (before now : Talk)
    (desk : DeskView) → AnswersRun meaning talk (run_at before empty_desk) (run_at now desk) →
    AnswersSource (ended shell_outcome talk) untouched meaning before now
AnswersSource-run talk untouched meaning before now desk ran = record { desk = desk; answered = grind (arith) }

-- a talk counts the fault of the device that it names
pub CountsTalk-run : {S K : Type 0} (s : OfSource S) (k : OfSink K) (talk : Result (Unit {0}) ShellFault)
    (source_before source_now : S) (sink_before sink_now : K) →
    CountsRun s k talk source_before source_now sink_before sink_now →
    CountsTalk s k (ended shell_outcome talk) source_before source_now sink_before sink_now
CountsTalk-run s k talk source_before source_now sink_before sink_now ran = grind (arith)

-- one that listened to nothing counts what its sink did
pub CountsTalk-unheard : {S K : Type 0} (s : OfSource S) (k : OfSink K) (result : Outcome) (source : S)
    (sink_before sink_now : K) → result ≢ outcome.ListenFailed →
    SinkCounts k sink_before sink_now (result ≡ outcome.SayFailed) →
    CountsTalk s k result source source sink_before sink_now
CountsTalk-unheard s k result source sink_before sink_now unheard counts = record {
  listen_cause = λ is. absurd (unheard is);
  listen_untouched = λ _. refl;
  say_cause = counts.cause;
  say_untouched = counts.untouched;
  within = omega arith;
}

-- a talk decides nothing that comes before it
pub ended-late : (talk : Result (Unit {0}) ShellFault) → is_early (ended shell_outcome talk) ≡ false
ended-late talk = grind (arith)

-- and saves nothing
pub ended-unsaved : (talk : Result (Unit {0}) ShellFault) → ended shell_outcome talk ≢ outcome.SaveFailed
ended-unsaved talk is = grind (arith)
