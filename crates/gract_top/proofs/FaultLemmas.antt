-- What the type of a fault tells of the outcome, and that a command whose devices count nothing names none.
use Rattle.std.proofs.Common.{◌≡◌, ◌≢◌, ℕ, Result, arith}
use Rattle.host_ports.specs.Meanings.{files_at}
use Rattle.host_ports.specs.declared.files.Files.{Ghosts as OfFiles}
use Rattle.host_ports.specs.declared.sink.Sink.{Ghosts as OfSink}
use Rattle.host_ports.specs.declared.source.Source.{Ghosts as OfSource}
use Rattle.gract_top.specs.Completeness.{IsCalm}
use Rattle.gract_top.specs.Counting.{CountsFiles, CountsTalk}
use Rattle.gract_top.specs.Faults.{ask_outcome, ended, save_outcome}
use Rattle.gract_top.specs.declared.fault.AskFault.{AskFault}
use Rattle.gract_top.specs.declared.fault.SaveFault.{SaveFault}
use Rattle.gract_top.specs.declared.outcome.Outcome.TheVariants as outcome
use Rattle.gract_top.proofs.CompletenessLemmas.{IsUntroubled}

module _ (end : Result (Unit {0}) AskFault) where
  pub ask-words : (place : ℕ) → ended ask_outcome end ≢ outcome.Words place
  ask-words place is = grind (arith)

  pub ask-unsaved : ended ask_outcome end ≢ outcome.SaveFailed
  ask-unsaved is = grind (arith)

module _ (end : Result (Unit {0}) SaveFault) where
  pub save-words : (place : ℕ) → ended save_outcome end ≢ outcome.Words place
  save-words place is = grind (arith)

  pub save-unheard : ended save_outcome end ≢ outcome.ListenFailed
  save-unheard is = grind (arith)

  pub save-unsaid : ended save_outcome end ≢ outcome.SayFailed
  save-unsaid is = grind (arith)

module _ {F S K : Type 0} (f : OfFiles F) (s : OfSource S) (k : OfSink K) (files_before files_now : F)
    (source_before source_now : S) (sink_before sink_now : K)
    (calm : IsCalm f s k files_before files_now source_before source_now sink_before sink_now)
  where
    pub ask-untroubled : (end : Result (Unit {0}) AskFault) →
        CountsTalk s k (ended ask_outcome end) source_before source_now sink_before sink_now →
        IsUntroubled (ended ask_outcome end)
    ask-untroubled end talk = record {
      words = ask-words end;
      save = ask-unsaved end;
      listen = λ is. calm.listen (talk.listen_cause is);
      say = λ is. calm.say (talk.say_cause is);
    }

    pub save-untroubled : (end : Result (Unit {0}) SaveFault) →
        CountsFiles (ended save_outcome end) (files_at f files_before) (files_at f files_now) →
        IsUntroubled (ended save_outcome end)
    save-untroubled end counts = record {
      words = save-words end;
      save = λ is. calm.save (counts.save_cause is);
      listen = save-unheard end;
      say = save-unsaid end;
    }
