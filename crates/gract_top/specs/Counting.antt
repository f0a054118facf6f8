-- Which device an outcome says that counted a fault.
use Rattle.std.specs.Prelude.{◌≡◌, ◌≢◌, ◌+◌, ◌≤◌}
use Rattle.host_ports.specs.Faults.{Rose}
use Rattle.host_ports.specs.FilesState.{FilesState}
use Rattle.host_ports.specs.declared.sink.Sink.{Ghosts as OfSink}
use Rattle.host_ports.specs.declared.source.Source.{Ghosts as OfSource}
use Rattle.track_types.specs.Limits.{limit_of}
use Rattle.track_types.specs.declared.limit.LimitKind.TheVariants as limit
use Rattle.gract_top.specs.declared.outcome.Outcome.{Outcome}
use Rattle.gract_top.specs.declared.outcome.Outcome.TheVariants as outcome

-- Of files only that count changed which the outcome names, and the one of loads does not fall.
pub record CountsFiles (result : Outcome) (before now : FilesState) : Type 0 where
  pub load_faults : before.load_faults ≤ now.load_faults
  pub load_untouched : result ≢ outcome.LoadFailed → now.load_faults ≡ before.load_faults
  pub save_cause : result ≡ outcome.SaveFailed → Rose before.save_faults now.save_faults
  pub save_untouched : result ≢ outcome.SaveFailed → now.save_faults ≡ before.save_faults

-- Of source and sink only that one counted a fault which the outcome names. Of the questions at most one byte beyond
-- their limit is asked for.
pub record CountsTalk {S K : Type 0} (s : OfSource S) (k : OfSink K) (result : Outcome) (source_before source_now : S)
    (sink_before sink_now : K) : Type 0 where
  pub listen_cause : result ≡ outcome.ListenFailed → Rose (s.faults source_before) (s.faults source_now)
  pub listen_untouched : result ≢ outcome.ListenFailed → s.faults source_now ≡ s.faults source_before
  pub say_cause : result ≡ outcome.SayFailed → Rose (k.faults sink_before) (k.faults sink_now)
  pub say_untouched : result ≢ outcome.SayFailed → k.faults sink_now ≡ k.faults sink_before
  pub within : s.taken source_now ≤ s.taken source_before + (limit_of limit.Questions + 1)
