-- How a run ends: what was answered, and which device counted a fault.
use Rattle.std.specs.Prelude.{◌≡◌, ◌≢◌, ℕ, ◌+◌, ◌≤◌, ⊤, Result, Ok, Err, OnOk}
use Rattle.host_ports.specs.Faults.{Rose}
use Rattle.host_ports.specs.declared.sink.Sink.{Ghosts as OfSink}
use Rattle.host_ports.specs.declared.source.Source.{Ghosts as OfSource}
use Rattle.track_types.specs.Limits.{limit_of}
use Rattle.track_types.specs.declared.limit.LimitKind.TheVariants.{Questions}
use Rattle.question_shell.specs.Session.{AnswersAll, AnswersBefore, AnswersFirst, AnswersFront, AnswersWhole, Meaning, Run}
use Rattle.question_shell.specs.declared.shell_fault.ShellFault.{ShellFault}
use Rattle.question_shell.specs.declared.shell_fault.ShellFault.TheVariants as shell
use Rattle.question_shell.specs.declared.turn_fault.TurnFault.{TurnFault}
use Rattle.question_shell.specs.declared.turn_fault.TurnFault.TheVariants as turn

-- the fault of a run in which an answer had this one
abbrev pub fault_of_turn : TurnFault → ShellFault
fault_of_turn turn.Say = shell.Say
fault_of_turn turn.Memory = shell.Memory

-- What a run answered, by its result: all lines, the whole ones that came, a front of the replies, those within the
-- limit, or those before one that takes memory.
pub record AnswersRun (meaning : Meaning) (result : Result (Unit {0}) ShellFault) (before now : Run) : Type 0 where
  pub ok : OnOk result (AnswersAll meaning before now)
  pub listen : result ≡ Err shell.Listen → AnswersWhole meaning before now
  pub say : result ≡ Err shell.Say → AnswersFront meaning before now
  pub limit : (value : ℕ) → result ≡ Err (shell.Limit value) →
      (value ≡ limit_of Questions + 1) × AnswersFirst meaning before now
  pub memory : result ≡ Err shell.Memory → AnswersBefore meaning before now

-- an answer that names no device: all was answered, too many bytes came, or memory was refused
abbrev pub NamesNoDevice : Result (Unit {0}) ShellFault → Type 0
NamesNoDevice (Ok done) = ⊤
NamesNoDevice (Err shell.Listen) = ⊥
NamesNoDevice (Err shell.Say) = ⊥
NamesNoDevice (Err (shell.Limit value)) = ⊤
NamesNoDevice (Err shell.Memory) = ⊤

-- Of source and sink only that one counted a fault which the result of a run names, and where none did, it names none.
-- At most one byte beyond the limit is asked for.
pub record CountsRun {S K : Type 0} (s : OfSource S) (k : OfSink K) (result : Result (Unit {0}) ShellFault)
    (source_before source_now : S) (sink_before sink_now : K) : Type 0 where
  pub listen_cause : result ≡ Err shell.Listen → Rose (s.faults source_before) (s.faults source_now)
  pub listen_untouched : result ≢ Err shell.Listen → s.faults source_now ≡ s.faults source_before
  pub listen_faults : s.faults source_before ≤ s.faults source_now
  pub say_cause : result ≡ Err shell.Say → Rose (k.faults sink_before) (k.faults sink_now)
  pub say_untouched : result ≢ Err shell.Say → k.faults sink_now ≡ k.faults sink_before
  pub say_faults : k.faults sink_before ≤ k.faults sink_now
  pub complete : (Rose (s.faults source_before) (s.faults source_now) → ⊥) →
      (Rose (k.faults sink_before) (k.faults sink_now) → ⊥) → NamesNoDevice result
  pub within : s.taken source_now ≤ s.taken source_before + (limit_of Questions + 1)
