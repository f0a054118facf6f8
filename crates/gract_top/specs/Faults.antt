-- The outcome of each fault by which a stage of a command ends.
use Rattle.std.specs.Prelude.{Result, Ok, Err}
use Rattle.track_types.specs.declared.format_fault.FormatFault.{FormatFault}
use Rattle.track_types.specs.declared.format_fault.FormatFault.TheVariants as format
use Rattle.track_types.specs.declared.limit.LimitKind.{LimitKind}
use Rattle.track_types.specs.declared.limit.LimitKind.TheVariants as limit
use Rattle.row_reader.specs.declared.fault.RowsFault.{RowsFault}
use Rattle.row_reader.specs.declared.fault.RowsFault.TheVariants as rows
use Rattle.question_shell.specs.declared.shell_fault.ShellFault.{ShellFault}
use Rattle.question_shell.specs.declared.shell_fault.ShellFault.TheVariants as shell
use Rattle.question_shell.specs.declared.turn_fault.TurnFault.{TurnFault}
use Rattle.question_shell.specs.declared.turn_fault.TurnFault.TheVariants as turn
use Rattle.gract_top.specs.Merging.{merge_outcome}
use Rattle.gract_top.specs.declared.fault.AskFault.{AskFault}
use Rattle.gract_top.specs.declared.fault.AskFault.TheVariants as ask
use Rattle.gract_top.specs.declared.fault.ChartFault.{ChartFault}
use Rattle.gract_top.specs.declared.fault.ChartFault.TheVariants as chart
use Rattle.gract_top.specs.declared.fault.IndexFault.{IndexFault}
use Rattle.gract_top.specs.declared.fault.IndexFault.TheVariants as index
use Rattle.gract_top.specs.declared.fault.LoadFault.{LoadFault}
use Rattle.gract_top.specs.declared.fault.LoadFault.TheVariants as load
use Rattle.gract_top.specs.declared.fault.SaveFault.{SaveFault}
use Rattle.gract_top.specs.declared.fault.SaveFault.TheVariants as save
use Rattle.gract_top.specs.declared.outcome.Outcome.{Outcome}
use Rattle.gract_top.specs.declared.outcome.Outcome.TheVariants as outcome

-- the outcome of a file that was not loaded, whose length has this limit
abbrev pub load_outcome : LimitKind → LoadFault → Outcome
load_outcome kind load.Failed = outcome.LoadFailed
load_outcome kind (load.Long value) = outcome.Limit kind value
load_outcome kind load.Memory = outcome.Memory

-- the outcome of a CSV file whose rows were not read
abbrev pub rows_outcome : RowsFault → Outcome
rows_outcome (rows.Row nth field fault) = outcome.Row nth field fault
rows_outcome (rows.Limit value) = outcome.Limit limit.Rows value
rows_outcome rows.Memory = outcome.Memory

-- the outcome of a CSV file that gave no chart
abbrev pub chart_outcome : ChartFault → Outcome
chart_outcome chart.LoadFailed = outcome.LoadFailed
chart_outcome (chart.Row nth field fault) = outcome.Row nth field fault
chart_outcome chart.Empty = outcome.Empty
chart_outcome (chart.Limit kind value) = outcome.Limit kind value
chart_outcome chart.Memory = outcome.Memory

-- the outcome of bytes that were not opened
abbrev pub format_outcome : FormatFault → Outcome
format_outcome (format.Flaw flaw) = outcome.Flaw flaw
format_outcome format.Memory = outcome.Memory

-- the outcome of an index file that was not opened
abbrev pub index_outcome : IndexFault → Outcome
index_outcome index.LoadFailed = outcome.LoadFailed
index_outcome (index.Long value) = outcome.Limit limit.Index value
index_outcome (index.Flaw flaw) = outcome.Flaw flaw
index_outcome index.Memory = outcome.Memory

-- the outcome of a talk that was cut off
abbrev pub shell_outcome : ShellFault → Outcome
shell_outcome shell.Listen = outcome.ListenFailed
shell_outcome shell.Say = outcome.SayFailed
shell_outcome (shell.Limit value) = outcome.Limit limit.Questions value
shell_outcome shell.Memory = outcome.Memory

-- the outcome of a reply that was cut off
abbrev pub turn_outcome : TurnFault → Outcome
turn_outcome turn.Say = outcome.SayFailed
turn_outcome turn.Memory = outcome.Memory

-- the outcome of a command that saves, where nothing was
abbrev pub save_outcome : SaveFault → Outcome
save_outcome (save.Chart fault) = chart_outcome fault
save_outcome (save.Index fault) = index_outcome fault
save_outcome (save.Merge fault) = merge_outcome fault
save_outcome save.Failed = outcome.SaveFailed

-- the outcome of a command that answers questions or says a summary, where it did not do all of that
abbrev pub ask_outcome : AskFault → Outcome
ask_outcome (ask.Chart fault) = chart_outcome fault
ask_outcome (ask.Index fault) = index_outcome fault
ask_outcome (ask.Talk fault) = shell_outcome fault

-- the outcome of what is done or has a fault
abbrev pub ended : {E : Type 0} → (E → Outcome) → Result (Unit {0}) E → Outcome
ended outcome_of (Ok done) = outcome.Done
ended outcome_of (Err fault) = outcome_of fault
