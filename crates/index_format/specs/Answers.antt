-- What a function that reads may answer: what reading gives, or that memory was refused.
use Rattle.std.specs.Prelude.{◌≡◌, Bool, List, Result, Ok, Err}
use Rattle.track_types.specs.declared.flaw.Flaw.{Flaw}
use Rattle.track_types.specs.declared.format_fault.FormatFault.{FormatFault}
use Rattle.track_types.specs.declared.format_fault.FormatFault.TheVariants as fault

-- a flaw is that of the reading; memory may be wanting for any bytes
abbrev pub IsFormatFault : {Y : Type 0} → Result Y Flaw → FormatFault → Type 0
IsFormatFault read (fault.Flaw flaw) = read ≡ Err flaw
IsFormatFault read fault.Memory = Unit {0}

-- what was answered, seen by view, is what reading gives, unless memory was refused
abbrev pub Gives : {X Y : Type 0} → (X → Y) → Result X FormatFault → Result Y Flaw → Type 0
Gives view (Ok x) read = read ≡ Ok (view x)
Gives view (Err fault) read = IsFormatFault read fault

-- what was answered, seen by view, and the bits that are left are what reading gives, unless memory was refused
abbrev pub GivesElement : {X Y : Type 0} → (X → Y) → Result X FormatFault → List Bool → Result (Y × List Bool) Flaw → Type 0
GivesElement view (Ok x) left read = read ≡ Ok (view x, left)
GivesElement view (Err fault) left read = IsFormatFault read fault
