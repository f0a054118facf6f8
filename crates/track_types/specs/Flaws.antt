-- A flaw, and the fault that has it.
use Rattle.std.specs.Prelude.{◌≡◌, ℕ, Option, None, Some, ⊤}
use Rattle.track_types.specs.declared.flaw.Flaw.{Flaw}
use Rattle.track_types.specs.declared.flaw.Kind.{Kind}
use Rattle.track_types.specs.declared.flaw.Section.{Section}
use Rattle.track_types.specs.declared.format_fault.FormatFault.{FormatFault}
use Rattle.track_types.specs.declared.format_fault.FormatFault.TheVariants as fault

-- the flaw of a section of a period, at a place
abbrev pub flaw_in : ℕ → Section → Kind → ℕ → Flaw
flaw_in number section kind index = record { section = section; period = number; index = index; kind = kind }

-- the flaw of a fault, and none where memory was refused
abbrev pub fault_flaw : FormatFault → Option Flaw
fault_flaw (fault.Flaw flaw) = Some flaw
fault_flaw fault.Memory = None

-- a fault is this flaw; memory may be wanting for any bytes
abbrev pub IsFormatFaultFor : Option Flaw → FormatFault → Type 0
IsFormatFaultFor first (fault.Flaw flaw) = first ≡ Some flaw
IsFormatFaultFor first fault.Memory = ⊤
