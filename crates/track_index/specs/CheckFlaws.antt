-- The first flaw of parts that are not those of an index.
use Rattle.std.specs.Prelude.{◌≡◌, ℕ, ◌-◌, ◌≤◌, ◌==◌, if◌then◌else◌, List, All, length, map, take}
use Rattle.std.specs.Prelude.{Option, None, Some}
use Rattle.std.specs.List.{sum_by}
use Rattle.std.specs.Option.{option_and_then, option_or}
use Rattle.list_laws.specs.First.{first_given}
use Rattle.track_types.specs.Flaws.{fault_flaw, flaw_in}
use Rattle.track_types.specs.Frame.{IsFrame, periods_of}
use Rattle.track_types.specs.Limits.{limit_of}
use Rattle.track_types.specs.PartsForm.{IsShapedPeriod}
use Rattle.track_types.specs.declared.flaw.Flaw.{Flaw}
use Rattle.track_types.specs.declared.flaw.Kind.TheVariants as kind
use Rattle.track_types.specs.declared.flaw.Section.TheVariants as section
use Rattle.track_types.specs.declared.frame.Frame.{Frame}
use Rattle.track_types.specs.declared.limit.LimitKind.TheVariants.{Objects, Symbols}
use Rattle.track_types.specs.declared.parts.Parts.{Parts}
use Rattle.track_types.specs.declared.period_parts.PeriodParts.{PeriodParts}
use Rattle.rule_store.specs.View.{RulesView}
use Rattle.rule_store.specs.Flaws.{format_fault_of_rules, rules_flaw}
use Rattle.rule_store.specs.declared.fault.RuleFault.{RuleFault}
use Rattle.snapshots.specs.View.{SnapshotView, view_with}
use Rattle.snapshots.specs.Flaws.{flaw_of}
use Rattle.snapshots.specs.JoinFlaws.{logs_flaw}
use Rattle.snapshots.specs.Parts.{numbers_in, period_at, rules_in, symbols_of}
use Rattle.snapshots.specs.Stores.{snapshots_in}

-- where a fault of the rules is, and how the index is not of its format there
abbrev pub rule_flaw_of : RuleFault → Option Flaw
rule_flaw_of fault = fault_flaw (format_fault_of_rules fault)

-- the first flaw of alphabet, rules and stored symbols
unfoldable pub grammar_flaw : RulesView → Option Flaw
grammar_flaw rules = option_and_then rule_flaw_of (rules_flaw rules)

-- the flaw of lengths that do not add up to the number of symbols, told at the last period's first length
unfoldable pub lengths_flaw : Frame → List PeriodParts → ℕ → Option Flaw
lengths_flaw frame periods many =
    if sum_by symbols_of periods == many then None
    else Some (flaw_in (periods_of frame - 1) section.Lengths kind.Total 0)

-- the flaw of the parts whose lengths do not add up to the number of symbols
abbrev pub total_flaw : Parts → Option Flaw
total_flaw parts = lengths_flaw parts.frame parts.periods (length parts.symbols)

-- the first flaw of some snapshots, one after the other
unfoldable pub snapshots_flaw : List SnapshotView → Option Flaw
snapshots_flaw snaps = first_given flaw_of snaps

-- the first flaw of parts: the rules come before the total, the total before the snapshots, and these before the logs
unfoldable pub check_flaw : Parts → Option Flaw
check_flaw parts = option_or (grammar_flaw (rules_in parts)) (option_or (total_flaw parts)
    (option_or (snapshots_flaw (snapshots_in parts)) (logs_flaw parts)))

-- the snapshot of a period, by the header, the number of objects and the parts of all periods
abbrev pub snapshot_with : Frame → ℕ → List PeriodParts → ℕ → SnapshotView
snapshot_with frame objects periods number =
    view_with frame number objects (sum_by symbols_of (take number periods)) (period_at periods number)

-- the snapshots of all periods
abbrev pub snapshots_with : Frame → ℕ → List PeriodParts → List SnapshotView
snapshots_with frame objects periods = map (snapshot_with frame objects periods) (numbers_in frame)

-- what is known of periods before they are judged: the header's ranges, as many periods as it says, lists as long as
-- the presence bits say, and logs that fit the limit
pub record AreShapedPeriods (frame : Frame) (objects : ℕ) (periods : List PeriodParts) : Type 0 where
  pub header : IsFrame frame
  pub some : 1 ≤ objects
  pub few : objects ≤ limit_of Objects
  pub many : length periods ≡ periods_of frame
  pub each : All (IsShapedPeriod objects) periods
  pub total : sum_by symbols_of periods ≤ limit_of Symbols
