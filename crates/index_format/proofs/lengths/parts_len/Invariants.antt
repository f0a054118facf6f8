use Rattle.std.proofs.Common.{◌≡◌, ℕ, ◌*◌, ◌^◌, ◌≤◌, List, length, take}
use Rattle.std.specs.List.{flat_map}
use Rattle.track_types.specs.declared.period_parts.PeriodParts.{PeriodParts}
use Rattle.index_format.specs.Spelling.{period_bytes}
use Rattle.index_format.proofs.lengths.parts_len.Given as goal

-- the bytes of so many periods are added up
pub record IsSum (sum index : ℕ) (periods : List PeriodParts) : Type 0 where
  pub exact : sum ≡ length (flat_map period_bytes (take index periods))
  pub within : sum ≤ 2 ^ 36 * index

abbrev pub invariant-loop-period : goal.invariant-loop-period
invariant-loop-period l = IsSum l.periods l.period-index l.parts.periods
