use Rattle.std.proofs.Common.{◌≡◌, ℕ, take}
use Rattle.std.specs.Prelude.{◌==◌}
use Rattle.std.specs.List.{list_any}
use Rattle.track_types.specs.declared.row.Row.{Row}
use Rattle.live_tail.specs.SmallRows.{rows_in}
use Rattle.live_tail.proofs.objects.objects_of.Given as goal

abbrev pub invariant-loop-small : goal.invariant-loop-small
invariant-loop-small l = (object : ℕ) → list_any (λ o. object == o) l.objects.items
    ≡ list_any (λ (row : Row). object == row.object) (take l.small-index (rows_in l.rows))
