use Rattle.std.proofs.Common.{◌≡◌, ap, of_z, to_z, w64, ◌∙◌}
use Rattle.std.proofs.lemmas.Int.{to_z-of_z}
use Rattle.track_types.specs.declared.parts.Parts.{Parts}
use Rattle.snapshots.specs.Parts.{period_in}
use Rattle.snapshots.proofs.stores.Stores.period_of.Goals as goal

pub returns-clause-value : goal.returns-clause-value
returns-clause-value c =
    let time = c.timeline.ensures in
    let same : to_z w64 (of_z w64 c.args.instant) ≡ c.args.instant = to_z-of_z w64 c.args.instant c.ranges.instant in
    (rw (time.first, time.span, time.period, same) at c.period_of.ensures.value)
    ∙ ap (λ (p : Parts). period_in p.frame c.args.instant) c.self.view_is
