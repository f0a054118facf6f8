use Rattle.std.proofs.Common.{◌+◌, ◌≤◌, map, ap, sym, subst, ◌∙◌, arith}
use Rattle.std.specs.List.{sum_by}
use Rattle.track_types.specs.declared.parts.Parts.{Parts}
use Rattle.snapshots.specs.IndexCost.{open_cost}
use Rattle.snapshots.specs.Parts.{chart_in, numbers_in}
use Rattle.snapshots.specs.SoundParts.{IsValid}
use Rattle.snapshots.specs.Stores.{join_of, period_parts_of}
use Rattle.snapshots.specs.Upgrade.{tree_reads, upgrade_of, upgraded_parts, upgraded_period}
use Rattle.snapshots.proofs.UpgradeLawLemmas.{chart_in-upgrade, IsValid-upgrade}
use Rattle.snapshots.proofs.UpgradeLemmas.{periods-upgraded, reads-opening, upgrade-joined}
use Rattle.snapshots.proofs.stores.Stores.into_upgraded.Given.{Over}
use Rattle.snapshots.proofs.stores.Stores.into_upgraded.Goals as goal
use Rattle.snapshots.proofs.stores.Stores.into_upgraded.Goals.{After-upgraded_periods}

-- the walks over all trees read no more than opening
reads : (g : Over) (c : After-upgraded_periods g) → c.upgraded_periods.new.steps ≤ c.args.steps.now + open_cost c.args.self
reads g c =
    let parts = join_of c.self.inside.frame c.self.inside.objects c.self.inside.rules c.self.inside.snaps.items in
    omega (
      arith,
      c.upgraded_periods.ensures.cost,
      ap (sum_by tree_reads) c.self.invariant.snaps_are,
      reads-opening parts,
      ap open_cost c.self.view_is,
    )

pub returns-in_err-periods-clause-cost : goal.returns-in_err-periods-clause-cost
returns-in_err-periods-clause-cost g c = reads g (goal.at.returns-in_err-periods-clause-cost g c).After-upgraded_periods

pub returns-clause-cost : goal.returns-clause-cost
returns-clause-cost g c = reads g (goal.at.returns-clause-cost g c).After-upgraded_periods

pub returns-clause-ok : goal.returns-clause-ok
returns-clause-ok g c =
    let parts : Parts = join_of c.self.inside.frame c.self.inside.objects c.self.inside.rules c.self.inside.snaps.items in
    let lists = c.into_lists-alphabet.ensures in
    let snaps = c.self.invariant.snaps_are in
    let periods = c.in_ok-periods.ensures.ok ∙ ap (map upgraded_parts) snaps
    ∙ periods-upgraded parts (numbers_in parts.frame)
    ∙ ap (λ views. map (upgraded_period parts.frame) (map period_parts_of views)) (sym snaps) in
    upgrade-joined parts c.newest.result c.into_lists-alphabet.result.0 c.into_lists-alphabet.result.2
    c.into_lists-alphabet.result.1 c.in_ok-periods.periods c.newest.ensures lists.alphabet lists.rules periods
    lists.symbols
    ∙ ap upgrade_of c.self.view_is

pub returns-clause-valid : goal.returns-clause-valid
returns-clause-valid g c =
    subst IsValid (sym (returns-clause-ok g c))
    (IsValid-upgrade c.args.self (subst IsValid c.self.view_is c.self.invariant.valid))

pub returns-clause-chart : goal.returns-clause-chart
returns-clause-chart g c =
    ap chart_in (returns-clause-ok g c)
    ∙ chart_in-upgrade c.args.self (subst IsValid c.self.view_is c.self.invariant.valid)
