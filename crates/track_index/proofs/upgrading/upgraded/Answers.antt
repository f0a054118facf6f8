use Rattle.std.proofs.Common.{sym, ap, subst, ◌∙◌}
use Rattle.parts_order.specs.SettledParts.{settled_parts}
use Rattle.snapshots.specs.SoundParts.{IsValid}
use Rattle.snapshots.specs.Upgrade.{upgrade_of}
use Rattle.index_file.specs.File.{IsNewest}
use Rattle.track_index.specs.Facts.{facts_of}
use Rattle.track_index.specs.Newest.{newest_of}
use Rattle.track_index.proofs.UpgradeLemmas.{facts_of-newest, IsNewest-settled}
use Rattle.track_index.proofs.NewestLemmas.{newest_of-newest}
use Rattle.track_index.proofs.upgrading.upgraded.Goals as goal

pub returns-clause-ok : goal.returns-clause-ok
unfolding newest_of
returns-clause-ok g c =
    let upgrade = c.in_ok-newest.ensures.ok ∙ ap upgrade_of (c.stores.view_is ∙ c.in_ok-stores.ensures.ok) in
    c.in_ok-settled.ensures.ok ∙ ap settled_parts upgrade

pub returns-clause-newest : goal.returns-clause-newest
returns-clause-newest g c =
    let upgrade = c.in_ok-newest.ensures.ok ∙ ap upgrade_of (c.stores.view_is ∙ c.in_ok-stores.ensures.ok) in
    subst IsNewest (sym (returns-clause-ok g c)) (IsNewest-settled c.args.parts (subst IsValid upgrade c.in_ok-newest.ensures.valid))

pub returns-clause-same : goal.returns-clause-same
returns-clause-same g c = λ newest. returns-clause-ok g c ∙ newest_of-newest c.args.parts newest

pub returns-clause-facts : goal.returns-clause-facts
returns-clause-facts g c =
    let upgrade = c.in_ok-newest.ensures.ok ∙ ap upgrade_of (c.stores.view_is ∙ c.in_ok-stores.ensures.ok) in
    ap facts_of (returns-clause-ok g c) ∙ facts_of-newest c.args.parts (subst IsValid upgrade c.in_ok-newest.ensures.valid)
