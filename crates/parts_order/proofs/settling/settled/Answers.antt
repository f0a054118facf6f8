use Rattle.std.proofs.Common.{◌∙◌, ap, length, refl, subst, sym}
use Rattle.track_types.specs.declared.parts.Parts.{Parts}
use Rattle.rule_order.specs.Order.{IsSettled}
use Rattle.snapshots.specs.Parts.{chart_in}
use Rattle.snapshots.specs.SoundParts.{IsValid}
use Rattle.parts_order.specs.SettledParts.{settled_parts}
use Rattle.parts_order.proofs.SettledPartsLemmas.{settled_parts-chart, settled_parts-order, settled_parts-valid}
use Rattle.parts_order.proofs.settling.settled.Goals as goal

pub returns-clause-ok : goal.returns-clause-ok
unfolding settled_parts
returns-clause-ok c = rw (c.in_ok-order.ensures.rules, c.in_ok-order.ensures.symbols, c.as_slice.ensures) refl

pub returns-clause-valid : goal.returns-clause-valid
returns-clause-valid c =
    subst IsValid (sym (returns-clause-ok c)) (settled_parts-valid c.args.parts c.requires)

pub returns-clause-chart : goal.returns-clause-chart
returns-clause-chart c = ap chart_in (returns-clause-ok c) ∙ settled_parts-chart c.args.parts c.requires

pub returns-clause-order : goal.returns-clause-order
returns-clause-order c =
    subst (λ (parts : Parts). IsSettled (length parts.alphabet) parts.rules) (sym (returns-clause-ok c))
    (settled_parts-order c.args.parts c.requires)
