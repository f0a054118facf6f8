use Rattle.std.proofs.Common.{◌≡◌, ◌-◌, refl, ap}
use Rattle.track_types.specs.declared.cell.Cell.{Cell}
use Rattle.index_format.specs.BlockSteps.{log_moved}
use Rattle.index_format.specs.declared.outline.entries.LogRest.{LogRest}
use Rattle.index_format.proofs.BoundedLemmas.{behind-more, in_grid-reachable, in_grid-within, packable-more}
use Rattle.index_format.proofs.outline.bounded_log.BoundedLog.with.Goals as goal

pub with-requires-clause-from : goal.with-requires-clause-from
with-requires-clause-from c = in_grid-within c.args.self.bounds.from c.args.self.begins

pub with-requires-clause-column : goal.with-requires-clause-column
with-requires-clause-column c = (in_grid-reachable c.args.height c.args.self.at.cell c.requires.height c.requires.cell).0

pub with-requires-clause-line : goal.with-requires-clause-line
with-requires-clause-line c = (in_grid-reachable c.args.height c.args.self.at.cell c.requires.height c.requires.cell).1

pub invariant_of-result-clause-small : goal.invariant_of-result-clause-small
invariant_of-result-clause-small c = packable-more c.args.height c.requires.height c.args.self.at.cell _
    c.args.self.bounds c.with.result c.args.self.begins c.args.self.small c.with.ensures.from c.args.entry.now.hull c.requires.stays
    c.with.ensures.speed c.with.ensures.area

pub returns-clause-read : goal.returns-clause-read
returns-clause-read c view start before symbols symbol its is =
    let from = c.args.self.at in
    let entry = c.args.entry.now in
    let at : LogRest = record { rest = from.rest - entry.duration; cell = c.cell_past.result } in
    let leads : at ≡ log_moved from entry =
    ap (λ (cell : Cell). record { rest = from.rest - entry.duration; cell = cell }) c.cell_past.ensures in
    behind-more view start before symbols symbol entry c.args.self _ is its c.requires.lasts refl leads c.with.ensures.from
    (rw c.from-passed.ensures at c.with.ensures.speed) c.with.ensures.area
