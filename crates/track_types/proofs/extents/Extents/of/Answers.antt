use Rattle.std.proofs.Common.{pos, take}
use Rattle.std.proofs.lemmas.List.{take_all, take_more}
use Rattle.track_types.specs.declared.row.Row.{Row}
use Rattle.track_types.proofs.extents.Extents.of.Goals as goal

-- what an index past the end reads
abbrev no_row : Row
no_row = record { object = 0; instant = pos 0; cell = record { x = pos 0; y = pos 0 } }

pub loop-row-preserved : goal.loop-row-preserved
loop-row-preserved c =
    let rows = c.args.rows.now in
    let done = c.loop-row.row-index in
    rw (take_more rows done no_row c.loop-row-test.true) (c.with-extents.ensures (take done rows) c.loop-row.invariant)

pub returns : goal.returns
returns c = rw (take_all c.loop-row.row-index c.args.rows.now c.loop-row-test.false) at c.loop-row.invariant
