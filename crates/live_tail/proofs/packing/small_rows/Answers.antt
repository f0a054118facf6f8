use Rattle.std.proofs.Common.{[], ◌∷◌, ◌++◌, List, take, ap, sym, ◌∙◌}
use Rattle.std.proofs.lemmas.List.{map-append, take_all, take_more}
use Rattle.track_types.specs.declared.row.Row.{Row}
use Rattle.live_tail.specs.SmallRows.{row_from, rows_from}
use Rattle.live_tail.proofs.InstantLemmas.{no_row}
use Rattle.live_tail.proofs.packing.small_rows.Goals as goal

pub small-requires : goal.small-requires
small-requires c = c.requires c.loop-row.row-index no_row c.loop-row-test.true

pub loop-row-preserved : goal.loop-row-preserved
loop-row-preserved c =
    let rows : List Row = c.args.rows.now in
    ap (rows_from c.args.origin) c.in_ok-push.ensures.items
    ∙ map-append (row_from c.args.origin) c.loop-row.smalls.items (c.small.result ∷ [])
    ∙ ap (λ zs. zs ++ row_from c.args.origin c.small.result ∷ []) c.loop-row.invariant
    ∙ ap (λ row. take c.loop-row.row-index rows ++ row ∷ []) c.small.ensures
    ∙ sym (take_more rows c.loop-row.row-index no_row c.loop-row-test.true)

pub returns : goal.returns
returns c = c.loop-row.invariant ∙ take_all c.loop-row.row-index c.args.rows.now c.loop-row-test.false
