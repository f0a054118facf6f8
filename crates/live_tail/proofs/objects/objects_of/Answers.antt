use Rattle.std.proofs.Common.{ℕ, Bool, List, get_or, take, ap, sym, ◌∙◌}
use Rattle.std.specs.Prelude.{◌==◌, ◌||◌}
use Rattle.std.specs.List.{list_any}
use Rattle.std.proofs.lemmas.List.{take_more}
use Rattle.track_types.specs.declared.row.Row.{Row}
use Rattle.live_tail.specs.SmallRows.{rows_in}
use Rattle.live_tail.proofs.InstantLemmas.{no_row}
use Rattle.live_tail.proofs.ObjectLemmas.{any-push}
use Rattle.live_tail.proofs.SmallLemmas.{all-taken, below-map, no_small, row-at}
use Rattle.live_tail.proofs.objects.objects_of.Goals as goal

pub loop-small-preserved : goal.loop-small-preserved
loop-small-preserved c = λ object.
    let rows : List Row = rows_in c.args.rows in
    let i : ℕ = c.loop-small.small-index in
    let p : Row → Bool = λ row. object == row.object in
    c.in_ok-push_new.ensures object
    ∙ ap (λ b. b || (object == (get_or c.args.rows.rows.now i no_small).object)) (c.loop-small.invariant object)
    ∙ ap (λ row. list_any p (take i rows) || p row) (row-at c.args.rows.origin c.args.rows.rows.now i no_small no_row c.loop-small-test.true)
    ∙ sym (any-push p (take i rows) (get_or rows i no_row))
    ∙ ap (list_any p) (sym (take_more rows i no_row (below-map c.args.rows.origin c.args.rows.rows.now i c.loop-small-test.true)))

pub returns : goal.returns
returns c = λ object.
    c.loop-small.invariant object
    ∙ ap (list_any (λ (row : Row). object == row.object))
    (all-taken c.args.rows.origin c.args.rows.rows.now c.loop-small.small-index c.loop-small-test.false)
