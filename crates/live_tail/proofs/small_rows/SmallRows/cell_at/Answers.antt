use Rattle.std.proofs.Common.{ℕ, ℤ, List, Some, Ok, Err, map, ap, sym, ◌∙◌, rules}
use Rattle.std.specs.Prelude.{pos, ◌+ℤ◌}
use Rattle.std.proofs.lemmas.List.{length-map}
use Rattle.std.proofs.lemmas.List.Sorted.{answers_always}
use Rattle.track_types.specs.declared.row.Row.{Row}
use Rattle.track_types.proofs.RowLemmas.{cell_at-binary_search}
use Rattle.live_tail.specs.SmallRows.{row_from}
use Rattle.live_tail.specs.declared.small_row.SmallRow.{SmallRow}
use Rattle.live_tail.proofs.SmallLemmas.{no_small, row-at, searched-from}
use Rattle.live_tail.proofs.small_rows.SmallRows.cell_at.Goals as goal

pub returns-in-Ok : goal.returns-in-Ok
returns-in-Ok c =
    let smalls : List SmallRow = c.args.self.rows.now in
    let f : SmallRow → Row = row_from c.args.self.origin in
    let at : ℤ = c.args.self.origin.instant +ℤ pos c.args.distance in
    let i : ℕ = c.in-Ok.place in
    let found = c.in-Ok.ensures.position (λ (small : SmallRow). (small.object, small.instant)) (answers_always _ _ _ (λ f a r g h. search rules)) in
    ap (λ (row : Row). Some row.cell) (c.row.ensures ∙ row-at c.args.self.origin smalls i no_small (f no_small) c.in-Ok.ensures.bound)
    ∙ sym (cell_at-binary_search (map f smalls) c.args.object at (Ok i) c.requires (rw length-map c.in-Ok.ensures.bound)
    (searched-from c.args.self.origin c.args.object c.args.distance smalls (Ok i) c.in-Ok.ensures.bound found)
    (f no_small))

pub returns-in-Err : goal.returns-in-Err
returns-in-Err c =
    let smalls : List SmallRow = c.args.self.rows.now in
    let f : SmallRow → Row = row_from c.args.self.origin in
    let at : ℤ = c.args.self.origin.instant +ℤ pos c.args.distance in
    let i : ℕ = c.in-Err._place in
    let found = c.in-Err.ensures.position (λ (small : SmallRow). (small.object, small.instant)) (answers_always _ _ _ (λ f a r g h. search rules)) in
    sym (cell_at-binary_search (map f smalls) c.args.object at (Err i) c.requires (rw length-map c.in-Err.ensures.bound)
    (searched-from c.args.self.origin c.args.object c.args.distance smalls (Err i) c.in-Err.ensures.bound found))
