use Rattle.std.proofs.Common.{◌≡◌, ◌++◌, ◌∷◌, [], ◌<◌, ℕ, List, get_or, length, map, take, ap, subst, sym, ◌∙◌}
use Rattle.std.proofs.lemmas.List.{append-nil, append_assoc, map-append, take_more}
use Rattle.track_types.specs.ByFilter.{near_of}
use Rattle.track_types.specs.Near.{IsCellWithin}
use Rattle.track_types.specs.declared.row.Row.{Row}
use Rattle.live_tail.specs.SmallRows.{rows_in}
use Rattle.live_tail.specs.declared.small_row.SmallRow.{SmallRow}
use Rattle.live_tail.proofs.InstantLemmas.{no_row}
use Rattle.live_tail.proofs.SmallLemmas.{all-taken, below-map, no_small, row-at}
use Rattle.live_tail.proofs.nearest.push_nears.Goals as goal

pub loop-small-init : goal.loop-small-init
loop-small-init c = sym (append-nil _)

pub dist2-requires-clause-second : goal.dist2-requires-clause-second
dist2-requires-clause-second c =
    let smalls : List SmallRow = c.args.rows.rows.now in
    let i : ℕ = c.loop-small.small-index in
    subst (λ (row : Row). IsCellWithin row.cell)
    (sym (c.row-row.ensures ∙ row-at c.args.rows.origin smalls i no_small no_row c.loop-small-test.true))
    (c.requires.near i no_row (below-map c.args.rows.origin smalls i c.loop-small-test.true))

pub loop-small-preserved : goal.loop-small-preserved
loop-small-preserved c =
    let smalls : List SmallRow = c.args.rows.rows.now in
    let rows : List Row = rows_in c.args.rows in
    let i : ℕ = c.loop-small.small-index in
    let row : Row = c.row-row.result in
    let is : row ≡ get_or rows i no_row = c.row-row.ensures ∙ row-at c.args.rows.origin smalls i no_small no_row c.loop-small-test.true in
    let below : i < length rows = below-map c.args.rows.origin smalls i c.loop-small-test.true in
    c.in_ok-push.ensures.items
    ∙ ap (λ d. c.loop-small.found.items ++ record { object = row.object; cell = row.cell; dist2 = d } ∷ []) c.dist2.ensures
    ∙ ap (λ row. c.loop-small.found.items ++ near_of c.args.cell row ∷ []) is
    ∙ ap (λ found. found ++ near_of c.args.cell (get_or rows i no_row) ∷ []) c.loop-small.invariant
    ∙ append_assoc c.args.found.now.items _ _
    ∙ ap (λ found. c.args.found.now.items ++ found)
    (sym (ap (map (near_of c.args.cell)) (take_more rows i no_row below)
    ∙ map-append (near_of c.args.cell) (take i rows) (get_or rows i no_row ∷ [])))

pub returns : goal.returns
returns c =
    c.loop-small.invariant
    ∙ ap (λ rows. c.args.found.now.items ++ map (near_of c.args.cell) rows)
    (all-taken c.args.rows.origin c.args.rows.rows.now c.loop-small.small-index c.loop-small-test.false)
