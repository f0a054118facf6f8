use Rattle.std.proofs.Common.{◌≡◌, ◌<◌, ℕ, length, subst, ◌++◌, [], ◌∷◌, List, Bool, filter, map, get_or, sym, ap, ◌∙◌, true, false}
use Rattle.std.proofs.lemmas.List.{append-nil, append_assoc}
use Rattle.track_types.specs.ByFilter.{sighting_of}
use Rattle.track_types.specs.Region.{in_region}
use Rattle.track_types.specs.declared.row.Row.{Row}
use Rattle.track_types.specs.Near.{IsCellWithin}
use Rattle.live_tail.specs.SmallRows.{rows_in}
use Rattle.live_tail.specs.declared.small_row.SmallRow.{SmallRow}
use Rattle.live_tail.proofs.InstantLemmas.{no_row, seen-no, seen-yes}
use Rattle.live_tail.proofs.SmallLemmas.{all-taken, below-map, no_small, row-at}
use Rattle.live_tail.proofs.slice.push_seen.Goals as goal
use Rattle.live_tail.proofs.slice.push_seen.Goals.{then-contains+in_ok-push, else-contains}

pub loop-small-init : goal.loop-small-init
loop-small-init c = sym (append-nil _)

pub contains-requires-clause-near : goal.contains-requires-clause-near
contains-requires-clause-near c =
    let smalls : List SmallRow = c.args.rows.rows.now in
    let i : ℕ = c.loop-small.small-index in
    let is : c.row-row.result ≡ get_or (rows_in c.args.rows) i no_row =
    c.row-row.ensures ∙ row-at c.args.rows.origin smalls i no_small no_row c.loop-small-test.true in
    subst (λ (row : Row). IsCellWithin row.cell) (sym is)
    (c.requires.near i no_row (below-map c.args.rows.origin smalls i c.loop-small-test.true))

pub loop-small-preserved : goal.loop-small-preserved
loop-small-preserved c =
    let q : Row → Bool = λ row. in_region c.args.region.now row.cell in
    let rows : List Row = rows_in c.args.rows in
    let smalls : List SmallRow = c.args.rows.rows.now in
    let i : ℕ = c.loop-small.small-index in
    let below : i < length rows = below-map c.args.rows.origin smalls i c.loop-small-test.true in
    let is : c.row-row.result ≡ get_or rows i no_row =
    c.row-row.ensures ∙ row-at c.args.rows.origin smalls i no_small no_row c.loop-small-test.true in
    elim c.if-contains.branch [
      | then-contains+in_ok-push w ↦
          let passes : q (get_or rows i no_row) ≡ true = ap q (sym is) ∙ sym c.contains.ensures ∙ w.if-contains.true in
          ap (λ found. found.items) w.found-is ∙ w.in_ok-push.ensures.items
          ∙ ap (λ row. c.loop-small.found.items ++ sighting_of row ∷ []) is
          ∙ ap (λ found. found ++ sighting_of (get_or rows i no_row) ∷ []) c.loop-small.invariant
          ∙ append_assoc c.args.found.now.items _ _
          ∙ ap (λ found. c.args.found.now.items ++ found)
          (sym (seen-yes q sighting_of rows i below passes))
      | else-contains w ↦
          let fails : q (get_or rows i no_row) ≡ false = ap q (sym is) ∙ sym c.contains.ensures ∙ w.if-contains.false in
          ap (λ found. found.items) w.found-is ∙ c.loop-small.invariant
          ∙ ap (λ found. c.args.found.now.items ++ found)
          (sym (seen-no q sighting_of rows i below fails))
    ]

pub returns : goal.returns
returns c =
    c.loop-small.invariant
    ∙ ap (λ rows. c.args.found.now.items ++ map sighting_of (filter (λ (row : Row). in_region c.args.region.now row.cell) rows))
    (all-taken c.args.rows.origin c.args.rows.rows.now c.loop-small.small-index c.loop-small-test.false)
