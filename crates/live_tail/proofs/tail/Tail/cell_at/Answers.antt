use Rattle.std.proofs.Common.{◌≡◌, ◌<ℤ◌, to_z, of_z, w64, ap, sym, subst, ◌∙◌, arith, rules}
use Rattle.std.specs.Prelude.{IfSome, pos, ◌+ℤ◌}
use Rattle.std.specs.List.{list_any}
use Rattle.std.proofs.lemmas.Int.{ints}
use Rattle.track_types.specs.ByFilter.{cell_at}
use Rattle.track_types.specs.Row.{is_row_of}
use Rattle.live_tail.specs.Join.{rows_of_tail}
use Rattle.live_tail.specs.SmallRows.{rows_in}
use Rattle.live_tail.specs.Tail.{IsTimeOf}
use Rattle.live_tail.proofs.CoverLemmas.{no_cell, none_after, none_before}
use Rattle.live_tail.proofs.PackLemmas.{counted-at}
use Rattle.live_tail.proofs.tail.Tail.cell_at.Goals as goal

pub returns-then-instant-time : goal.returns-then-instant-time
returns-then-instant-time c =
    let is : IsTimeOf c.args.self.now c.in_ok-time.time = c.in_ok-time.ensures.some in
    let early : c.args.instant <ℤ is.chart.first = omega (arith, ints, c.if-instant-time.true, is.first) in
    sym (no_cell (rows_of_tail c.args.self.now) c.args.object c.args.instant
    (ap (λ tail. list_any (is_row_of c.args.object c.args.instant) (rows_of_tail tail)) is.is
    ∙ none_before is.chart is.sound c.args.instant early c.args.object))

pub returns-then-time-instant : goal.returns-then-time-instant
returns-then-time-instant c =
    let is : IsTimeOf c.args.self.now c.in_ok-time.time = c.in_ok-time.ensures.some in
    let late : is.chart.last <ℤ c.args.instant = omega (arith, ints, c.if-time-instant.true, is.last) in
    sym (no_cell (rows_of_tail c.args.self.now) c.args.object c.args.instant
    (ap (λ tail. list_any (is_row_of c.args.object c.args.instant) (rows_of_tail tail)) is.is
    ∙ none_after is.chart is.sound c.args.instant late c.args.object))

pub distance-requires : goal.distance-requires
distance-requires c =
    let is : IsTimeOf c.args.self.now c.in_ok-time.time = c.in_ok-time.ensures.some in
    let first : to_z w64 (of_z w64 c.in_ok-time.time.least) ≡ c.in_ok-time.time.least = search rules in
    let same : to_z w64 (of_z w64 c.args.instant) ≡ c.args.instant = omega (arith, ints) in
    rw (first, same, sym is.first) (counted-at is.chart c.args.instant is.sound
    (omega (arith, ints, c.if-instant-time.false, is.first)) (omega (arith, ints, c.if-time-instant.false, is.last)))

pub returns : goal.returns
returns c =
    let is : IsTimeOf c.args.self.now c.in_ok-time.time = c.in_ok-time.ensures.some in
    let least : to_z w64 (of_z w64 c.in_ok-time.time.least) ≡ c.in_ok-time.time.least = search rules in
    let same : to_z w64 (of_z w64 c.args.instant) ≡ c.args.instant = omega (arith, ints) in
    let first : c.rows.result.origin.instant ≡ is.chart.first =
    subst (λ tail. IfSome tail (λ chart. c.rows.result.origin.instant ≡ chart.first)) is.is c.rows.ensures.first in
    let at : (c.rows.result.origin.instant +ℤ pos c.distance.result) ≡ c.args.instant =
    ap (λ z. z +ℤ pos c.distance.result) (first ∙ is.first ∙ sym least) ∙ c.distance.ensures ∙ same in
    c.cell_at.ensures ∙ ap (cell_at (rows_in c.rows.result) c.args.object) at
    ∙ ap (λ rows. cell_at rows c.args.object c.args.instant) c.rows.ensures.value
