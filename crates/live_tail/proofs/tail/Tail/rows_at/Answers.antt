use Rattle.std.proofs.Common.{◌≡◌, List, to_z, of_z, w64, ◌∙◌, arith}
use Rattle.std.proofs.lemmas.Int.{ints}
use Rattle.std.proofs.lemmas.List.Kept.{IsStrictlySortedBy-filter}
use Rattle.track_types.specs.ByFilter.{is_row_at}
use Rattle.track_types.specs.Near.{IsCellWithin}
use Rattle.track_types.specs.Row.{row_order}
use Rattle.track_types.specs.declared.row.Row.{Row}
use Rattle.live_tail.specs.Join.{rows_of_tail}
use Rattle.live_tail.specs.SmallRows.{rows_in}
use Rattle.live_tail.proofs.CutLemmas.{All-filter, window-instant}
use Rattle.live_tail.proofs.tail.Tail.rows_at.Goals as goal

pub between-requires : goal.between-requires
between-requires c = c.sorted.ensures.order

pub returns : goal.returns
returns c =
    let rows : List Row = rows_of_tail c.args.self.now in
    let same : to_z w64 (of_z w64 c.args.instant) ≡ c.args.instant = omega (arith, ints) in
    let found = (rw same at c.between.ensures) ∙ window-instant rows (rows_in c.sorted.result) c.args.instant c.sorted.ensures in
    record {
      value = found;
      ascending = rw found (IsStrictlySortedBy-filter row_order (is_row_at c.args.instant) rows
          (rw c.rows.ensures.value at c.rows.ensures.ascending));
      near = rw found (All-filter (λ (row : Row). IsCellWithin row.cell) (is_row_at c.args.instant) rows
          (rw c.rows.ensures.value at c.rows.ensures.near));
    }
