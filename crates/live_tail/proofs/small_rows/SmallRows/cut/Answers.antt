use Rattle.std.proofs.Common.{◌≡◌, List, length, map, min, take, drop, ap, sym, ◌∙◌, arith}
use Rattle.std.proofs.lemmas.List.{drop-map, take-map, take_min}
use Rattle.track_types.specs.declared.row.Row.{Row}
use Rattle.live_tail.specs.SmallRows.{row_from}
use Rattle.live_tail.specs.declared.small_row.SmallRow.{SmallRow}
use Rattle.live_tail.proofs.CutLemmas.{drop_min}
use Rattle.live_tail.proofs.small_rows.SmallRows.cut.Goals as goal

pub returns-clause-front : goal.returns-clause-front
returns-clause-front c =
    let smalls : List SmallRow = c.args.self.rows.now in
    let f : SmallRow → Row = row_from c.args.self.origin in
    let least : c.min.result ≡ min c.args.count (length smalls) = omega arith in
    c.part.ensures
    ∙ ap (map f) (c.split_at.ensures.front ∙ ap (λ n. take n smalls) least ∙ take_min c.args.count smalls)
    ∙ sym (take-map f c.args.count smalls)

pub returns-clause-back : goal.returns-clause-back
returns-clause-back c =
    let smalls : List SmallRow = c.args.self.rows.now in
    let f : SmallRow → Row = row_from c.args.self.origin in
    let least : c.min.result ≡ min (length smalls) c.args.count = omega arith in
    c.part-2.ensures
    ∙ ap (map f) (c.split_at.ensures.back ∙ ap (λ n. drop n smalls) least ∙ drop_min c.args.count smalls)
    ∙ sym (drop-map f c.args.count smalls)
