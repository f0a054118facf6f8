use Rattle.std.proofs.Common.{List, map, refl, ◌∙◌, rules}
use Rattle.std.specs.Ordering.{nat_cmp}
use Rattle.std.proofs.lemmas.List.{length-map}
use Rattle.std.proofs.lemmas.List.Sorted.{answers_always}
use Rattle.track_types.specs.declared.row.Row.{Row}
use Rattle.live_tail.specs.SmallRows.{row_from}
use Rattle.live_tail.specs.declared.small_row.SmallRow.{SmallRow}
use Rattle.live_tail.proofs.ObjectLemmas.{any-searched}
use Rattle.live_tail.proofs.SmallLemmas.{IsBinarySearchResult-map, no_small}
use Rattle.live_tail.proofs.small_rows.SmallRows.has_object.Goals as goal

pub returns : goal.returns
returns c =
    let smalls : List SmallRow = c.args.self.rows.now in
    let f : SmallRow → Row = row_from c.args.self.origin in
    c.is_ok.ensures.value
    ∙ any-searched (map f smalls) c.args.object c.binary_search_by_key.result c.requires
    (rw length-map c.binary_search_by_key.ensures.bound)
    (IsBinarySearchResult-map f no_small (λ small. nat_cmp small.object c.args.object) (λ (row : Row). nat_cmp row.object c.args.object) (λ small. refl) smalls c.binary_search_by_key.result
    c.binary_search_by_key.ensures.bound
    (c.binary_search_by_key.ensures.position (λ (small : SmallRow). small.object) (answers_always _ _ _ (λ f a r g h. search rules))))
