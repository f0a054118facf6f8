use Rattle.std.proofs.Common.{ℕ, Bool, List, map, ap, sym, ◌∙◌, rules}
use Rattle.std.specs.Prelude.{not}
use Rattle.std.proofs.lemmas.List.Sorted.{IsPartitionPoint-from_clause}
use Rattle.track_types.specs.declared.row.Row.{Row}
use Rattle.live_tail.specs.SmallRows.{row_from}
use Rattle.live_tail.specs.declared.small_row.SmallRow.{SmallRow}
use Rattle.live_tail.proofs.CutLemmas.{IsPartitionedBy-before_object, IsPartitionedBy-take, IsPartitionedBy-upto_object, cut, is_before_object, is_upto_object, object-cut}
use Rattle.live_tail.proofs.SmallLemmas.{IsPartitionedBy-from_map, filter-map2, no_small}
use Rattle.live_tail.proofs.small_rows.SmallRows.of_object.Goals as goal

pub returns : goal.returns
returns c =
    let object : ℕ = c.args.object in
    let smalls : List SmallRow = c.args.self.rows.now in
    let f : SmallRow → Row = row_from c.args.self.origin in
    let p : SmallRow → Bool = λ small. is_before_object object (f small) in
    let q : SmallRow → Bool = λ small. is_upto_object object (f small) in
    c.part.ensures
    ∙ ap (map f) (cut p q smalls c.partition_point-behind.result c.partition_point-begin.result
    (IsPartitionPoint-from_clause q _ _ c.partition_point-behind.ensures.partitioned
    (IsPartitionedBy-from_map f no_small (is_upto_object object) smalls (IsPartitionedBy-upto_object object (map f smalls) c.requires))
    (λ a r q k. search rules))
    c.partition_point-behind.ensures.bound
    (IsPartitionPoint-from_clause p _ _ c.partition_point-begin.ensures.partitioned
    (IsPartitionedBy-take p smalls c.partition_point-behind.result
    (IsPartitionedBy-from_map f no_small (is_before_object object) smalls (IsPartitionedBy-before_object object (map f smalls) c.requires)))
    (λ a r q k. search rules))
    c.partition_point-begin.ensures.bound)
    ∙ sym (filter-map2 f no_small (λ row. not (is_before_object object row)) (is_upto_object object) smalls)
    ∙ object-cut object (map f smalls)
