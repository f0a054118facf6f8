use Rattle.std.proofs.Common.{◌≡◌, ℕ, pos, Bool, List, get_or, arith, rules, inl, inr}
use Rattle.std.specs.Prelude.{nat_le}
use Rattle.std.specs.List.Sorted.{IsPartitionedBy}
use Rattle.std.proofs.lemmas.Bool.{cases_lt}
use Rattle.std.proofs.lemmas.Bool.Decides.{nat_tests}
use Rattle.std.proofs.lemmas.List.Sorted.{IsPartitionPoint-from_clause}
use Rattle.std.proofs.lemmas.List.Sums.{prefix_len_is}
use Rattle.std.proofs.lemmas.Map.Keys.{Less-from_sorted}
use Rattle.list_laws.proofs.SliceLemmas.{take-rest}
use Rattle.track_types.specs.Row.{IsAscending, row_order}
use Rattle.track_types.specs.declared.row.Row.{Row}
use Rattle.track_types.proofs.RowLemmas.{object_le}
use Rattle.chart_parts.proofs.objects.after_object.Goals as goal

-- what a place past the end reads
no_row : Row
no_row = record { object = 0; instant = pos 0; cell = record { x = pos 0; y = pos 0 } }

-- rows in order have those up to an object first
IsPartitionedBy-object : (object : ℕ) (rows : List Row) → IsAscending rows →
    IsPartitionedBy (λ row. nat_le row.object object) rows
IsPartitionedBy-object object rows up i j d low high is = elim (cases_lt i j) [
  | inl before ↦
      let no_greater = object_le (get_or rows i d) (get_or rows j d) (Less-from_sorted row_order rows i j d up before high) in
      grind (arith, nat_tests)
  | inr at ↦ let same : i ≡ j = omega arith in rw same is
]

pub returns : goal.returns
returns c =
    let rows = c.args.rows.now in
    let test : Row → Bool = λ row. nat_le row.object c.args.object in
    let found = c.partition_point-count.result in
    let point =
    IsPartitionPoint-from_clause test rows found c.partition_point-count.ensures.partitioned
    (IsPartitionedBy-object c.args.object rows c.requires) (λ a r q k. search rules) in
    let run =
    prefix_len_is test rows found no_row c.partition_point-count.ensures.bound
    (λ k below. point.0 k no_row (omega arith) below)
    (λ below. point.1 found no_row (omega arith) below) in
    rw run (take-rest found rows)
