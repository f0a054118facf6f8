use Rattle.std.proofs.Common.{rules}
use Rattle.std.specs.Prelude.{nat_le}
use Rattle.std.proofs.lemmas.List.Sorted.{IsPartitionPoint-from_clause}
use Rattle.track_types.specs.declared.row.Row.{Row}
use Rattle.path_union.proofs.PathLemmas.{IsPartitionedBy-upto_object}
use Rattle.path_union.proofs.rows_paths.path_end.Goals as goal

pub returns-clause-parted : goal.returns-clause-parted
returns-clause-parted c =
    IsPartitionPoint-from_clause (λ (row : Row). nat_le row.object c.args.object) _ _ c.partition_point.ensures.partitioned
    (IsPartitionedBy-upto_object c.args.object c.args.rows.now c.requires) (λ a r q k. search rules)
