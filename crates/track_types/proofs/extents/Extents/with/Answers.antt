use Rattle.std.proofs.Common.{refl, w64, rules}
use Rattle.std.proofs.lemmas.Int.{to_z-of_z}
use Rattle.track_types.specs.declared.row.Row.{Row}
use Rattle.track_types.proofs.ExtentLemmas.{extent_over-more}
use Rattle.track_types.proofs.extents.Extents.with.Goals as goal

pub returns : goal.returns
returns c = λ rows before.
    let row : Row = c.args.row.now in
    rw (
      c.widened.ensures,
      c.widened-2.ensures,
      c.widened-3.ensures,
      to_z-of_z w64 row.instant (search rules),
      to_z-of_z w64 row.cell.x (search rules),
      to_z-of_z w64 row.cell.y (search rules),
      before,
      extent_over-more (λ other. other.instant) rows row,
      extent_over-more (λ other. other.cell.x) rows row,
      extent_over-more (λ other. other.cell.y) rows row,
    )
    refl
