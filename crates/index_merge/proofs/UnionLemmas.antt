-- The rows of an index are such as a chart may have, and their chart with others is the extension.
use Rattle.std.proofs.Common.{◌≡◌, List, [], All, ap, arith}
use Rattle.std.specs.List.Sorted.{IsStrictlySortedBy}
use Rattle.std.proofs.lemmas.Int.{ints}
use Rattle.track_types.specs.Chart.{chart_with}
use Rattle.track_types.specs.Near.{IsNear}
use Rattle.track_types.specs.declared.frame.Frame.{Frame}
use Rattle.track_types.specs.declared.parts.Parts.{Parts}
use Rattle.track_types.specs.declared.row.Row.{Row}
use Rattle.snapshots.specs.Parts.{chart_in}
use Rattle.snapshots.specs.SoundParts.{IsValid}
use Rattle.object_track.proofs.TableLemmas.{IsTable-chart_in}
use Rattle.path_union.specs.Paths.{AreTimely}
use Rattle.path_union.specs.Union.{rows_of_both}
use Rattle.index_merge.specs.Union.{extension_of}

-- each row's instant is in range
near-rows : (parts : Parts) → IsValid parts → All (λ row. IsNear row.instant) (chart_in parts).rows
unfolding chart_in
near-rows parts valid = λ k d within.
    let header = valid.shaped.header in
    let row = (IsTable-chart_in parts valid).rows k d within in
    record {
      low = omega (arith, ints, header.begins, row.begins);
      high = omega (arith, ints, header.ends, row.ends);
    }

-- the rows of an index are such
pub timely-index : (parts : Parts) → IsValid parts → AreTimely (chart_in parts).rows
timely-index parts valid = record {
  ascending = (IsTable-chart_in parts valid).ascending;
  near = near-rows parts valid;
}

-- and so is no row
pub timely-none : AreTimely []
unfolding IsStrictlySortedBy
timely-none = record { ascending = tt; near = λ k d within. absurd (omega (arith, within)) }

-- the chart with later rows is the extension
pub extension_of-rows : (parts : Parts) (frame : Frame) (later : List Row) → frame ≡ parts.frame
    → chart_with (rows_of_both (chart_in parts).rows later) frame.cell frame.tick frame.period ≡ extension_of (chart_in parts) later
unfolding chart_in
extension_of-rows parts frame later is =
    ap (λ (f : Frame). chart_with (rows_of_both (chart_in parts).rows later) f.cell f.tick f.period) is
