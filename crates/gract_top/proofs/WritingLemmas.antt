-- The parts of a chart are those of an index in the newest version.
use Rattle.std.proofs.Common.{◌≡◌, length, refl, sym, subst, rules}
use Rattle.track_types.specs.Chart.{ChartView}
use Rattle.track_types.specs.declared.limit.TheConstants.{MAX_VERSION}
use Rattle.track_types.specs.declared.parts.Parts.{Parts}
use Rattle.rule_order.specs.Order.{IsSettled}
use Rattle.snapshots.specs.SoundParts.{IsValid}
use Rattle.parts_order.specs.SettledParts.{settled_parts}
use Rattle.chart_parts.specs.Header.{frame_of}
use Rattle.chart_parts.specs.PartsOf.{compressed_parts_of, parts_of}
use Rattle.index_file.specs.File.{IsNewest}

version-parts_of : (chart : ChartView) → (parts_of chart).frame.version ≡ MAX_VERSION
unfolding parts_of settled_parts compressed_parts_of frame_of
version-parts_of chart = refl

-- valid ones, whose rules stand in order
pub IsNewest-chart : (chart : ChartView) (parts : Parts) → parts ≡ parts_of chart → IsValid parts
    → IsSettled (length parts.alphabet) parts.rules → IsNewest parts
IsNewest-chart chart parts is valid order =
    subst IsNewest (sym is) (record {
      newest = version-parts_of chart;
      ordered = record { valid = subst IsValid is valid; order = subst (λ parts. IsSettled (length parts.alphabet) parts.rules) is order };
    })
