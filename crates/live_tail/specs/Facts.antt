-- The facts of an index and a tail.
use Rattle.std.specs.Prelude.{◌≡◌, ℕ, ◌+◌, not, List, length, filter, Option}
use Rattle.track_types.specs.Chart.{ChartView}
use Rattle.track_types.specs.Quantities.{objects_of}
use Rattle.track_types.specs.declared.facts.Facts.{Facts}
use Rattle.track_types.specs.declared.parts.Parts.{Parts}
use Rattle.track_types.specs.declared.row.Row.{Row}
use Rattle.snapshots.specs.Parts.{chart_in}
use Rattle.track_index.specs.Facts.{facts_of}
use Rattle.track_index.specs.Listed.{is_listed}
use Rattle.live_tail.specs.Join.{joint_chart, rows_of_tail}

-- how many objects there are: those that are listed, and those of rows that are not
unfoldable pub joint_object_count : List ℕ → List Row → ℕ
joint_object_count listed rows = length listed + length (filter (λ object. not (is_listed object listed)) (objects_of rows))

-- the number of objects of an index and a tail
pub record IsCount (parts : Parts) (tail : Option ChartView) (count : ℕ) : Type 0 where
  pub is : count ≡ joint_object_count parts.objects (rows_of_tail tail)

-- the facts of the index, but with the first and the last instant of both charts, and with the number of objects of both
unfoldable pub facts_with : Parts → Option ChartView → Facts
facts_with parts tail = record {
  objects = joint_object_count parts.objects (rows_of_tail tail);
  first = (joint_chart (chart_in parts) tail).first;
  last = (joint_chart (chart_in parts) tail).last;
  period = (facts_of parts).period;
  cell = (facts_of parts).cell;
  tick = (facts_of parts).tick;
  height = (facts_of parts).height;
  alphabet = (facts_of parts).alphabet;
  rules = (facts_of parts).rules;
  entries = (facts_of parts).entries;
  depth = (facts_of parts).depth;
}
