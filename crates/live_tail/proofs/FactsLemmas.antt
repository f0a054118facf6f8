-- The facts of an index and a tail, from their parts.
use Rattle.std.proofs.Common.{◌≡◌, ℕ, ℤ, None, Some, refl}
use Rattle.std.specs.Prelude.{Option}
use Rattle.std.specs.Int.{int_max, int_min}
use Rattle.track_types.specs.Chart.{ChartView}
use Rattle.track_types.specs.declared.facts.Facts.{Facts}
use Rattle.track_types.specs.declared.parts.Parts.{Parts}
use Rattle.snapshots.specs.Parts.{chart_in}
use Rattle.track_index.specs.Facts.{facts_of}
use Rattle.live_tail.specs.Facts.{IsCount, facts_with}
use Rattle.live_tail.specs.Join.{joint_chart}

module _ (parts : Parts) (tail : Option ChartView) (facts : Facts) (is : facts ≡ facts_of parts) where
  pub facts-made : (objects : ℕ) (first last : ℤ) → IsCount parts tail objects → first ≡ (joint_chart (chart_in parts) tail).first
      → last ≡ (joint_chart (chart_in parts) tail).last
      → record {
        objects = objects;
        first = first;
        last = last;
        period = facts.period;
        cell = facts.cell;
        tick = facts.tick;
        height = facts.height;
        alphabet = facts.alphabet;
        rules = facts.rules;
        entries = facts.entries;
        depth = facts.depth;
      } ≡ facts_with parts tail
  unfolding facts_with
  facts-made objects first last count one other = rw (is, count.is, one, other) refl

  -- the ends are the index's, or the farther ones of both
  pub first-none : tail ≡ None → facts.first ≡ (joint_chart (chart_in parts) tail).first
  unfolding facts_of chart_in
  first-none none = rw (is, none) refl

  pub last-none : tail ≡ None → facts.last ≡ (joint_chart (chart_in parts) tail).last
  unfolding facts_of chart_in
  last-none none = rw (is, none) refl

  pub first-some : (chart : ChartView) → tail ≡ Some chart → int_min facts.first chart.first ≡ (joint_chart (chart_in parts) tail).first
  unfolding facts_of chart_in
  first-some chart some = rw (is, some) refl

  pub last-some : (chart : ChartView) → tail ≡ Some chart → int_max facts.last chart.last ≡ (joint_chart (chart_in parts) tail).last
  unfolding facts_of chart_in
  last-some chart some = rw (is, some) refl
