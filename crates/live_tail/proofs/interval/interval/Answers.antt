use Rattle.std.proofs.Common.{◌≡◌, ◌++◌, ◌+◌, ◌≤◌, ℕ, ℤ, List, to_z, of_z, w64, ap, sym, subst, ◌∙◌, arith, rules}
use Rattle.std.specs.List.{dedup, filter_map, sum_by}
use Rattle.std.specs.List.Sorted.{IsSorted}
use Rattle.std.proofs.lemmas.Fn.{dedup_same}
use Rattle.std.proofs.lemmas.Int.{ints}
use Rattle.std.proofs.lemmas.List.Sorted.{answers_always}
use Rattle.track_types.specs.ByFilter.{hits_of}
use Rattle.track_types.specs.Row.{IsAscending, place_order}
use Rattle.track_types.specs.declared.hit.Hit.{Hit}
use Rattle.track_types.specs.declared.question.Question.TheVariants.{Interval}
use Rattle.track_types.specs.declared.region.Region.{Region}
use Rattle.track_types.specs.declared.row.Row.{Row}
use Rattle.track_types.proofs.AskedLemmas.{IsRegionWithin-asked}
use Rattle.snapshots.specs.Parts.{chart_in}
use Rattle.track_index.specs.Cost.{cost_of}
use Rattle.live_tail.specs.Cost.{interval_cost_beside, standing_cost}
use Rattle.live_tail.specs.Hits.{HaveFirst, standing}
use Rattle.live_tail.specs.Join.{rows_of_tail, rows_of_both}
use Rattle.live_tail.proofs.FirstLemmas.{HaveFirst-dedup, HaveFirst-hits_of, HaveFirst-moved, dedup-rises, hit_place, hits_of-rise, is_same_object, same_first}
use Rattle.live_tail.proofs.JoinLemmas.{IsAscending-rows_of_both}
use Rattle.live_tail.proofs.StandingLemmas.{HaveFirst-standing, standing-cost}
use Rattle.live_tail.proofs.interval.interval.Given.{Over}
use Rattle.live_tail.proofs.interval.interval.Goals as goal
use Rattle.live_tail.proofs.interval.interval.Goals.{After-interval, After-push_standing}

pub hits-requires : goal.hits-requires
hits-requires g c = IsRegionWithin-asked c.args.region.now c.requires.region

module _ (g : Over) where
  -- what the index's interval cost
  asked : (c : After-interval g) → c.interval.new.steps
      ≤ c.args.steps.now + cost_of c.args.index.index.now (Interval c.args.from c.args.to c.args.region.now)
  asked c =
      let low : to_z w64 (of_z w64 c.args.from) ≡ c.args.from = omega (arith, ints) in
      let high : to_z w64 (of_z w64 c.args.to) ≡ c.args.to = omega (arith, ints) in
      rw (low, high) at c.interval.ensures.cost

  -- what it found
  its_hits : (c : After-push_standing g) → c.as_slice.result.now ≡ hits_of (chart_in c.args.index.index.now).rows c.args.from c.args.to c.args.region.now
  its_hits c =
      let low : to_z w64 (of_z w64 c.args.from) ≡ c.args.from = omega (arith, ints) in
      let high : to_z w64 (of_z w64 c.args.to) ≡ c.args.to = omega (arith, ints) in
      c.as_slice.ensures.value ∙ rw (low, high) at c.in_ok-hits.ensures.ok

  -- what both cost
  all_cost : (c : After-push_standing g) → c.interval.new.steps
      ≤ c.args.steps.now + cost_of c.args.index.index.now (Interval c.args.from c.args.to c.args.region.now) → c.push_standing.new.steps ≤ c.args.steps.now
      + interval_cost_beside (cost_of c.args.index.index.now) (rows_of_tail c.args.tail.now) c.args.from c.args.to c.args.region.now
  unfolding interval_cost_beside
  all_cost c before =
      let low : to_z w64 (of_z w64 c.args.from) ≡ c.args.from = omega (arith, ints) in
      let high : to_z w64 (of_z w64 c.args.to) ≡ c.args.to = omega (arith, ints) in
      let reads : Hit → ℕ = standing_cost (cost_of c.args.index.index.now) (rows_of_tail c.args.tail.now) c.args.from c.args.to in
      let more : c.push_standing.new.steps ≤ c.interval.new.steps + sum_by reads c.as_slice.result.now = rw (low, high) at c.push_standing.ensures.cost in
      omega (
        arith,
        before,
        more,
        ap (sum_by reads) (its_hits c),
        standing-cost (chart_in c.args.index.index.now).rows (rows_of_tail c.args.tail.now) c.facts.ensures.table.ascending
            (subst IsAscending c.rows.ensures.value c.rows.ensures.ascending) c.args.from c.args.to c.args.region.now (cost_of c.args.index.index.now),
      )

pub returns-in_err-hits-clause-cost : goal.returns-in_err-hits-clause-cost
unfolding interval_cost_beside
returns-in_err-hits-clause-cost g c = omega (arith, asked g (goal.at.returns-in_err-hits-clause-cost g c).After-interval)

pub returns-in_err-push_standing-clause-cost : goal.returns-in_err-push_standing-clause-cost
returns-in_err-push_standing-clause-cost g c =
    let at = goal.at.returns-in_err-push_standing-clause-cost g c in
    all_cost g at.After-push_standing (asked g at.After-interval)

pub returns-clause-cost : goal.returns-clause-cost
returns-clause-cost g c =
    let at = goal.at.returns-clause-cost g c in
    all_cost g at.After-push_standing (asked g at.After-interval)

pub returns-clause-ok : goal.returns-clause-ok
returns-clause-ok g c =
    let from : ℤ = c.args.from in
    let to : ℤ = c.args.to in
    let region : Region = c.args.region.now in
    let rows : List Row = (chart_in c.args.index.index.now).rows in
    let tail : List Row = rows_of_tail c.args.tail.now in
    let both : List Row = rows_of_both rows tail in
    let up = c.facts.ensures.table.ascending in
    let also = subst IsAscending c.rows.ensures.value c.rows.ensures.ascending in
    let up_both = IsAscending-rows_of_both rows tail up also in
    let low : to_z w64 (of_z w64 c.args.from) ≡ from = omega (arith, ints) in
    let high : to_z w64 (of_z w64 c.args.to) ≡ to = omega (arith, ints) in
    let sorted : List Hit = c.sort_unstable_by_key.new.self.items in
    let own : HaveFirst tail from to region c.in_ok-found.found.items = rw (low, high) at c.in_ok-found.ensures in
    let pushed : c.push_standing.new.found.items
    ≡ c.in_ok-found.found.items ++ filter_map (standing rows tail from to region) (hits_of rows from to region) =
    rw (low, high) at c.in_ok-push_standing.ensures.found
    ∙ ap (λ hits. c.in_ok-found.found.items ++ filter_map (standing rows tail from to region) hits)
    (its_hits g (goal.at.returns-clause-ok g c).After-push_standing) in
    let enough : HaveFirst both from to region sorted =
    HaveFirst-moved both from to region c.push_standing.new.found.items sorted c.sort_unstable_by_key.ensures.permutation
    (subst (HaveFirst both from to region) (sym pushed) (HaveFirst-standing rows tail up also from to region c.in_ok-found.found.items own)) in
    let order : IsSorted (λ (a b : Hit). place_order (hit_place a) (hit_place b)) sorted =
    c.sort_unstable_by_key.ensures.sorted hit_place (answers_always _ _ _ (λ f a r g h. search rules)) in
    let deduped : c.dedup_by_key.new.self.items ≡ dedup is_same_object sorted =
    dedup_same _ is_same_object _ (λ x y b f' x' y' k. search rules) _ _ c.dedup_by_key.ensures.filtered in
    deduped
    ∙ same_first both up_both from to region (dedup is_same_object sorted) (hits_of both from to region)
    (dedup-rises sorted order) (hits_of-rise both up_both from to region)
    (HaveFirst-dedup sorted order both from to region enough) (HaveFirst-hits_of both up_both from to region)
