use Rattle.std.proofs.Common.{◌++◌, ℕ, List, Option, take, get_or, ap, sym, ◌∙◌, arith}
use Rattle.std.specs.Prelude.{option_to_list}
use Rattle.std.specs.List.{filter_map, sum_by}
use Rattle.std.proofs.lemmas.List.{append-nil, append_assoc, take_all}
use Rattle.std.proofs.lemmas.List.Sums.{sum_by_more, sum_by_more_le}
use Rattle.track_types.specs.declared.hit.Hit.{Hit}
use Rattle.snapshots.specs.Parts.{chart_in}
use Rattle.track_index.specs.Cost.{cost_of}
use Rattle.live_tail.specs.Cost.{standing_cost}
use Rattle.live_tail.specs.Hits.{standing}
use Rattle.live_tail.specs.Join.{rows_of_tail}
use Rattle.live_tail.proofs.HitLemmas.{filter_map-more, no_hit}
use Rattle.live_tail.proofs.interval.TailInterval.push_standing.Goals as goal

pub loop-hit-init : goal.loop-hit-init
loop-hit-init g c = record { found = sym (append-nil _); reads = omega arith }

pub loop-hit-preserved : goal.loop-hit-preserved
loop-hit-preserved g c =
    let self = c.args.self.now in
    let hits : List Hit = c.args.hits.now in
    let i : ℕ = c.loop-hit.hit-index in
    let make : Hit → Option Hit = standing (chart_in self.index.index.now).rows (rows_of_tail self.tail.now) self.from self.to self.test.now.region in
    let reads : Hit → ℕ = standing_cost (cost_of self.index.index.now) (rows_of_tail self.tail.now) self.from self.to in
    record {
      found = c.in_ok-push_found.ensures
          ∙ ap (λ hit. c.loop-hit.found.items ++ option_to_list hit) c.in_ok-stands.ensures.ok
          ∙ ap (λ found. found ++ option_to_list (make (get_or hits i no_hit))) c.loop-hit.invariant.found
          ∙ append_assoc c.args.found.now.items (filter_map make (take i hits)) (option_to_list (make (get_or hits i no_hit)))
          ∙ ap (λ found. c.args.found.now.items ++ found) (sym (filter_map-more make hits i no_hit c.loop-hit-test.true));
      reads = omega (arith, c.standing.ensures.cost, c.loop-hit.invariant.reads, sum_by_more reads hits i no_hit c.loop-hit-test.true);
    }

pub returns-in_err-stands-clause-cost : goal.returns-in_err-stands-clause-cost
returns-in_err-stands-clause-cost g c =
    let self = c.args.self.now in
    let reads : Hit → ℕ = standing_cost (cost_of self.index.index.now) (rows_of_tail self.tail.now) self.from self.to in
    omega (
      arith,
      c.standing.ensures.cost,
      c.loop-hit.invariant.reads,
      sum_by_more_le reads c.args.hits.now c.loop-hit.hit-index no_hit c.loop-hit-test.true,
    )

pub returns-in_err-push_found-clause-cost : goal.returns-in_err-push_found-clause-cost
returns-in_err-push_found-clause-cost g c =
    let self = c.args.self.now in
    let reads : Hit → ℕ = standing_cost (cost_of self.index.index.now) (rows_of_tail self.tail.now) self.from self.to in
    omega (
      arith,
      c.standing.ensures.cost,
      c.loop-hit.invariant.reads,
      sum_by_more_le reads c.args.hits.now c.loop-hit.hit-index no_hit c.loop-hit-test.true,
    )

pub returns-clause-found : goal.returns-clause-found
returns-clause-found g c =
    let self = c.args.self.now in
    let make : Hit → Option Hit = standing (chart_in self.index.index.now).rows (rows_of_tail self.tail.now) self.from self.to self.test.now.region in
    c.loop-hit.invariant.found
    ∙ ap (λ hits. c.args.found.now.items ++ filter_map make hits)
    (take_all c.loop-hit.hit-index c.args.hits.now c.loop-hit-test.false)

pub returns-clause-cost : goal.returns-clause-cost
returns-clause-cost g c =
    let self = c.args.self.now in
    let reads : Hit → ℕ = standing_cost (cost_of self.index.index.now) (rows_of_tail self.tail.now) self.from self.to in
    omega (
      arith,
      c.loop-hit.invariant.reads,
      ap (sum_by reads) (take_all c.loop-hit.hit-index c.args.hits.now c.loop-hit-test.false),
    )
