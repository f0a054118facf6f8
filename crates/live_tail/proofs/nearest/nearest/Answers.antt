use Rattle.std.proofs.Common.{◌≡◌, ◌+◌, ◌≤◌, List, filter, to_z, of_z, w64, sym, ◌∙◌, arith, rules}
use Rattle.std.specs.Prelude.{not}
use Rattle.std.specs.List.Sorted.{IsSorted}
use Rattle.std.proofs.lemmas.Fn.{filter_same}
use Rattle.std.proofs.lemmas.Int.{ints}
use Rattle.std.proofs.lemmas.List.Sorted.{answers_always}
use Rattle.track_types.specs.ByFilter.{is_row_at, near_order}
use Rattle.track_types.specs.declared.near.Near.{Near}
use Rattle.live_tail.specs.Cost.{nearest_cost_beside, raised_count}
use Rattle.live_tail.specs.Join.{rows_of_tail, rows_of_both}
use Rattle.live_tail.specs.SmallRows.{rows_in}
use Rattle.live_tail.proofs.InstantLemmas.{has_object}
use Rattle.live_tail.proofs.NearLemmas.{cost-some, nears_of-none, nears_of-rows_of_both}
use Rattle.live_tail.proofs.nearest.nearest.Given.{Over}
use Rattle.live_tail.proofs.nearest.nearest.Goals as goal
use Rattle.live_tail.proofs.nearest.nearest.Goals.{After-nearest}

pub returns-then-count-eq0-clause-ok : goal.returns-then-count-eq0-clause-ok
returns-then-count-eq0-clause-ok g c =
    c.new.ensures.items
    ∙ sym (nears_of-none (rows_of_both (g.A.Answerer.chart c.args.answerer).rows (rows_of_tail c.args.tail.now)) c.args.count c.args.instant
    c.args.cell (omega (arith, c.if-count-eq0.true)))

-- the tail's rows of the instant
own : (g : Over) (c : After-nearest g) → (rows_in c.rows_at-own.result) ≡ filter (is_row_at c.args.instant) (rows_of_tail c.args.tail.now)
own g c =
    let same : to_z w64 (of_z w64 c.args.instant) ≡ c.args.instant = omega (arith, ints) in
    rw same at c.rows_at-own.ensures.value

-- the index is asked for so many
raised : (g : Over) (c : After-nearest g) →
    c.raised_count-raised.result ≡ raised_count (rows_of_tail c.args.tail.now) c.args.count c.args.instant
raised g c = rw (c.len.ensures, own g c) at c.raised_count-raised.ensures

spent : (g : Over) (c : After-nearest g) → c.nearest.new.steps ≤ c.args.steps.now
    + nearest_cost_beside (g.A.Answerer.cost c.args.answerer) (rows_of_tail c.args.tail.now) c.args.count c.args.instant c.args.cell
spent g c =
    let same : to_z w64 (of_z w64 c.args.instant) ≡ c.args.instant = omega (arith, ints) in
    let cost = rw (same, raised g c) at c.nearest.ensures.cost in
    omega (
      arith,
      cost,
      cost-some (g.A.Answerer.cost c.args.answerer) (rows_of_tail c.args.tail.now) c.args.count c.args.instant c.args.cell
          (omega (arith, c.if-count-eq0.false)),
    )

pub nearest-requires-clause-may : goal.nearest-requires-clause-may
nearest-requires-clause-may g c =
    let same : to_z w64 (of_z w64 c.args.instant) ≡ c.args.instant = omega (arith, ints) in
    λ read needed. c.requires.may c.raised_count-raised.result read (rw same at needed)

pub returns-in_err-found-clause-cost : goal.returns-in_err-found-clause-cost
returns-in_err-found-clause-cost g c = spent g (goal.at.returns-in_err-found-clause-cost g c).After-nearest

pub returns-in_err-push_nears-clause-cost : goal.returns-in_err-push_nears-clause-cost
returns-in_err-push_nears-clause-cost g c = spent g (goal.at.returns-in_err-push_nears-clause-cost g c).After-nearest

pub returns-clause-cost : goal.returns-clause-cost
returns-clause-cost g c = spent g (goal.at.returns-clause-cost g c).After-nearest

pub returns-clause-ok : goal.returns-clause-ok
returns-clause-ok g c =
    let same : to_z w64 (of_z w64 c.args.instant) ≡ c.args.instant = omega (arith, ints) in
    let here = goal.at.returns-clause-ok g c in
    let kept = filter_same _ (λ (near : Near). not (has_object (rows_in c.rows_at-own.result) near.object)) _ (λ x b f k. search rules)
    c.in_ok-found.found.items c.retain.new.self.items c.retain.ensures.filtered in
    let pushed = rw (kept, c.in_ok-found.ensures.ok, same, own g here.After-nearest) at c.in_ok-push_nears.ensures in
    let sorted : List Near = c.sort_unstable_by_key.new.self.items in
    let order : IsSorted near_order sorted =
    c.sort_unstable_by_key.ensures.sorted (λ (near : Near). (near.dist2, near.object)) (answers_always _ _ _ (λ f a r g h. search rules)) in
    c.truncate.ensures.items
    ∙ nears_of-rows_of_both (g.A.Answerer.chart c.args.answerer).rows (rows_of_tail c.args.tail.now) c.facts.ensures.table.ascending
    (rw c.rows-own.ensures.value at c.rows-own.ensures.ascending) c.args.instant c.args.cell c.args.count
    c.raised_count-raised.result (raised g here.After-nearest) c.requires.few sorted
    (rw pushed at c.sort_unstable_by_key.ensures.permutation) order
