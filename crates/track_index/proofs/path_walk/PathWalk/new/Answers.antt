use Rattle.std.proofs.Common.{◌≡◌, ℤ, [], IsTrue, w64, to_z, of_z, rules, ap, arith, subst}
use Rattle.std.proofs.lemmas.Int.{ints}
use Rattle.std.proofs.lemmas.List.Elements.{All-nil, All-same}
use Rattle.track_types.specs.declared.parts.Parts.{Parts}
use Rattle.log_cursor.specs.Walk.{WalkView}
use Rattle.track_index.specs.Path.{IsOfLast, cost_until, left_needs}
use Rattle.track_index.proofs.NeedsLemmas.{walk-begun}
use Rattle.track_index.proofs.UntilLemmas.{block_reads_to-none}
use Rattle.track_index.proofs.path_walk.PathWalk.new.Goals as goal

-- no block was begun
pub invariant_of-result : goal.invariant_of-result
invariant_of-result c =
    let block : WalkView = c.in_ok-block.block in
    let frame = c.args.index.now.frame in
    let low : ℤ = to_z w64 (of_z w64 c.args.from) in
    record {
      known = c.requires.object;
      within = c.requires.periods;
      rules_are = search rules;
      stops_are = All-same (IsOfLast frame low c.args.periods.next) block.stops []
          (ap (λ (w : WalkView). w.stops) c.in_ok-block.ensures.ok) (All-nil (IsOfLast frame low c.args.periods.next));
    }

pub returns-clause-budget_to : goal.returns-clause-budget_to
returns-clause-budget_to c = λ instant.
    let parts = c.args.index.now in
    let low : to_z w64 (of_z w64 c.args.from) ≡ c.args.from = omega (arith, ints) in
    let same = ap (λ z. cost_until parts c.args.object z instant c.args.periods.next c.args.periods.end) low in
    let nothing = block_reads_to-none parts.frame c.args.periods.next c.in_ok-block.block _ _ instant
    c.in_ok-block.ensures.ok in
    omega (arith, nothing, same)

pub returns-clause-needs : goal.returns-clause-needs
returns-clause-needs c = λ may read needed.
    let parts : Parts = c.args.index.now in
    let index = c.args.object in
    let next = c.args.periods.next in
    let behind = c.args.periods.end in
    let begin : ℤ = to_z w64 (of_z w64 c.args.from) in
    let end : ℤ = to_z w64 (of_z w64 c.args.to) in
    let low : begin ≡ c.args.from = omega (arith, ints) in
    let high : end ≡ c.args.to = omega (arith, ints) in
    subst (λ z. IsTrue (left_needs may parts index z c.args.to next behind read)) low
    (subst (λ z. IsTrue (left_needs may parts index begin z next behind read)) high
    (walk-begun may parts begin end index next behind c.in_ok-block.block _ c.in_ok-block.ensures.ok read needed))
