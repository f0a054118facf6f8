use Rattle.std.proofs.Common.{◌≡◌, ◌∙◌, arith, to_z, of_z, w64}
use Rattle.std.proofs.lemmas.Int.{ints}
use Rattle.std.proofs.lemmas.Result.{IfOk-weaker}
use Rattle.track_index.specs.Cost.{cost_of}
use Rattle.track_index.specs.Path.{path_reads_past}
use Rattle.track_types.specs.declared.parts.Parts.{Parts}
use Rattle.index_merge.proofs.PathLemmas.{drawn-rows, facts-first, facts-last}
use Rattle.index_merge.proofs.ReadsLemmas.{taken}
use Rattle.index_merge.proofs.RowsLemmas.{first-cost, first-path, object-is, object-within, ok-into_all}
use Rattle.index_merge.proofs.index_paths.whole_path.Goals as goal

pub returns : goal.returns
unfolding cost_of
returns c =
    let parts : Parts = c.args.index.now in
    let valid = c.stores.ensures.valid in
    let within = object-within parts valid c.args.place c.args.object c.requires in
    let own = object-is parts valid c.args.place c.args.object c.requires in
    let facts = rw c.view-view.ensures at c.facts-facts.ensures.value in
    let from : to_z w64 (of_z w64 c.facts-facts.result.first) ≡ c.facts-facts.result.first = omega (arith, ints) in
    let to : to_z w64 (of_z w64 c.facts-facts.result.last) ≡ c.facts-facts.result.last = omega (arith, ints) in
    let first = from ∙ facts-first parts c.facts-facts.result facts in
    let last = to ∙ facts-last parts c.facts-facts.result facts in
    let left = rw (c.view-view.ensures, first, last) at c.walk.ensures.left in
    let budget = rw (c.view-view.ensures, first, last) at c.walk.ensures.budget in
    let in_time = rw (c.view-view.ensures, first, last) at c.walk.ensures.in_time in
    record {
      within = omega (arith, within);
      path = IfOk-weaker c.walk.result _ _ (λ walk are.
          first-path parts valid c.args.place c.args.object c.requires walk.stops
          (drawn-rows parts valid c.args.place within c.args.object own walk.stops are)) left;
      cost = IfOk-weaker c.walk.result _ _ (λ walk.
          first-cost parts valid c.args.place c.args.object c.requires walk.reads) budget;
      in_time = ok-into_all c.walk.result _ _ _ _ (λ walk are most each.
          taken parts c.args.place within c.args.object walk.reads (path_reads_past walk) own most each) left budget in_time;
    }
