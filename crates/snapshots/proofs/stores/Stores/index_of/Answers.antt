use Rattle.std.proofs.Common.{Ok, Err, ap, subst, sym, ◌∙◌}
use Rattle.std.specs.List.Sorted.{IsStrictlyIncreasing}
use Rattle.track_types.specs.declared.parts.Parts.{Parts}
use Rattle.snapshots.specs.Parts.{index_in}
use Rattle.snapshots.proofs.GetterLemmas.{index_in-searched}
use Rattle.snapshots.proofs.stores.Stores.index_of.Goals as goal

pub returns-in-Ok : goal.returns-in-Ok
returns-in-Ok c =
    let rising = subst IsStrictlyIncreasing (sym c.as_slice.ensures) c.self.invariant.valid.shaped.objects in
    record {
      value =
          index_in-searched c.as_slice.result.now c.args.object (Ok c.in-Ok.index) rising c.in-Ok.ensures.position
          ∙ ap (λ xs. index_in xs c.args.object) (c.as_slice.ensures ∙ ap (λ (p : Parts). p.objects) c.self.view_is);
    }

pub returns-in-Err : goal.returns-in-Err
returns-in-Err c =
    let rising = subst IsStrictlyIncreasing (sym c.as_slice.ensures) c.self.invariant.valid.shaped.objects in
    record {
      value =
          index_in-searched c.as_slice.result.now c.args.object (Err c.in-Err._place) rising c.in-Err.ensures.position
          ∙ ap (λ xs. index_in xs c.args.object) (c.as_slice.ensures ∙ ap (λ (p : Parts). p.objects) c.self.view_is);
    }
