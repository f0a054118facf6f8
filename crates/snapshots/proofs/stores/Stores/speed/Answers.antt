use Rattle.std.proofs.Common.{◌<◌, ap, subst, sym, ◌∙◌}
use Rattle.track_types.specs.Frame.{periods_of}
use Rattle.track_types.specs.declared.parts.Parts.{Parts}
use Rattle.snapshots.specs.Speed.{speed_of}
use Rattle.snapshots.specs.Stores.{join_of}
use Rattle.snapshots.proofs.GetterLemmas.{speed-at}
use Rattle.snapshots.proofs.stores.Stores.speed.Goals as goal

pub returns : goal.returns
returns c =
    let is = c.self.inside in
    let parts : Parts = join_of is.frame is.objects is.rules is.snaps.items in
    let within = subst (λ (p : Parts). c.args.period < periods_of p.frame) (sym c.self.view_is) c.requires in
    record {
      value = c.index.ensures
          ∙ speed-at parts is.speeds.items c.args.period c.index.result.now c.self.invariant.speeds_are within
          ∙ ap (λ (p : Parts). speed_of p c.args.period) c.self.view_is;
    }
