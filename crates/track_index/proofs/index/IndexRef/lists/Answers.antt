use Rattle.std.proofs.Common.{◌∙◌, ap}
use Rattle.std.specs.Prelude.{is_some}
use Rattle.track_types.specs.declared.parts.Parts.{Parts}
use Rattle.snapshots.specs.Parts.{index_in}
use Rattle.track_index.proofs.ListedLemmas.{is_listed-index_in}
use Rattle.track_index.proofs.index.IndexRef.lists.Goals as goal

pub returns : goal.returns
returns c =
    c.is_some.ensures
    ∙ ap is_some (c.index_of.ensures.value ∙ ap (λ (p : Parts). index_in p.objects c.args.object) c.stores.ensures.value)
    ∙ is_listed-index_in c.args.self.index.now.objects c.args.object
