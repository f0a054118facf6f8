use Rattle.std.proofs.Common.{◌≡◌, IfOk, subst, sym}
use Rattle.snapshots.specs.SoundParts.{IsValid}
use Rattle.parts_order.specs.SettledParts.{settled_parts}
use Rattle.chart_parts.specs.PartsOf.{parts_of}
use Rattle.chart_parts.proofs.PartsLemmas.{IsValid-compressed_parts_of}
use Rattle.chart_parts.proofs.writing.parts_of_cut.Goals as goal

-- the parts are those of some chart, and so those of an index
pub settled-requires : goal.settled-requires
settled-requires c =
    let is = c.requires.1 in
    subst IsValid (sym (c.in_ok-parts.ensures c.requires.0 is))
    (IsValid-compressed_parts_of c.requires.0 is.is (rw is.objects at is.short))

pub returns : goal.returns
unfolding parts_of
returns c chart is =
    subst (λ these. IfOk c.settled.result (λ parts. parts ≡ settled_parts these)) (c.in_ok-parts.ensures chart is)
    c.settled.ensures.ok
