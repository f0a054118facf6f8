use Rattle.std.proofs.Common.{[], ◌∷◌, refl}
use Rattle.gract_top.specs.Request.{period, resolution}
use Rattle.gract_top.proofs.request.read_once.Goals as goal

pub returns-clause-ok : goal.returns-clause-ok
returns-clause-ok c =
    rw (c.in_ok-csv.ensures.ok (resolution ∷ resolution ∷ period ∷ []), c.in_ok-settings.ensures.ok [], c.in_ok-end.ensures.ok)
    refl
