use Rattle.std.proofs.Common.{[], ◌∷◌, refl}
use Rattle.gract_top.specs.Request.{File, period, resolution}
use Rattle.gract_top.proofs.request.read_build.Goals as goal

pub returns-clause-ok : goal.returns-clause-ok
returns-clause-ok c =
    rw (
      c.in_ok-csv.ensures.ok (File ∷ resolution ∷ resolution ∷ period ∷ []),
      c.in_ok-index.ensures.ok (resolution ∷ resolution ∷ period ∷ []),
      c.in_ok-settings.ensures.ok [],
      c.in_ok-end.ensures.ok,
    ) refl
