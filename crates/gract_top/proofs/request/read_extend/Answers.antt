use Rattle.std.proofs.Common.{[], ◌∷◌, refl}
use Rattle.gract_top.specs.Request.{File}
use Rattle.gract_top.proofs.request.read_extend.Goals as goal

pub returns-clause-ok : goal.returns-clause-ok
returns-clause-ok c =
    rw (c.in_ok-index.ensures.ok (File ∷ File ∷ []), c.in_ok-tail.ensures.ok (File ∷ []), c.in_ok-out.ensures.ok [], c.in_ok-end.ensures.ok)
    refl
