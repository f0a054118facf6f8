use Rattle.std.proofs.Common.{[], ◌∷◌, refl}
use Rattle.gract_top.specs.Request.{File}
use Rattle.gract_top.proofs.request.read_merge.Goals as goal

pub returns-clause-ok : goal.returns-clause-ok
returns-clause-ok c =
    rw (c.in_ok-left.ensures.ok (File ∷ File ∷ []), c.in_ok-right.ensures.ok (File ∷ []), c.in_ok-out.ensures.ok [], c.in_ok-end.ensures.ok)
    refl
