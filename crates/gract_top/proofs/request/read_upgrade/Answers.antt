use Rattle.std.proofs.Common.{[], ◌∷◌, refl}
use Rattle.gract_top.specs.Request.{File}
use Rattle.gract_top.proofs.request.read_upgrade.Goals as goal

pub returns-clause-ok : goal.returns-clause-ok
returns-clause-ok c = rw (c.in_ok-old.ensures.ok (File ∷ []), c.in_ok-new.ensures.ok [], c.in_ok-end.ensures.ok) refl
