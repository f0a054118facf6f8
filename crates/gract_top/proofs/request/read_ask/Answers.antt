use Rattle.std.proofs.Common.{[], ◌∷◌, refl}
use Rattle.gract_top.specs.Request.{OptionalFile}
use Rattle.gract_top.proofs.request.read_ask.Goals as goal

pub returns-in-None-clause-ok : goal.returns-in-None-clause-ok
returns-in-None-clause-ok c =
    rw (c.in_ok-index.ensures.ok (OptionalFile ∷ []), c.in_ok-tail.ensures.ok [], c.in_ok-end.ensures.ok, c.in-None.is) refl

pub returns-in-Some-clause-ok : goal.returns-in-Some-clause-ok
returns-in-Some-clause-ok c =
    rw (c.in_ok-index.ensures.ok (OptionalFile ∷ []), c.in_ok-tail.ensures.ok [], c.in_ok-end.ensures.ok, c.in-Some.is) refl
