use Rattle.std.proofs.Common.{◌^◌, [], ◌∷◌, refl}
use Rattle.track_types.specs.declared.limit.TheConstants.{MAX_SPAN}
use Rattle.gract_top.specs.Request.{Number, period}
use Rattle.gract_top.proofs.request.read_sample.Goals as goal

pub returns-clause-ok : goal.returns-clause-ok
returns-clause-ok c =
    rw (
      c.in_ok-number.ensures.ok (Number 1 MAX_SPAN ∷ Number 0 (2 ^ 62) ∷ period ∷ []),
      c.in_ok-number-2.ensures.ok (Number 0 (2 ^ 62) ∷ period ∷ []),
      c.in_ok-number-3.ensures.ok (period ∷ []),
      c.in_ok-number-4.ensures.ok [],
      c.in_ok-end.ensures.ok,
    ) refl
