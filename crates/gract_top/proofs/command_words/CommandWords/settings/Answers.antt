use Rattle.std.proofs.Common.{◌∷◌, refl}
use Rattle.gract_top.specs.Request.{period, resolution}
use Rattle.gract_top.proofs.command_words.CommandWords.settings.Goals as goal

pub returns-clause-ok : goal.returns-clause-ok
returns-clause-ok c = λ kinds.
    rw (
      c.in_ok-cell.ensures.ok (resolution ∷ period ∷ kinds),
      c.in_ok-tick.ensures.ok (period ∷ kinds),
      c.in_ok-period.ensures.ok kinds,
    ) refl
