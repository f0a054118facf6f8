use Rattle.std.proofs.Common.{◌≡◌, ◌∙◌, Option, Some, None, true, sym, ap, refl, arith}
use Rattle.std.specs.Prelude.{not}
use Rattle.std.specs.Option.{is_some}
use Rattle.std.proofs.lemmas.Bool.Decides.{nat_tests}
use Rattle.gridding.proofs.BlockLemmas.{no_rows_from_none}
use Rattle.gridding.proofs.track_blocks.TrackBlocks.is_one_too_many.Goals as goal

-- what is not found is none
absent : {T : Type 0} (found : Option T) → not (is_some found) ≡ true → found ≡ None
absent None is = refl
absent (Some x) is = cc

pub returns-then-len : goal.returns-then-len
returns-then-len c = λ is rows blocks. (
  no_rows_from_none rows c.args.self.now c.args.object blocks (absent _ (ap not (sym c.contains_key.ensures) ∙ is)),
  grind (arith, nat_tests, c.len.ensures.len, c.if-len.true),
)
