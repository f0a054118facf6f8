use Rattle.std.proofs.Common.{inl, inr}
use Rattle.gridding.proofs.BlockLemmas.{has_added}
use Rattle.gridding.proofs.track_blocks.TrackBlocks.add_anywhere.Goals as goal

pub returns-then-is_one_too_many : goal.returns-then-is_one_too_many
returns-then-is_one_too_many c =
    (λ rows blocks. blocks, λ rows blocks. inr (c.is_one_too_many.ensures c.if-is_one_too_many.true rows blocks))

pub returns : goal.returns
returns c = λ rows blocks.
    rw c.in-Some.ensures.some at (c.in_ok-put_known.ensures.put rows (c.begin_around.ensures.kept rows blocks))

pub returns-in_default : goal.returns-in_default
returns-in_default c =
    let away = c.begin_around.ensures.away c.in_default.ensures.none in
    has_added c.args.row c.args.self.now c.add_far.new.self c.add_far.result
    (λ is rows blocks. c.add_far.ensures.put is rows (c.begin_around.ensures.kept rows blocks))
    (λ is. (
      λ rows blocks. c.add_far.ensures.left_out is rows (c.begin_around.ensures.kept rows blocks),
      λ rows blocks. inl ((away.0, rw away.1 at c.in_default.ensures.none), rw away.1 at (c.add_far.ensures.apart is)),
    ))
