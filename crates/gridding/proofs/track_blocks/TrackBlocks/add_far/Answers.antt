use Rattle.gridding.proofs.track_blocks.TrackBlocks.add_far.Goals as goal

pub returns-clause-put : goal.returns-clause-put
returns-clause-put c = λ _ rows blocks.
    let moved = rw c.in-Some.is at c.in_ok-moved.ensures.kept in
    rw c.in-Some-place.ensures.some at (c.in_ok-put_known.ensures.put rows (moved rows blocks))

pub returns-in_default-place-clause-apart : goal.returns-in_default-place-clause-apart
returns-in_default-place-clause-apart c = λ _.
    absurd (c.in_default-place.ensures.none (rw c.in-Some.is at c.in_ok-moved.ensures.reached))
