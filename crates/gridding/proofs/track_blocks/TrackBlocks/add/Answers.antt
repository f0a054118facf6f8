use Rattle.std.proofs.Common.{◌≡◌, ◌∙◌}
use Rattle.gridding.proofs.track_blocks.TrackBlocks.add.Goals.{After-add_anywhere, in-Some+else-put, in_default}
use Rattle.gridding.proofs.track_blocks.TrackBlocks.add.Goals as goal

-- a place that is not put where it was guessed changes nothing
unchanged : (c : After-add_anywhere) → c.match-place.self ≡ c.args.self.now
unchanged c = elim c.match-place.branch [
  | in-Some+else-put w ↦ w.self-is ∙ w.put.ensures.left_out w.if-put.false
  | in_default w ↦ w.self-is
]

pub returns-then-put : goal.returns-then-put
returns-then-put c = λ rows blocks. rw c.in-Some.ensures.some at (c.put.ensures.put c.if-put.true rows blocks)

pub returns : goal.returns
returns c = rw (unchanged c) at c.add_anywhere.ensures
