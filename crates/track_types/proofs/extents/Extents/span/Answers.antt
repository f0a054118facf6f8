use Rattle.track_types.proofs.extents.Extents.span.Goals as goal

pub returns : goal.returns
returns c = λ rows are. rw (are.time.least, are.time.greatest) at c.width.ensures
