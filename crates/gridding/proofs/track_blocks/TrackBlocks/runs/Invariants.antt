use Rattle.std.proofs.Common.{◌≡◌, ◌++◌, map}
use Rattle.std.specs.List.{zip}
use Rattle.gridding.specs.Blocks.{filled_of, runs_in, runs_of}
use Rattle.gridding.proofs.track_blocks.TrackBlocks.runs.Given as goal

-- the runs that are done, and those that are left
abbrev pub invariant-loop-object : goal.invariant-loop-object
invariant-loop-object l =
    runs_in l.runs.items
    ++ zip l.object-iterator.a.rest.now
    (map filled_of (zip l.object-iterator.b.a.rest.now l.object-iterator.b.b.rest.now))
    ≡ runs_of l.self
