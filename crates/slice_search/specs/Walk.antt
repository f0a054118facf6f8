-- What is left of the walk over the blocks of a period to which a reach leads.
use Rattle.std.specs.Prelude.{ℕ, Bool, List}
use Rattle.track_types.specs.declared.cell_box.CellBox.{CellBox}
use Rattle.snapshots.specs.TrackWalk.{tracks_budget, tracks_left}
use Rattle.snapshots.specs.declared.anchored.Anchored.{Anchored}
use Rattle.snapshots.specs.declared.tracks.Tracks.{Tracks}

module _ {R : Type 0} (tracks : Tracks R) (squares boxes : R → CellBox → Bool) where
  -- the blocks that are left of a walk over what is sought
  abbrev pub sought_left : List Anchored
  sought_left = tracks_left squares boxes tracks

  -- a bound on the reads that are still to be made for the blocks that are left
  abbrev pub sought_budget : ℕ
  sought_budget = tracks_budget squares boxes tracks
