-- What the stores of an index hold: its parts.
use Rattle.std.specs.Prelude.{◌≡◌, ℕ, ◌<◌, List, length, map, slice_index_or, Option, None}
use Rattle.std.specs.Global.{Box}
use Rattle.track_types.specs.Frame.{periods_of}
use Rattle.track_types.specs.PartsForm.{IsShaped}
use Rattle.track_types.specs.declared.frame.Frame.{Frame}
use Rattle.track_types.specs.declared.parts.Parts.{Parts}
use Rattle.track_types.specs.declared.period_parts.PeriodParts.{PeriodParts}
use Rattle.rule_store.specs.View.{RulesView}
use Rattle.snapshots.specs.View.{SnapshotView}
use Rattle.snapshots.specs.Parts.{numbers_in, rules_in, snapshot_in, start_in}
use Rattle.snapshots.specs.SoundParts.{IsValid}
use Rattle.snapshots.specs.Speed.{speed_of}
use Rattle.snapshots.specs.Tracks.{blocks_by_leaf}
use Rattle.snapshots.specs.TrackTree.{IsKept, IsOfPeriod}
use Rattle.snapshots.specs.declared.track_tree.TrackTree.{TrackTree}

-- the parts of a snapshot
abbrev pub period_parts_of : SnapshotView → PeriodParts
period_parts_of view = view.parts

-- the parts that a header, objects, rules and snapshots make up
abbrev pub join_of : Frame → List ℕ → RulesView → List SnapshotView → Parts
join_of frame objects rules snaps = record {
  frame = frame;
  objects = objects;
  alphabet = rules.alphabet;
  rules = rules.rules;
  periods = map period_parts_of snaps;
  symbols = rules.symbols;
}

-- the snapshots of all periods
abbrev pub snapshots_in : Parts → List SnapshotView
snapshots_in parts = map (snapshot_in parts) (numbers_in parts.frame)

-- rules and snapshots are those of the parts, and the logs stand one after another to the end of the symbols
pub record AreOf (parts : Parts) (rules : RulesView) (snaps : List SnapshotView) : Type 0 where
  pub shaped : IsShaped parts
  pub rules_are : rules ≡ rules_in parts
  pub snaps_are : snaps ≡ snapshots_in parts
  pub total : start_in parts (periods_of parts.frame) ≡ length parts.symbols

-- what is kept of the tracks of the periods' blocks
pub record AreTracks (parts : Parts) (count : ℕ) (tracks : List (Option (Box TrackTree))) : Type 0 where
  pub long : length tracks ≡ count
  pub kept : (number : ℕ) → number < count → IsKept parts.frame (rules_in parts)
      (blocks_by_leaf (snapshot_in parts number)) (slice_index_or tracks number None)
  pub numbers : (number : ℕ) → number < count → IsOfPeriod number (slice_index_or tracks number None)

-- what holds of all stores: the parts are valid, and rules, snapshots, speeds and tracks are theirs
pub record AreStores (parts : Parts) (rules : RulesView) (snaps : List SnapshotView) (speeds : List ℕ)
    (tracks : List (Option (Box TrackTree))) : Type 0 where
  pub valid : IsValid parts
  pub rules_are : rules ≡ rules_in parts
  pub snaps_are : snaps ≡ snapshots_in parts
  pub speeds_are : speeds ≡ map (speed_of parts) (numbers_in parts.frame)
  pub tracks_are : AreTracks parts (periods_of parts.frame) tracks
