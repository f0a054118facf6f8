-- What is kept of the tracks of a period's blocks, in leaf order.
use Rattle.std.specs.Prelude.{◌≡◌, ℕ, ◌-◌, ◌*◌, List, [], map, Option, None, Some, ⊤}
use Rattle.std.specs.Global.{Box}
use Rattle.track_types.specs.Frame.{wide_of}
use Rattle.track_types.specs.declared.frame.Frame.{Frame}
use Rattle.k2_tree.specs.Morton.{morton_of}
use Rattle.box_tree.specs.Places.{Places}
use Rattle.box_tree.specs.Tree.{places_with}
use Rattle.rule_store.specs.View.{RulesView}
use Rattle.snapshots.specs.Tracks.{track_box}
use Rattle.snapshots.specs.declared.anchored.Anchored.{Anchored}
use Rattle.snapshots.specs.declared.track_tree.TrackTree.{TrackTree}

-- the Morton number of a block's cell
abbrev pub morton_of_block : Frame → Anchored → ℕ
morton_of_block frame block = morton_of frame.height frame.base block.cell

-- how many instants after the period's first a block begins, and where its log does
abbrev pub begin_of : Anchored → ℕ × ℕ
begin_of block = (block.offset, block.from)

-- how long a block's log is, and whose it is
abbrev pub length_and_index : Anchored → ℕ × ℕ
length_and_index block = (block.len, block.index)

-- how many levels a period's tree has; the upper ones take two digits of the Morton numbers each
abbrev pub level_count : Frame → ℕ
level_count frame = frame.height - wide_of frame

-- how many levels of a period's tree, the lowest ones, take one digit each
abbrev pub narrow_count : Frame → ℕ
narrow_count frame = frame.height - 2 * wide_of frame

-- blocks as places of a tree of boxes: their cells, and the boxes of their tracks
abbrev pub block_places : Frame → RulesView → List Anchored → Places
block_places frame rules blocks = places_with (level_count frame) (narrow_count frame) (map (morton_of_block frame) blocks)
    (map (track_box rules) blocks)

-- what is kept of the tracks is that of these blocks
pub record AreKept (frame : Frame) (rules : RulesView) (blocks : List Anchored) (kept : TrackTree) : Type 0 where
  pub base : kept.tree.base ≡ frame.base
  pub places : kept.tree.places ≡ block_places frame rules blocks
  pub begins : kept.begins ≡ map begin_of blocks
  pub logs : kept.logs ≡ map length_and_index blocks

-- what is kept is of this period
abbrev pub IsOfPeriod : ℕ → Option (Box TrackTree) → Type 0
IsOfPeriod number None = ⊤
IsOfPeriod number (Some kept) = kept.value.number.value ≡ number

-- where nothing is kept, there is no block
abbrev pub IsKept : Frame → RulesView → List Anchored → Option (Box TrackTree) → Type 0
IsKept frame rules blocks None = blocks ≡ []
IsKept frame rules blocks (Some kept) = AreKept frame rules blocks kept.value
