-- The parts of an index in the newest version of the format.
use Rattle.std.specs.Prelude.{ℕ, ◌*◌, Bool, List, length, map}
use Rattle.track_types.specs.Frame.{wide_of}
use Rattle.track_types.specs.declared.frame.Frame.{Frame}
use Rattle.track_types.specs.declared.limit.TheConstants.{MAX_VERSION}
use Rattle.track_types.specs.declared.parts.Parts.{Parts}
use Rattle.track_types.specs.declared.period_parts.PeriodParts.{PeriodParts}
use Rattle.bit_rank.specs.Cost.{window_reads}
use Rattle.k2_tree.specs.Tree.{Tree, tree_bits, tree_of, tree_with}
use Rattle.k2_tree.specs.TreeSquares.{squares_of}
use Rattle.snapshots.specs.View.{SnapshotView, tree_in}

-- the header in the newest version
abbrev pub newest : Frame → Frame
newest frame = record {
  version = MAX_VERSION;
  first = frame.first;
  span = frame.span;
  period = frame.period;
  height = frame.height;
  base = frame.base;
  cell = frame.cell;
  tick = frame.tick;
}

-- the tree of the cells that bits of a header's version stand for, with the levels of the newest version
abbrev pub newest_tree : Frame → List Bool → Tree
newest_tree frame bits = tree_with frame.height (wide_of (newest frame)) frame.base
    (tree_of frame.height (wide_of frame) frame.base bits).cells

-- the parts of a period, whose tree alone changes
abbrev pub upgraded_period : Frame → PeriodParts → PeriodParts
upgraded_period frame period = record {
  present = period.present;
  offsets = period.offsets;
  tree = tree_bits (newest_tree frame period.tree);
  lasts = period.lasts;
  perm = period.perm;
  lengths = period.lengths;
}

-- the parts of a snapshot in the newest version
abbrev pub upgraded_parts : SnapshotView → PeriodParts
upgraded_parts view = upgraded_period view.frame view.parts

-- the reads of a listing of a snapshot's tree
abbrev pub tree_reads : SnapshotView → ℕ
tree_reads view = window_reads * length (squares_of (tree_in view))

-- the parts of an index, whose header and trees alone change
unfoldable pub upgrade_of : Parts → Parts
upgrade_of parts = record {
  frame = newest parts.frame;
  objects = parts.objects;
  alphabet = parts.alphabet;
  rules = parts.rules;
  periods = map (upgraded_period parts.frame) parts.periods;
  symbols = parts.symbols;
}
