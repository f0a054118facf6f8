-- A period's tree in the newest version: it is made of the same cells, which are few and ascend.
use Rattle.std.proofs.Common.{◌≡◌, ℕ, ◌≤◌, List, [], ◌∷◌, length, map, refl, ap, arith}
use Rattle.std.specs.List.{sum_by}
use Rattle.std.proofs.lemmas.List.Sums.{sum_by-le-sum_by}
use Rattle.list_laws.proofs.FlatLemmas.{sum_by-map}
use Rattle.packed_bits.proofs.OnesLemmas.{ones_of-le-length}
use Rattle.track_types.specs.declared.frame.Frame.{Frame}
use Rattle.track_types.specs.declared.limit.TheConstants.{MAX_OBJECTS}
use Rattle.track_types.specs.declared.parts.Parts.{Parts}
use Rattle.track_types.specs.declared.period_parts.PeriodParts.{PeriodParts}
use Rattle.snapshots.specs.IndexCost.{blocks_reads, open_cost}
use Rattle.snapshots.specs.Parts.{numbers_in, snapshot_in}
use Rattle.snapshots.specs.Sound.{IsSnapshot}
use Rattle.snapshots.specs.Stores.{period_parts_of, snapshots_in}
use Rattle.snapshots.specs.Upgrade.{newest, tree_reads, upgrade_of, upgraded_parts, upgraded_period}
use Rattle.snapshots.specs.View.{SnapshotView, tree_in}

-- a set of cells has few of them, since each is the cell of an object
pub few_cells : (view : SnapshotView) → IsSnapshot view → length (tree_in view).cells ≤ MAX_OBJECTS
few_cells view is =
    omega (
      arith,
      is.sound.cells,
      ones_of-le-length view.parts.lasts,
      is.shaped.lasts,
      ones_of-le-length view.parts.present,
      is.shaped.presence,
      is.shaped.few,
    )

-- the parts of snapshots of one index change by its header
pub periods-upgraded : (parts : Parts) (numbers : List ℕ) → map upgraded_parts (map (snapshot_in parts) numbers)
    ≡ map (upgraded_period parts.frame) (map period_parts_of (map (snapshot_in parts) numbers))
periods-upgraded parts [] = refl
periods-upgraded parts (number ∷ numbers) =
    ap (λ rest. upgraded_parts (snapshot_in parts number) ∷ rest) (periods-upgraded parts numbers)

-- a listing of a tree reads no more than what finds all blocks
reads-blocks : (view : SnapshotView) → tree_reads view ≤ blocks_reads view
unfolding blocks_reads
reads-blocks view = omega arith

-- all of them read no more than opening
pub reads-opening : (parts : Parts) → sum_by tree_reads (snapshots_in parts) ≤ open_cost parts
unfolding open_cost
reads-opening parts =
    let numbers : List ℕ = numbers_in parts.frame in
    omega (
      arith,
      sum_by-map tree_reads (snapshot_in parts) numbers,
      sum_by-le-sum_by (λ number. tree_reads (snapshot_in parts number))
          (λ number. blocks_reads (snapshot_in parts number)) numbers (λ number. reads-blocks (snapshot_in parts number)),
    )

abbrev pub joined_of : List ℕ → Frame → List ℕ → List ℕ → List (ℕ × ℕ) → List PeriodParts → Parts
joined_of objects frame alphabet symbols rules periods = record {
  frame = frame;
  objects = objects;
  alphabet = alphabet;
  rules = rules;
  periods = periods;
  symbols = symbols;
}

-- what is put together of an index's lists
pub upgrade-joined : (parts : Parts) (frame : Frame) (alphabet symbols : List ℕ) (rules : List (ℕ × ℕ))
    (periods : List PeriodParts) → frame ≡ newest parts.frame → alphabet ≡ parts.alphabet → rules ≡ parts.rules
    → periods ≡ map (upgraded_period parts.frame) parts.periods → symbols ≡ parts.symbols
    → joined_of parts.objects frame alphabet symbols rules periods ≡ upgrade_of parts
unfolding upgrade_of
upgrade-joined parts frame alphabet symbols rules periods header values pairs trees logs =
    rw (header, values, pairs, trees, logs) refl
