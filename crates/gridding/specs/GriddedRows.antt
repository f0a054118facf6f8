-- Rows that are gridded and put in blocks as they come.
use Rattle.std.specs.Prelude.{◌≡◌, ◌<◌, ◌≤◌, ◌^◌, ◌++◌, ◌⊎◌, ℕ, Bool, true, false, List, [], ◌∷◌, get_or, length, map, slice_get, All, Some, nat_eq}
use Rattle.std.specs.HashMap.{get, hash_map_len}
use Rattle.std.specs.List.{AllByRecursion}
use Rattle.track_types.specs.Limits.{limit_of}
use Rattle.track_types.specs.Near.{IsRawInRange}
use Rattle.track_types.specs.declared.limit.LimitKind.TheVariants.{Objects, Rows}
use Rattle.track_types.specs.declared.raw_row.RawRow.{RawRow}
use Rattle.track_types.specs.declared.row.Row.{Row}
use Rattle.gridding.specs.Blocks.{IsLastOf, rows_of_runs, rows_with, runs_of, runs_with}
use Rattle.gridding.specs.ChartOf.{gridded}
use Rattle.gridding.specs.PackedPlace.{HasPlace}
use Rattle.gridding.specs.declared.packed_place.Origin.{Origin}
use Rattle.gridding.specs.declared.gridded_rows.GriddedRows.{GriddedRows}
use Rattle.gridding.specs.declared.track_blocks.TheConstants.{ROWS}
use Rattle.gridding.specs.declared.track_blocks.TrackBlocks.{TrackBlocks}

-- a block has room for a place more
abbrev pub HasRoom : TrackBlocks → ℕ → Type 0
HasRoom tracks place = get_or tracks.lengths.items place ROWS < ROWS

-- no block of an object has room
abbrev pub IsFull : ℕ → TrackBlocks → Type 0
IsFull object tracks = (place : ℕ) → slice_get tracks.objects.items place ≡ Some object → HasRoom tracks place → ⊥

-- there are blocks, and a row has no place from their origin
abbrev pub IsAway : Row → TrackBlocks → Type 0
IsAway row tracks = (0 < length tracks.blocks.items) × (HasPlace tracks.origin row → ⊥)

-- from no origin of the same cells all rows of blocks have places, and this row too
abbrev pub IsApart : Row → TrackBlocks → Type 0
IsApart row tracks = (origin : Origin) → origin.cell ≡ tracks.origin.cell →
    AllByRecursion (HasPlace origin) (rows_of_runs tracks.origin (runs_of tracks)) → HasPlace origin row → ⊥

-- no other row has a row's object, and as many objects have a last block as a chart may have objects
abbrev pub IsOneTooMany : Row → List Row → TrackBlocks → Type 0
IsOneTooMany row rows tracks = (rows_with row.object rows ≡ []) × (limit_of Objects ≤ hash_map_len tracks.last_of)

-- Blocks have these rows: each object's in the order in which they came. Each block has an object and a length, the
-- last block of each object is noted, and no other has room.
pub record AreBlocksOf (rows : List Row) (tracks : TrackBlocks) : Type 0 where
  pub objects : length tracks.objects.items ≡ length tracks.blocks.items
  pub lengths : length tracks.lengths.items ≡ length tracks.blocks.items
  pub held : (object : ℕ) → rows_of_runs tracks.origin (runs_with object (runs_of tracks)) ≡ rows_with object rows
  pub last : (object : ℕ) → IsLastOf object tracks.objects.items (get nat_eq tracks.last_of object)
  pub room : (object place : ℕ) → slice_get tracks.objects.items place ≡ Some object → HasRoom tracks place →
      IsLastOf object tracks.objects.items (Some place)

-- a row was put after those of its object
abbrev pub HasPut : Row → TrackBlocks → TrackBlocks → Type 0
HasPut row old new = (rows : List Row) → AreBlocksOf rows old → AreBlocksOf (rows ++ (row ∷ [])) new

-- blocks have the rows that they had
abbrev pub HasKept : TrackBlocks → TrackBlocks → Type 0
HasKept old new = (rows : List Row) → AreBlocksOf rows old → AreBlocksOf rows new

-- a row was put, or it was left out for a cause and the others stay
abbrev pub HasAdded : Row → TrackBlocks → TrackBlocks → Bool → Type 0
HasAdded row old new true = HasPut row old new
HasAdded row old new false =
    HasKept old new × ((rows : List Row) → AreBlocksOf rows old →
    (IsAway row old × IsApart row old) ⊎ IsOneTooMany row rows old)

-- These rows came, in this order: those in blocks, and then all from the first one on that had no block.
pub record HoldsRows (rows : List Row) (gridded : GriddedRows) : Type 0 where
  pub front : List Row
  pub all : rows ≡ front ++ gridded.loose.items
  pub blocks : AreBlocksOf front gridded.tracks

-- These raw rows came, and were gridded by CELL and TICK. They are counted as far as the type reaches.
pub record HasGridded (cell tick : ℕ) (raws : List RawRow) (rows : GriddedRows) : Type 0 where
  pub by_cell : rows.cell ≡ cell
  pub by_tick : rows.tick ≡ tick
  pub held : HoldsRows (map (gridded cell tick) raws) rows
  pub ranges : All IsRawInRange raws
  pub counted : length raws < 2 ^ 64 → rows.count ≡ length raws

-- These are the rows of so many raw rows as a chart may have.
abbrev pub AreFew : GriddedRows → Type 0
AreFew rows = (cell : ℕ) × (tick : ℕ) × (raws : List RawRow) × HasGridded cell tick raws rows × (length raws ≤ limit_of Rows)
