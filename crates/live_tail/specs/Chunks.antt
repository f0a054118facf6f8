-- Chunks: how far rows that stand together reach.
use Rattle.std.specs.Prelude.{◌≡◌, ℤ, Bool, ◌&&◌, true, List, [], ◌∷◌, All, drop, take}
use Rattle.track_types.specs.Boxes.{cell_box, joined_box}
use Rattle.track_types.specs.Extents.{widened}
use Rattle.track_types.specs.Near.{IsBoxWithin}
use Rattle.track_types.specs.Region.{in_box, intersects_region, is_between, overlaps}
use Rattle.track_types.specs.declared.region.Region.{Region}
use Rattle.track_types.specs.declared.row.Row.{Row}
use Rattle.live_tail.specs.declared.chunk.Chunk.{Chunk}
use Rattle.live_tail.specs.declared.chunk.TheConstants.{CHUNK_ROWS}

-- a row's instant and cell are within those of a chunk
abbrev pub is_in : Chunk → Row → Bool
is_in chunk row = is_between chunk.time.least chunk.time.greatest row.instant && in_box chunk.area row.cell

-- the chunk of one row
abbrev pub chunk_of : Row → Chunk
chunk_of row = record { time = record { least = row.instant; greatest = row.instant }; area = cell_box row.cell }

-- the chunk of the rows of another and one more
abbrev pub chunk_with : Chunk → Row → Chunk
chunk_with chunk row = record { time = widened chunk.time row.instant; area = joined_box chunk.area (cell_box row.cell) }

-- a chunk has these rows
pub record IsChunkOf (rows : List Row) (chunk : Chunk) : Type 0 where
  pub near : IsBoxWithin chunk.area
  pub has : All (λ row. is_in chunk row ≡ true) rows

-- the chunks of rows, each of so many of them, but for the last
unfoldable pub AreChunksOf : List Row → List Chunk → Type 0
AreChunksOf rows [] = rows ≡ []
AreChunksOf rows (chunk ∷ chunks) =
    IsChunkOf (take CHUNK_ROWS rows) chunk × AreChunksOf (drop CHUNK_ROWS rows) chunks

-- a chunk may have a row in a window and a region
abbrev pub may_have : ℤ → ℤ → Region → Chunk → Bool
may_have from to region chunk = overlaps from to chunk.time.least chunk.time.greatest && intersects_region region chunk.area
