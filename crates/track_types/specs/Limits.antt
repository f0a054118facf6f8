-- The greatest values of all quantities that have one.
use Rattle.std.specs.Prelude.{ℕ, ◌<◌, ◌≤◌}
use Rattle.track_types.specs.declared.limit.TheConstants as greatest
use Rattle.track_types.specs.declared.limit.LimitKind.{LimitKind}
use Rattle.track_types.specs.declared.limit.LimitKind.TheVariants.{Csv, Rows, Objects, Span, Extent, Blocks, Symbols, Index, Questions, Base}

-- the greatest value of a quantity
abbrev pub limit_of : LimitKind → ℕ
limit_of Csv = greatest.MAX_CSV
limit_of Rows = greatest.MAX_ROWS
limit_of Objects = greatest.MAX_OBJECTS
limit_of Span = greatest.MAX_SPAN
limit_of Extent = greatest.MAX_EXTENT
limit_of Blocks = greatest.MAX_BLOCKS
limit_of Symbols = greatest.MAX_SYMBOLS
limit_of Index = greatest.MAX_INDEX
limit_of Questions = greatest.MAX_QUESTIONS
limit_of Base = greatest.MAX_PLACE

-- how many units a cell may be wide, and how many an instant may last
pub record IsResolution (n : ℕ) : Type 0 where
  pub some : 0 < n
  pub limit : n ≤ greatest.MAX_RESOLUTION

-- how many instants a period may have
pub record IsPeriod (n : ℕ) : Type 0 where
  pub some : 0 < n
  pub limit : n ≤ greatest.MAX_PERIOD
