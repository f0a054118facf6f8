-- How far a file was read, also one that comes piece by piece.
use Rattle.std.specs.Prelude.{◌≡◌, ◌≢◌, ◌+◌, ◌<◌, ◌≤◌, ℕ, true, false, List, [], ◌∷◌, ◌++◌, length, slice_index, All, None}
use Rattle.track_types.specs.Limits.{limit_of}
use Rattle.track_types.specs.Near.{IsRawInRange}
use Rattle.track_types.specs.declared.limit.LimitKind.TheVariants.{Rows}
use Rattle.track_types.specs.declared.raw_row.RawRow.{RawRow}
use Rattle.row_reader.specs.Row.{Fields}
use Rattle.row_reader.specs.Rows.{csv_fault, data_among, raws_of, records_of, refusals_of, rows_of}
use Rattle.row_reader.specs.declared.parser.RowParser.{RowParser}
use Rattle.row_reader.specs.declared.parser.TheConstants.{LEAST}
use Rattle.row_reader.specs.declared.reading.Progress.{Progress}

-- rows were put after those of a list, and this holds of them
pub record Adds (before after : List RawRow) (holds : List RawRow → Type 0) : Type 0 where
  pub more : List RawRow
  pub added : after ≡ before ++ more
  pub promise : holds more

-- the first records of a file were read: none of them is refused, and those that are data gave a row each
pub record IsPast (records : List Fields) (progress : Progress) : Type 0 where
  pub number : progress.next ≡ length records + 1
  pub accepted : refusals_of (data_among records) ≡ []
  pub given : progress.given ≡ length (data_among records)
  pub few : progress.given ≤ limit_of Rows

-- records that come after others were read too, and these are their rows
pub record AreRowsAfter (before records : List Fields) (progress : Progress) (more : List RawRow) : Type 0 where
  pub past : IsPast (before ++ records) progress
  pub rows : rows_of (data_among (before ++ records)) ≡ rows_of (data_among before) ++ more
  pub ranges : All IsRawInRange more

-- how many bytes a parser keeps, whose rows were not given yet
abbrev pub kept_length : RowParser → ℕ
kept_length parser = length parser.rest.items

-- Fewer than `LEAST` bytes come before the last line of what is kept, which has not ended: no line feed is in it.
pub record HoldsLine (kept : List ℕ) : Type 0 where
  pub line : ℕ
  pub few : line < LEAST
  pub unended : (place : ℕ) → line ≤ place → place < length kept → slice_index kept place ≢ 10

-- bytes end with a line feed
pub record EndsLine (bytes : List ℕ) : Type 0 where
  pub front : List ℕ
  pub feed : bytes ≡ front ++ (10 ∷ [])

-- bytes begin with lines that are a file with a fault
pub record HasRefusal (bytes : List ℕ) : Type 0 where
  pub lines : List ℕ
  pub others : List ℕ
  pub parts : bytes ≡ lines ++ others
  pub ended : EndsLine lines
  pub refused : csv_fault lines ≢ None

-- A parser has taken these bytes and given these rows. However the file goes on, its first records are those whose rows
-- were given, and none of them is refused. The others are those of what the parser keeps with what follows. Unless it
-- waits for the end of the file, it keeps little more than a line. It waits only where the lines up to one that it has
-- taken are refused.
pub record HasTaken (bytes : List ℕ) (raws : List RawRow) (parser : RowParser) : Type 0 where
  pub records : List Fields
  pub whole : (more : List ℕ) → records_of (bytes ++ more) ≡ records ++ records_of (parser.rest.items ++ more)
  pub within : kept_length parser ≤ length bytes
  pub past : IsPast records parser.progress
  pub rows : raws ≡ rows_of (data_among records)
  pub ranges : All IsRawInRange raws
  pub least : parser.least ≤ LEAST
  pub short : parser.is_waiting ≡ false → HoldsLine parser.rest.items
  pub waits : parser.is_waiting ≡ true → HasRefusal bytes

-- a file is accepted, and these are all of its rows
pub record AreRowsOf (bytes : List ℕ) (raws : List RawRow) : Type 0 where
  pub accepted : csv_fault bytes ≡ None
  pub rows : raws ≡ raws_of bytes
  pub few : length raws ≤ limit_of Rows
  pub ranges : All IsRawInRange raws
