-- What a file is as rows.
use Rattle.std.specs.Prelude.{◌≡◌, ◌+◌, ℕ, Bool, true, false, not, ◌==◌, ◌&&◌, nat_lt, if◌then◌else◌, List, [], ◌∷◌, map, filter, codes, Option, Some, option_map, slice_get}
use Rattle.std.specs.List.{enumerate_from, filter_map}
use Rattle.std.specs.Cmp.Lexicographic.{pointwise}
use Rattle.std.specs.Str.{bytes_eq}
use Rattle.track_types.specs.Limits.{limit_of}
use Rattle.track_types.specs.declared.limit.LimitKind.TheVariants.{Rows}
use Rattle.track_types.specs.declared.raw_row.RawRow.{RawRow}
use Rattle.csv.specs.Reading.{default_config, records, strip_bom}
use Rattle.row_reader.specs.Row.{Fields, raw_of, record_fault}
use Rattle.row_reader.specs.declared.fault.RowsFault.{RowsFault}
use Rattle.row_reader.specs.declared.fault.RowsFault.TheVariants.{Row, Limit, Memory}

-- the records of a file after one byte order mark, each a list of fields
abbrev pub records_of : List ℕ → List Fields
records_of bytes = records default_config (strip_bom bytes)

-- the fields are those of a heading
abbrev pub is_heading : Fields → Bool
is_heading fields = pointwise bytes_eq fields (codes "object" ∷ codes "instant" ∷ codes "x" ∷ codes "y" ∷ [])

-- a numbered record is data, unless it is the first and a heading
abbrev pub is_data : ℕ → Fields → Bool
is_data nth fields = not ((nth == 1) && is_heading fields)

-- the data records among records, with their numbers from 1
abbrev pub data_among : List Fields → List (ℕ × Fields)
data_among all = filter (λ numbered. is_data numbered.0 numbered.1) (enumerate_from 1 all)

-- the data records of a file, with their numbers
abbrev pub data_of : List ℕ → List (ℕ × Fields)
data_of bytes = data_among (records_of bytes)

-- why a data record with so many before it is refused: it is one too many, or else it is no row
abbrev pub record_refusal : ℕ → ℕ → Fields → Option RowsFault
record_refusal before nth fields =
    if nat_lt before (limit_of Rows) then option_map (λ at. Row nth at.field at.fault) (record_fault fields)
    else Some (Limit (limit_of Rows + 1))

-- the refusals of numbered data records, in order
abbrev pub refusals_of : List (ℕ × Fields) → List RowsFault
refusals_of numbered = filter_map (λ placed. record_refusal placed.0 placed.1.0 placed.1.1) (enumerate_from 0 numbered)

-- the refusal of the first data record of a file that has one
abbrev pub csv_fault : List ℕ → Option RowsFault
csv_fault bytes = slice_get (refusals_of (data_of bytes)) 0

-- the rows that numbered records are
abbrev pub rows_of : List (ℕ × Fields) → List RawRow
rows_of = map (λ numbered. raw_of numbered.1)

-- the rows of a file
abbrev pub raws_of : List ℕ → List RawRow
raws_of bytes = rows_of (data_of bytes)

-- whether a fault is of a file, and not want of memory
abbrev pub is_refusal : RowsFault → Bool
is_refusal (Row nth field fault) = true
is_refusal (Limit value) = true
is_refusal Memory = false

-- a fault that a file may be answered: its own, and want of memory whatever it holds
abbrev pub IsRowsFault : List ℕ → RowsFault → Type 0
IsRowsFault bytes Memory = Unit {0}
IsRowsFault bytes (Row nth field fault) = csv_fault bytes ≡ Some (Row nth field fault)
IsRowsFault bytes (Limit value) = csv_fault bytes ≡ Some (Limit value)
