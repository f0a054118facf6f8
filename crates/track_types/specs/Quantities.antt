-- How much there is in rows: objects, instants, cells, blocks and terminals.
use Rattle.std.specs.Prelude.{ℕ, ◌+◌, ◌*◌, max, ℤ, pos, ◌-ℤ◌, unsigned_abs, Bool, not, ◌&&◌, ◌==◌, if◌then◌else◌, List, [], ◌∷◌, length, map, filter, fold, sum_by}
use Rattle.std.specs.Int.{int_max, int_min}
use Rattle.std.specs.Int.Signed.{lt_z}
use Rattle.std.specs.List.{list_any}
use Rattle.track_types.specs.Timeline.{elapsed_from, period_from, period_total, terminals_from}
use Rattle.track_types.specs.declared.row.Row.{Row}

-- the least of numbers
abbrev pub least : List ℤ → ℤ
least [] = pos 0
least (z ∷ zs) = fold int_min z zs

-- the greatest of numbers
abbrev pub greatest : List ℤ → ℤ
greatest [] = pos 0
greatest (z ∷ zs) = fold int_max z zs

-- how many whole numbers there are from the least to the greatest, both counted
abbrev pub width_of : List ℤ → ℕ
width_of zs = unsigned_abs (greatest zs -ℤ least zs) + 1

-- the instants of rows
abbrev pub instants_of : List Row → List ℤ
instants_of rows = map (λ row. row.instant) rows

-- the first instant in which there is a row
abbrev pub first_of : List Row → ℤ
first_of rows = least (instants_of rows)

-- the last instant in which there is a row
abbrev pub last_of : List Row → ℤ
last_of rows = greatest (instants_of rows)

-- how many instants there are from the first to the last, both counted
abbrev pub span_of : List Row → ℕ
span_of rows = width_of (instants_of rows)

-- the columns of the rows' cells
abbrev pub columns_of : List Row → List ℤ
columns_of rows = map (λ row. row.cell.x) rows

-- the lines of the rows' cells
abbrev pub lines_of : List Row → List ℤ
lines_of rows = map (λ row. row.cell.y) rows

-- how many cells there are from the least to the greatest of an axis, both counted: the greater of the two axes
abbrev pub extent_of : List Row → ℕ
extent_of rows = max (width_of (columns_of rows)) (width_of (lines_of rows))

-- numbers, without those that come again later
unfoldable pub distinct : List ℕ → List ℕ
distinct [] = []
distinct (x ∷ xs) = if list_any (λ y. x == y) xs then distinct xs else x ∷ distinct xs

-- the different objects of rows, in the order of the rows where an object's rows stand together
abbrev pub objects_of : List Row → List ℕ
objects_of rows = distinct (map (λ row. row.object) rows)

-- how many different objects there are
abbrev pub object_count : List Row → ℕ
object_count rows = length (objects_of rows)

-- how many periods there are; the last one may be shorter
abbrev pub period_count : List Row → ℕ → ℕ
period_count rows period = period_total (span_of rows) period

-- how many blocks there may be: one for each object and period
abbrev pub block_count : List Row → ℕ → ℕ
block_count rows period = object_count rows * period_count rows period

-- how many instants come before a row's, from the first on
abbrev pub elapsed : ℤ → Row → ℕ
elapsed first row = elapsed_from first row.instant

-- the period of a row, counted from 0
abbrev pub period_of : ℤ → ℕ → Row → ℕ
period_of first period row = period_from first period row.instant

-- whether two rows are of one block: of one object and in one period
abbrev pub is_same_block : ℤ → ℕ → Row → Row → Bool
is_same_block first period a b =
    (a.object == b.object) && (period_of first period a == period_of first period b)

-- whether a row is its block's anchor: the block has no earlier one
abbrev pub is_anchor : ℤ → ℕ → List Row → Row → Bool
is_anchor first period rows row =
    not (list_any (λ other. is_same_block first period other row && lt_z other.instant row.instant) rows)

-- the anchors of all blocks, in the order of the rows
unfoldable pub anchors_of : ℤ → ℕ → List Row → List Row
anchors_of first period rows = filter (is_anchor first period rows) rows

-- how many terminals the log of an anchor's block has: one for each later instant of its period, where the
-- last period ends with the span
abbrev pub log_length : ℤ → ℕ → ℕ → Row → ℕ
log_length first span period anchor = terminals_from first span period anchor.instant

-- how many terminals all logs have before there is a grammar
abbrev pub symbol_count : List Row → ℕ → ℕ
symbol_count rows period =
    sum_by (log_length (first_of rows) (span_of rows) period) (anchors_of (first_of rows) period rows)
