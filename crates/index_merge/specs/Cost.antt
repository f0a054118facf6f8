-- How many reads it takes at most to draw the paths of an index, as far as they are drawn, and to merge two indexes.
use Rattle.std.specs.Prelude.{ℕ, ◌+◌, ◌==◌, nat_lt, if◌then◌else◌, ℤ, List}
use Rattle.std.specs.List.{sum_by}
use Rattle.track_types.specs.Limits.{limit_of}
use Rattle.track_types.specs.declared.limit.LimitKind.TheVariants.{Rows}
use Rattle.track_types.specs.declared.parts.Parts.{Parts}
use Rattle.track_types.specs.declared.row.Row.{Row}
use Rattle.snapshots.specs.IndexCost.{path_cost}
use Rattle.snapshots.specs.Parts.{chart_in, last_in}
use Rattle.track_index.specs.Cost.{path_cost_until}
use Rattle.path_union.specs.Reads.{first_beyond, up_to}
use Rattle.path_union.specs.Union.{rows_of_both}

-- the reads of an object's path from the first instant of an index to the last
abbrev pub whole_path_cost : Parts → ℕ → ℕ
whole_path_cost parts object = path_cost parts object parts.frame.first (last_in parts.frame)

-- the reads of the paths of all listed objects
unfoldable pub paths_cost : Parts → ℕ
paths_cost parts = sum_by (whole_path_cost parts) parts.objects

-- the reads of an object's path up to its first stop at an instant or after it, or of all of it where there is none
abbrev pub path_cost_past : Parts → ℕ → ℤ → ℕ
path_cost_past parts object instant = path_cost_until parts object parts.frame.first (last_in parts.frame) instant

-- what is read of an object's path until a row is passed: all where the row is of a later object, what there is up to
-- the row's instant where it is of this one, and else nothing
abbrev pub cost_share : (ℕ → ℕ) → (ℕ → ℤ → ℕ) → Row → ℕ → ℕ
cost_share whole past row object = if nat_lt object row.object then whole object else
    if object == row.object then past object row.instant else 0

-- the reads of the paths of objects until a row is passed
unfoldable pub shares_cost : (ℕ → ℕ) → (ℕ → ℤ → ℕ) → List ℕ → Row → ℕ
shares_cost whole past objects row = sum_by (cost_share whole past row) objects

-- the reads of the paths of all listed objects until a row is passed
abbrev pub paths_cost_past : Parts → Row → ℕ
paths_cost_past parts row = shares_cost (whole_path_cost parts) (path_cost_past parts) parts.objects row

-- the reads of the paths of an index, where rows are drawn that have some of its own among them: all, or until the first
-- row is passed that is one too many
abbrev pub drawing_cost_within : ℕ → List Row → Parts → ℕ
drawing_cost_within limit rows parts = up_to (paths_cost_past parts) (paths_cost parts) (first_beyond limit rows)

-- the reads of the paths of an index, where rows are drawn for a chart, which has at most 2^24 of them
unfoldable pub drawing_cost : List Row → Parts → ℕ
drawing_cost rows parts = drawing_cost_within (limit_of Rows) rows parts

-- the reads of the paths of two indexes, where their union is drawn
unfoldable pub union_cost : Parts → Parts → ℕ
union_cost left right = drawing_cost (rows_of_both (chart_in left).rows (chart_in right).rows) left
    + drawing_cost (rows_of_both (chart_in left).rows (chart_in right).rows) right
