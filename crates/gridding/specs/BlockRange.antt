-- Which rows a block has: those of an object in one period.
use Rattle.std.specs.Prelude.{◌≡◌, ℕ, ◌+◌, ◌*◌, ◌<◌, ℤ, pos, ◌+ℤ◌, ◌≤ℤ◌, Bool, ◌&&◌, ◌==◌, List, [], ◌∷◌}
use Rattle.std.specs.Int.Signed.{lt_z}
use Rattle.gridding.specs.declared.counts.BlockRange.{BlockRange}
use Rattle.track_types.specs.Quantities.{elapsed, period_of}
use Rattle.track_types.specs.declared.row.Row.{Row}

-- how many instants come before the end of a row's period, from the first on
abbrev pub period_end : ℤ → ℕ → Row → ℕ
period_end first period row = (period_of first period row + 1) * period

-- the block of a row, where periods begin at the first instant
abbrev pub block_of_row : ℤ → ℕ → Row → BlockRange
block_of_row first period row = record { object = row.object; end = first +ℤ pos (period_end first period row) }

-- whether a row is of a block: of its object, and before the end of its period
abbrev pub is_of_block : BlockRange → Row → Bool
is_of_block block row = (block.object == row.object) && lt_z row.instant block.end

-- the first row is one of the block's object, and the block ends within so many instants from that row on
abbrev pub BeginsBlock : BlockRange → ℕ → List Row → Type 0
BeginsBlock block period [] = ⊥
BeginsBlock block period (anchor ∷ later) =
    (anchor.object ≡ block.object) × (block.end ≤ℤ (anchor.instant +ℤ pos period))

-- a row is within a span of instants that begins at the first
pub record IsInSpan (first : ℤ) (span : ℕ) (row : Row) : Type 0 where
  pub after_first : first ≤ℤ row.instant
  pub before_end : elapsed first row < span
