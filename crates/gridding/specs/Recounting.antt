-- The origin from which the places of blocks are counted anew.
use Rattle.std.specs.Prelude.{◌≡◌, ◌+◌, ◌≤◌, ◌^◌, ℕ, ℤ, pos, neg_ℤ, ◌+ℤ◌, ◌≤ℤ◌}
use Rattle.track_types.specs.declared.extents.Extent.{Extent}
use Rattle.gridding.specs.declared.packed_place.TheConstants.{INSTANTS}

-- an extent of no numbers, or of numbers that are at most 2^42 away from 0
pub record IsExtentWithin (extent : Extent) : Type 0 where
  pub least : neg_ℤ (pos (2 ^ 42)) ≤ℤ extent.least
  pub greatest : extent.greatest ≤ℤ pos (2 ^ 42)

-- an instant is in an extent
abbrev pub IsOfExtent : Extent → ℤ → Type 0
IsOfExtent extent instant = (extent.least ≤ℤ instant) × (instant ≤ℤ extent.greatest)

-- Where so many instants come before an instant of an extent, all of `INSTANTS` that are not the extent's are free:
-- as many before it as after it, or one less.
pub record IsCentred (extent : Extent) (instant : ℤ) (before : ℕ) : Type 0 where
  pub front : ℕ
  pub back : ℕ
  pub even : (front ≤ back) × (back ≤ front + 1)
  pub first : (extent.least +ℤ pos before) ≡ (instant +ℤ pos front)
  pub all : (extent.greatest +ℤ pos (front + back + 1)) ≡ (extent.least +ℤ pos INSTANTS)
