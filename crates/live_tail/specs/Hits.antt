-- Hits of rows in a window and a region, among which is the first of each object.
use Rattle.std.specs.Prelude.{◌≡◌, ◌&&◌, ◌==◌, ℤ, Bool, true, false, if◌then◌else◌, List, Option, None, Some}
use Rattle.std.specs.Int.Signed.{le_z}
use Rattle.std.specs.List.{Contains, list_any}
use Rattle.track_types.specs.ByFilter.{hit_of, is_hit}
use Rattle.track_types.specs.Row.{is_row_of}
use Rattle.track_types.specs.declared.hit.Hit.{Hit}
use Rattle.track_types.specs.declared.region.Region.{Region}
use Rattle.track_types.specs.declared.row.Row.{Row}
use Rattle.interval_search.specs.FirstHits.{hit_in}
use Rattle.live_tail.specs.Join.{rows_of_both}

-- a hit is one of these rows, in a window and a region
pub record IsHitOf (rows : List Row) (from to : ℤ) (region : Region) (hit : Hit) : Type 0 where
  pub row : Row
  pub inside : Contains rows row
  pub meets : is_hit from to region row ≡ true
  pub is : hit_of row ≡ hit

-- a hit is of a row's object, and no later
abbrev pub is_no_later : Row → Hit → Bool
is_no_later row hit = (row.object == hit.object) && le_z hit.instant row.instant

-- there is such a hit
abbrev pub is_passed : Row → Option Hit → Bool
is_passed row None = false
is_passed row (Some hit) = is_no_later row hit

-- some hits are of these rows, in a window and a region, and the first of each object is among them
pub record HaveFirst (rows : List Row) (from to : ℤ) (region : Region) (hits : List Hit) : Type 0 where
  pub are : (hit : Hit) → Contains hits hit → IsHitOf rows from to region hit
  pub first : (row : Row) → Contains rows row → is_hit from to region row ≡ true → list_any (is_no_later row) hits ≡ true

-- a tail has a row of a hit's object and instant
abbrev pub is_overridden : List Row → Hit → Bool
is_overridden tail hit = list_any (is_row_of hit.object hit.instant) tail

-- what stands of a hit of rows with a tail: if the tail has a row of its object and instant, the object's first hit in both
abbrev pub standing : List Row → List Row → ℤ → ℤ → Region → Hit → Option Hit
standing rows tail from to region hit =
    if is_overridden tail hit then hit_in (rows_of_both rows tail) from to region hit.object else Some hit
