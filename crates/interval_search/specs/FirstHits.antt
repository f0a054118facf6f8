-- The first hit of each object, and what a search for them has done.
use Rattle.std.specs.Prelude.{◌≡◌, ℕ, ◌<◌, ◌==◌, ℤ, Bool, true, false, List, All, filter, length, slice_index}
use Rattle.std.specs.Prelude.{slice_index_or}
use Rattle.std.specs.Prelude.{slice_set, Option, None, Some}
use Rattle.std.specs.List.{filter_map, flat_map, list_any, range_with_len, sum_by}
use Rattle.std.specs.Option.{option_map}
use Rattle.track_types.specs.ByFilter.{path_of}
use Rattle.track_types.specs.declared.hit.Hit.{Hit}
use Rattle.track_types.specs.declared.parts.Parts.{Parts}
use Rattle.track_types.specs.declared.region.Region.{Region}
use Rattle.track_types.specs.declared.row.Row.{Row}
use Rattle.track_types.specs.declared.stop.Stop.{Stop}
use Rattle.rule_store.specs.Log.{in_window}
use Rattle.log_cursor.specs.Touching.{first_among}
use Rattle.snapshots.specs.Parts.{chart_in, snapshot_in, stops_in}
use Rattle.snapshots.specs.Sound.{IsBlock}
use Rattle.snapshots.specs.declared.anchored.Anchored.{Anchored}

-- the hit that an object's stop is
abbrev pub hit_at : ℕ → Stop → Hit
hit_at object stop = record { object = object; instant = stop.instant; cell = stop.cell }

-- the first hit of an object: the first stop of its path in the region
abbrev pub hit_in : List Row → ℤ → ℤ → Region → ℕ → Option Hit
hit_in rows from to region object = option_map (hit_at object) (first_among region (path_of rows object from to))

-- whether the object at this place is known
abbrev pub is_known : List Bool → ℕ → Bool
is_known known place = slice_index_or known place false

-- which objects are known after the first stop of one, if it has any
abbrev pub known_after : Option Stop → ℕ → List Bool → List Bool
known_after None place known = known
known_after (Some stop) place known = slice_set known place true

-- the block is that of the object at a place
abbrev pub is_block_at : ℕ → Anchored → Bool
is_block_at place block = block.index == place

module _ (parts : Parts) (from to : ℤ) (region : Region) where
  -- the first hit of the object at a place
  abbrev pub first_hit : ℕ → Option Hit
  first_hit place = hit_in (chart_in parts).rows from to region (slice_index parts.objects place)

  -- the first stop in the window and the region, in a period, of the object at a place
  abbrev pub first_here : ℕ → ℕ → Option Stop
  first_here number place = first_among region (in_window from to (stops_in parts place number))

  -- the first stop in the window and the region, in the periods before one, of the object at a place
  unfoldable pub first_before : ℕ → ℕ → Option Stop
  first_before number place =
      first_among region (flat_map (λ j. in_window from to (stops_in parts place j)) (range_with_len 0 number))

  -- the first hits of the known objects
  unfoldable pub known_hits : List Bool → List Hit
  known_hits known = filter_map first_hit (filter (is_known known) (range_with_len 0 (length parts.objects)))

  -- a hit is an object's first one
  pub record IsFirstHit (hit : Hit) : Type 0 where
    pub place : ℕ
    pub within : place < length parts.objects
    pub is : first_hit place ≡ Some hit

  -- What a search through the periods before one has done: the first hits of the known objects are found, and no other object
  -- has one in these periods.
  pub record AreFirst (number : ℕ) (known : List Bool) (found : List Hit) : Type 0 where
    pub size : length known ≡ length parts.objects
    pub are : All IsFirstHit found
    pub weigh : (weight : Hit → ℕ) → sum_by weight found ≡ sum_by weight (known_hits known)
    pub none : (place : ℕ) → place < length parts.objects → is_known known place ≡ false
        → first_before number place ≡ None

  -- What a search in a period has done: but for the objects of the blocks that are left, all that have a hit in it are known.
  pub record IsLooking (number : ℕ) (left : List Anchored) (known : List Bool) (found : List Hit) : Type 0 where
    pub first : AreFirst number known found
    pub left_are : All (IsBlock (snapshot_in parts number)) left
    pub here : (place : ℕ) → place < length parts.objects → is_known known place ≡ false
        → list_any (is_block_at place) left ≡ false → first_here number place ≡ None
