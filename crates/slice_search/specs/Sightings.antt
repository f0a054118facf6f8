-- The sightings of a period's blocks.
use Rattle.std.specs.Prelude.{◌≡◌, ℕ, ℤ, List, Option, slice_index}
use Rattle.std.specs.List.{filter_map}
use Rattle.std.specs.Option.{option_map}
use Rattle.track_types.specs.declared.parts.Parts.{Parts}
use Rattle.track_types.specs.declared.region.Region.{Region}
use Rattle.track_types.specs.declared.sighting.Sighting.{Sighting}
use Rattle.track_types.specs.declared.stop.Stop.{Stop}
use Rattle.snapshots.specs.declared.anchored.Anchored.{Anchored}
use Rattle.slice_search.specs.Sought.{first_stop_in, AreSought}

-- the sighting that an object's stop is
abbrev pub seen_at : ℕ → Stop → Sighting
seen_at object stop = record { object = object; cell = stop.cell }

-- the sighting of a block's object, if it is in the region in the window
unfoldable pub sighting_in : Parts → ℕ → ℤ → ℤ → Region → Anchored → Option Sighting
sighting_in parts number from to region block =
    option_map (seen_at (slice_index parts.objects block.index)) (first_stop_in parts number from to region block)

-- What is found of a period at an instant: the sightings of some blocks. Each block that has a sighting is among them once.
pub record AreSightings (parts : Parts) (number : ℕ) (instant : ℤ) (region : Region) (found : List Sighting)
    : Type 0 where
  pub blocks : List Anchored
  pub their : found ≡ filter_map (sighting_in parts number instant instant region) blocks
  pub sought : AreSought parts number instant instant region blocks
