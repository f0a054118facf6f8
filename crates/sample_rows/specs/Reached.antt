-- An instant that a sample has reached.
use Rattle.std.specs.Prelude.{◌≡◌, ℕ, ◌*◌, ◌<◌, List, length, get_or}
use Rattle.sample_rows.specs.Sample.{first_spot, spot_at, state_after}
use Rattle.sample_rows.specs.declared.spot.Spot.{Spot}

-- The objects are where they are at an instant of a sample of that seed, and all that is drawn up to then was drawn.
pub record AreSpotsAt (seed instant : ℕ) (spots : List Spot) (state : ℕ) : Type 0 where
  pub generator : state ≡ state_after seed (instant * length spots)
  pub each : (object : ℕ) → object < length spots →
      get_or spots object (first_spot 0) ≡ spot_at (length spots) seed instant object
