-- What makes a pair of stops the first meeting of two lists, without a word on how it is found.
use Rattle.std.specs.Prelude.{◌≡◌, ℕ, ◌≤ℤ◌, true, List}
use Rattle.std.specs.List.{Contains}
use Rattle.track_types.specs.declared.stop.Stop.{Stop}
use Rattle.track_types.specs.Meeting.{are_together}

-- two stops are members of two lists and together, and no two members are together earlier
pub record IsEarliest (reach : ℕ) (lefts rights : List Stop) (found : Stop × Stop) : Type 0 where
  pub left : Contains lefts found.0
  pub right : Contains rights found.1
  pub together : are_together reach found.0 found.1 ≡ true
  pub earliest : (left right : Stop) → Contains lefts left → Contains rights right →
      are_together reach left right ≡ true → found.0.instant ≤ℤ left.instant
