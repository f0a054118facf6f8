-- Two walks that are drawn side by side.
use Rattle.std.specs.Prelude.{◌≡◌, ℕ, ◌+◌, ◌<◌, ◌≤◌, ℤ, ◌≤ℤ◌, ◌<ℤ◌, List, ◌∷◌, ◌++◌, length, get_or, All, Some}
use Rattle.track_types.specs.Near.{IsCellWithin}
use Rattle.track_types.specs.declared.stop.Stop.{Stop}
use Rattle.track_types.specs.Meeting.{first_together}
use Rattle.track_types.specs.StopWalk.{unless_past}

-- the stops of one object: in strict order of their instants, in near cells
pub record IsTrack (stops : List Stop) : Type 0 where
  pub ascending : (i j : ℕ) (d : Stop) → i < j → j < length stops → (get_or stops i d).instant <ℤ (get_or stops j d).instant
  pub near : All (λ stop. IsCellWithin stop.cell) stops

-- these are left of some stops after one at an instant
pub record AreAfter (instant : ℤ) (stops left : List Stop) : Type 0 where
  pub before : List Stop
  pub stop : Stop
  pub at : stop.instant ≡ instant
  pub all : stops ≡ before ++ (stop ∷ left)

module _ {W : Type 0} (left_of : W → List Stop) (budget_of : W → ℕ) where
  -- Two walks over these stops ended at an instant: of either no later stop was drawn, and what is left to read of it was not
  -- read.
  pub record EndAt (instant : ℤ) (lefts rights : List Stop) (most steps : ℕ) : Type 0 where
    pub one : W
    pub other : W
    pub left : AreAfter instant lefts (left_of one)
    pub right : AreAfter instant rights (left_of other)
    pub reads : steps + (budget_of one + budget_of other) ≤ most

-- What two walks have done: the two stops that were drawn last, and those that are left, have the first meeting of both
-- walks, for reads from their budgets.
pub record AreWalked (reach : ℕ) (lefts rights : List Stop) (budget : ℕ) (left right : Stop) (more others : List Stop)
    (steps rest : ℕ) : Type 0 where
  pub same : first_together reach lefts rights ≡ first_together reach (left ∷ more) (right ∷ others)
  pub left_is : IsTrack (left ∷ more)
  pub right_is : IsTrack (right ∷ others)
  pub reads : steps + rest ≤ budget
  pub drawn : List Stop
  pub left_all : lefts ≡ drawn ++ (left ∷ more)
  pub passed : List Stop
  pub right_all : rights ≡ passed ++ (right ∷ others)

-- What two walks have read, where these two stops were drawn last: until a stop at an instant that is not before them, or
-- after it, is drawn of either, no more than both counts, which were known of them before they were drawn from.
pub record AreReadInTime (begun : ℕ) (before : ℤ → ℕ) (left right : Stop) (mine theirs : ℤ → ℕ) (steps : ℕ) : Type 0 where
  pub until : (instant : ℤ) → left.instant ≤ℤ instant → right.instant ≤ℤ instant
      → steps + (unless_past instant (Some left) (mine instant) + unless_past instant (Some right) (theirs instant))
      ≤ begun + before instant
