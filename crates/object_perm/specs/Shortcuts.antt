-- What the shortcuts of a permutation are for: from each place a walk of few moves meets one, or the place itself.
use Rattle.std.specs.Prelude.{◌≡◌, ℕ, ◌+◌, ◌^◌, ◌<◌, ◌≤◌, Bool, true, is_some, List, length, Option, None, Some, slice_index_or, ◌⊎◌}
use Rattle.object_perm.specs.Permutation.{PermutesPlaces}
use Rattle.object_perm.specs.Walk.{along}

-- one to sixteen moves lead from a place to another
pub record LeadsTo (values : List ℕ) (from to : ℕ) : Type 0 where
  pub moves : ℕ
  pub some : 1 ≤ moves
  pub few : moves ≤ 16
  pub path : along values moves from ≡ to

-- no more reads than any number of moves that lead from a place to another
abbrev pub CostsWalk : List ℕ → ℕ → ℕ → ℕ → ℕ → Type 0
CostsWalk values from to before after = (moves : ℕ) → 1 ≤ moves → along values moves from ≡ to → after ≤ before + moves

-- whether the place has a shortcut
abbrev pub has_shortcut : List (Option ℕ) → ℕ → Bool
has_shortcut shortcuts place = is_some (slice_index_or shortcuts place None)

-- one to sixteen moves lead from the place to itself or to one with a shortcut
pub record MeetsShortcut (values : List ℕ) (shortcuts : List (Option ℕ)) (place : ℕ) : Type 0 where
  pub moves : ℕ
  pub some : 1 ≤ moves
  pub few : moves ≤ 16
  pub end : (along values moves place ≡ place) ⊎ (has_shortcut shortcuts (along values moves place) ≡ true)

-- each shortcut leads back by one to sixteen moves to a place that has one, and each place meets a shortcut or itself
pub record LeadBack (values : List ℕ) (shortcuts : List (Option ℕ)) : Type 0 where
  pub covers : length values ≤ length shortcuts
  pub within : (place target : ℕ) → place < length values → slice_index_or shortcuts place None ≡ Some target →
      target < length values
  pub stored : (place target : ℕ) → place < length values → slice_index_or shortcuts place None ≡ Some target →
      has_shortcut shortcuts target ≡ true
  pub back : (place target : ℕ) → place < length values → slice_index_or shortcuts place None ≡ Some target →
      LeadsTo values target place
  pub ahead : (place : ℕ) → place < length values → MeetsShortcut values shortcuts place

-- a permutation of fewer than 2^32 places, with its shortcuts
pub record HasShortcuts (values : List ℕ) (shortcuts : List (Option ℕ)) : Type 0 where
  pub permutes : PermutesPlaces values
  pub short : length values < 2 ^ 32
  pub lead_back : LeadBack values shortcuts

-- a list that goes on without shortcuts after those of another
pub record HoldsShortcuts (places : List (Option ℕ)) (shortcuts : List (Option ℕ)) : Type 0 where
  pub covers : length places ≤ length shortcuts
  pub same : (place : ℕ) → slice_index_or shortcuts place None ≡ slice_index_or places place None
