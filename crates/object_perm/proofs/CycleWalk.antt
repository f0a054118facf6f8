-- The walk that marks a cycle: what holds at each of its places.
use Rattle.std.specs.Prelude.{◌≡◌, ◌≢◌, ℕ, ◌+◌, ◌<◌, Bool, true, false, List, length, sum_by, if◌then◌else◌, Option, None, Some, slice_index, slice_index_or, ◌⊎◌}
use Rattle.object_perm.specs.Walk.{along}
use Rattle.object_perm.specs.Shortcuts.{LeadsTo, has_shortcut}
use Rattle.object_perm.specs.Settled.{IsSeen, MeetsSeen}

-- the place lies between the last one that was stored and the one where the walk is
pub record IsOpen (values : List ℕ) (stored gap place : ℕ) : Type 0 where
  pub behind : ℕ
  pub before : ℕ
  pub split : behind + before ≡ gap
  pub path : place ≡ along values behind stored

-- the walk along a cycle is at a place, `gap` moves after the last one that was stored, which is the leader at first
pub record IsInCycle (values : List ℕ) (seen : List Bool) (shortcuts : List (Option ℕ))
    (leader place stored gap : ℕ) : Type 0 where
  pub seen_length : length seen ≡ length values
  pub same_length : length shortcuts ≡ length values
  pub started : IsSeen seen leader
  pub here : IsSeen seen place
  pub base : IsSeen seen stored
  pub short : gap < 16
  pub path : along values gap stored ≡ place
  pub rooted : (stored ≡ leader) ⊎ (has_shortcut shortcuts stored ≡ true)
  pub closed : (y : ℕ) → y < length values → IsSeen seen (slice_index values y) → slice_index values y ≢ leader →
      IsSeen seen y
  pub ahead_unseen : (y : ℕ) → y < length values → IsSeen seen (slice_index values y) →
      slice_index values y ≢ leader → y ≢ place
  pub empty : (y : ℕ) → slice_index_or seen y false ≡ false → slice_index_or shortcuts y None ≡ None
  pub target : (y target : ℕ) → IsSeen seen y → slice_index_or shortcuts y None ≡ Some target → IsSeen seen target
  pub store : (y target : ℕ) → IsSeen seen y → slice_index_or shortcuts y None ≡ Some target
      → (has_shortcut shortcuts target ≡ true) ⊎ ((target ≡ leader) × (stored ≢ leader))
  pub back : (y target : ℕ) → IsSeen seen y → slice_index_or shortcuts y None ≡ Some target → LeadsTo values target y
  pub ahead : (y : ℕ) → IsSeen seen y → MeetsSeen values seen shortcuts y ⊎ IsOpen values stored gap y

-- how many places were not seen
abbrev pub unseen_count : List Bool → ℕ
unseen_count seen = sum_by (λ is_seen. if is_seen then 0 else 1) seen
