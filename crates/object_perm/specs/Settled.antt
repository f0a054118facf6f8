-- Cycles that are marked one after another: what holds of the places seen so far.
use Rattle.std.specs.Prelude.{◌≡◌, ℕ, ◌<◌, ◌≤◌, Bool, true, false, List, length, Option, None, Some, slice_index, slice_index_or, ◌⊎◌}
use Rattle.object_perm.specs.Walk.{along}
use Rattle.object_perm.specs.Shortcuts.{LeadsTo, has_shortcut}

-- the place was seen
abbrev pub IsSeen : List Bool → ℕ → Type 0
IsSeen seen place = slice_index_or seen place false ≡ true

-- what was seen stays so
abbrev pub KeepsMarks : List Bool → List Bool → Type 0
KeepsMarks old new = (place : ℕ) → IsSeen old place → IsSeen new place

-- few moves lead from the place to itself or to a place seen that has a shortcut
pub record MeetsSeen (values : List ℕ) (seen : List Bool) (shortcuts : List (Option ℕ)) (place : ℕ) : Type 0 where
  pub moves : ℕ
  pub some : 1 ≤ moves
  pub few : moves ≤ 16
  pub end : (along values moves place ≡ place)
      ⊎ (IsSeen seen (along values moves place) × (has_shortcut shortcuts (along values moves place) ≡ true))

-- the places seen are whole cycles, their shortcuts are right, and no other place has one
pub record IsSettled (values : List ℕ) (seen : List Bool) (shortcuts : List (Option ℕ)) : Type 0 where
  pub seen_length : length seen ≡ length values
  pub same_length : length shortcuts ≡ length values
  pub closed : (place : ℕ) → place < length values → IsSeen seen (slice_index values place) → IsSeen seen place
  pub empty : (place : ℕ) → slice_index_or seen place false ≡ false → slice_index_or shortcuts place None ≡ None
  pub target : (place target : ℕ) → IsSeen seen place → slice_index_or shortcuts place None ≡ Some target →
      IsSeen seen target
  pub stored : (place target : ℕ) → IsSeen seen place → slice_index_or shortcuts place None ≡ Some target →
      has_shortcut shortcuts target ≡ true
  pub back : (place target : ℕ) → IsSeen seen place → slice_index_or shortcuts place None ≡ Some target →
      LeadsTo values target place
  pub ahead : (place : ℕ) → IsSeen seen place → MeetsSeen values seen shortcuts place
