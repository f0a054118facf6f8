-- The searches that still go on, by their places among all.
use Rattle.std.specs.Prelude.{◌≡◌, ℕ, ◌<◌, List, length, pos, slice_index, slice_index_or}
use Rattle.rule_store.specs.Cells.{cell_with}
use Rattle.log_cursor.specs.Start.{start_at}
use Rattle.log_cursor.specs.declared.descent.Stage.TheVariants.{Within}
use Rattle.slice_search.specs.Seekers.{rest_in}
use Rattle.slice_search.specs.declared.seekers.Seeker.{Seeker}

-- a search of no object
abbrev pub blank : Seeker
blank = record { object = 0; descent = record { at = start_at (pos 0) (cell_with (pos 0) (pos 0)); stage = Within 0 } }

-- the first search of a list
abbrev pub first_of : List ℕ → List Seeker → Seeker
first_of live seekers = slice_index_or seekers (slice_index live 0) blank

-- a place stands among so many of a list
pub record IsListed (live : List ℕ) (count i : ℕ) : Type 0 where
  pub at : ℕ
  pub within : at < count
  pub is : slice_index live at ≡ i

-- A list has the places of searches, and each search that is not over stands in it.
pub record AreLive (live : List ℕ) (count : ℕ) (seekers : List Seeker) : Type 0 where
  pub below : (k : ℕ) → k < count → slice_index live k < length seekers
  pub all : (i : ℕ) (d : Seeker) → i < length seekers → 0 < rest_in (slice_index_or seekers i d) → IsListed live count i
