-- The desk: 16 places for held walks.
use Rattle.std.specs.Prelude.{◌≡◌, ℕ, ◌+◌, ◌≤◌, Bool, List, [], map, replicate, Option, None, option_map, is_some}
use Rattle.std.specs.Prelude.{false, slice_index_or, slice_set}
use Rattle.std.specs.Option.{option_map_or}
use Rattle.std.specs.List.{sum_by}
use Rattle.step_count.specs.Reads.{Read, ReadsWithin}
use Rattle.track_types.specs.declared.stop.Stop.{Stop}

-- each place is empty, or holds the stops that are left of a walk, and how many reads it may still make for them
abbrev pub DeskView : Type 0
DeskView = List (Option (List Stop × ℕ))

-- 16 empty places
abbrev pub empty_desk : DeskView
empty_desk = replicate 16 None

-- the lists in the places, without what they may read
abbrev pub held_of : DeskView → List (Option (List Stop))
held_of desk = map (option_map (λ walk. walk.0)) desk

-- how many reads the walks in the places may still make
abbrev pub budget_of : DeskView → ℕ
budget_of desk = sum_by (λ place. option_map_or (λ walk. walk.1) place 0) desk

-- what a place holds; nothing where it is empty
abbrev pub slot_walk : DeskView → ℕ → Option (List Stop × ℕ)
slot_walk desk slot = slice_index_or desk slot None

-- whether a place holds a walk
abbrev pub is_held_in : DeskView → ℕ → Bool
is_held_in desk slot = is_some (slot_walk desk slot)

-- the stops that are left in a place; none where it is empty
abbrev pub slot_stops : DeskView → ℕ → List Stop
slot_stops desk slot = option_map_or (λ walk. walk.0) (slot_walk desk slot) []

-- how many reads the walk in a place may still make; 0 where it is empty
abbrev pub budget_in : DeskView → ℕ → ℕ
budget_in desk slot = option_map_or (λ walk. walk.1) (slot_walk desk slot) 0

-- Stops may have been drawn from the walk in a place: it is held if and only if it was, the other places stay, and what
-- was read was taken from its budget.
pub record Draws (before now : DeskView) (slot start end : ℕ) : Type 0 where
  pub held : is_held_in now slot ≡ is_held_in before slot
  pub others : now ≡ slice_set before slot (slot_walk now slot)
  pub cost : end + budget_in now slot ≤ start + budget_in before slot

-- A desk: what is seen of its places, and the walks in them, by which it is told what they need. (What they need is a
-- function, which no model's value may hold.)
pub record DeskState (W : Type 0) : Type 0 where
  pub view : DeskView
  pub walks : List (Option W)

-- 16 empty places, without a walk
abbrev pub empty_state : {W : Type 0} → DeskState W
empty_state = record { view = empty_desk; walks = replicate 16 None }

-- no read
abbrev pub no_needs : Read → Bool
no_needs read = false

module _ {W : Type 0} (needs : W → Read → Bool) where
  -- the reads that the walk in a place needs; none where it is empty
  abbrev pub slot_needs : List (Option W) → ℕ → Read → Bool
  slot_needs walks slot = option_map_or needs (slice_index_or walks slot None) no_needs

  -- each place needs no reads but those that stand for it
  abbrev pub NeedsWithin : List (Option W) → (ℕ → Read → Bool) → Type 0
  NeedsWithin now those = (slot : ℕ) → ReadsWithin (slot_needs now slot) (those slot)

  -- no place needs more than it did before
  abbrev pub NeedsNoMore : List (Option W) → List (Option W) → Type 0
  NeedsNoMore before now = NeedsWithin now (slot_needs before)
