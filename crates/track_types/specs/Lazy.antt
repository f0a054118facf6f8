-- What contracts see of the items of a walk as an iterator.
use Rattle.std.specs.Prelude.{◌≡◌, ℕ, ◌+◌, ◌≤◌, Bool, List, Option}
use Rattle.std.specs.Borrow.{GName}
use Rattle.std.specs.Iterator.{Yields, YieldsFirst}
use Rattle.step_count.specs.Reads.{Read, ReadsWithin}
use Rattle.track_types.specs.declared.lazy.drawn_items.Drawn.{Drawn}

module _ {W L : Type 0} where
  -- the walk, as it is by now
  abbrev pub drawn_walk : Drawn W L → W
  drawn_walk items = items.walk.now

  -- how many reads were made by now
  abbrev pub drawn_steps : Drawn W L → ℕ
  drawn_steps items = items.steps.now

  -- the ghost names of the references to the walk and to the counter
  abbrev pub drawn_lenders : Drawn W L → GName × GName
  drawn_lenders items = (items.walk.ghost_name, items.steps.ghost_name)

  -- the items that are still to come, where `left` is the walk's list
  abbrev pub drawn_left : {A : Type 0} → (W → List A) → Drawn W L → List A
  drawn_left left items = left (drawn_walk items)

  -- what a draw of the walk needs may be read
  abbrev pub MayDraw : (W → Read → Bool) → (Read → Bool) → Drawn W L → Type 0
  MayDraw needs may items = ReadsWithin (needs (drawn_walk items)) may

  module _ {A : Type 0} (left : W → List A) (budget : W → ℕ) (needs : W → Read → Bool) where
    -- from old to new the reads are taken from the walk's budget, and the walk and the counter are the same ones
    pub record DrawsWithin (old new : Drawn W L) : Type 0 where
      pub cost : drawn_steps new + budget (drawn_walk new) ≤ drawn_steps old + budget (drawn_walk old)
      pub lenders : drawn_lenders new ≡ drawn_lenders old
      pub within : ReadsWithin (needs (drawn_walk new)) (needs (drawn_walk old))

    -- a call of `next` gave the first of the items that are left, or none is left
    abbrev pub DrawsFirst : Drawn W L → Option A → Drawn W L → Type 0
    DrawsFirst old item new = YieldsFirst (drawn_left left) old item new × DrawsWithin old new

    -- all calls of `next` together take their reads from the budget
    abbrev pub DrawsAlong : Drawn W L → Type 0
    DrawsAlong first = (items : List A) (later : Drawn W L) → Yields DrawsFirst first items later → DrawsWithin first later
