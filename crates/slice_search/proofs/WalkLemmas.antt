-- A walk over the blocks of a period, from one group of blocks to the next.
use Rattle.std.proofs.Common.{◌≡◌, ℕ, ℤ, List, [], ◌∷◌, ◌++◌, All, ap, sym, subst, ◌∙◌, append_assoc, arith}
use Rattle.std.specs.List.{filter_map}
use Rattle.std.proofs.lemmas.List.{get_or_append_left, length-append}
use Rattle.std.proofs.lemmas.List.Elements.{All-tail, filter_map-append}
use Rattle.track_types.specs.declared.parts.Parts.{Parts}
use Rattle.track_types.specs.declared.region.Region.{Region}
use Rattle.track_types.specs.declared.sighting.Sighting.{Sighting}
use Rattle.snapshots.specs.Parts.{snapshot_in}
use Rattle.snapshots.specs.Sound.{IsBlock}
use Rattle.snapshots.specs.declared.anchored.Anchored.{Anchored}
use Rattle.slice_search.specs.Sightings.{sighting_in}

-- what holds of all, holds of the first ones
pub All-before : (P : Anchored → Type 0) (xs ys : List Anchored) → All P (xs ++ ys) → All P xs
All-before P xs ys all i d within =
    subst P (get_or_append_left xs ys d i within) (all i d (omega (arith, within, length-append xs ys)))

-- and of the last ones
pub All-after : (P : Anchored → Type 0) (xs ys : List Anchored) → All P (xs ++ ys) → All P ys
All-after P [] ys all = all
All-after P (x ∷ xs) ys all = All-after P xs ys (All-tail P x (xs ++ ys) all)

-- the next block is put after the group
pub drawn-next : (group next left behind : List Anchored) (block : Anchored) → left ≡ block ∷ behind
    → next ≡ group ++ block ∷ [] → next ++ behind ≡ group ++ left
drawn-next group next left behind block first more =
    ap (λ xs. xs ++ behind) more ∙ append_assoc group (block ∷ []) behind ∙ ap (λ xs. group ++ xs) (sym first)

module _ (parts : Parts) (number : ℕ) (instant : ℤ) (region : Region) where
  abbrev sightings_in : List Anchored → List Sighting
  sightings_in blocks = filter_map (sighting_in parts number instant instant region) blocks

  -- what was found, and what is in the blocks that are to be searched, is what is in all blocks of the walk
  pub record IsWalking (all rest : List Anchored) (found : List Sighting) : Type 0 where
    pub their : found ++ sightings_in rest ≡ sightings_in all
    pub are : All (IsBlock (snapshot_in parts number)) rest

  -- what was in the group is put after what was found
  pub walking-pushed : (all group left : List Anchored) (found next : List Sighting) → IsWalking all (group ++ left) found
      → next ≡ found ++ sightings_in group → All (IsBlock (snapshot_in parts number)) left → IsWalking all left next
  walking-pushed all group left found next is more are = record {
    their =
        ap (λ xs. xs ++ sightings_in left) more ∙ append_assoc found (sightings_in group) (sightings_in left)
        ∙ ap (λ xs. found ++ xs) (sym (filter_map-append (sighting_in parts number instant instant region) group left))
        ∙ is.their;
    are = are;
  }
