-- The places of a leaf of a snapshot.
use Rattle.std.proofs.Common.{◌≡◌, ℕ, ◌+◌, ◌-◌, ◌<◌, ◌≤◌, Bool, true, false, List, ◌∷◌, length, get_or}
use Rattle.std.proofs.Common.{map, sym, ap, subst, ◌∙◌, arith}
use Rattle.std.specs.Prelude.{if◌then◌else◌}
use Rattle.std.proofs.lemmas.Option.{get_or_from_slice_get}
use Rattle.packed_bits.proofs.OnesLemmas.{ones_of-le-length}
use Rattle.bit_rank.specs.Bits.{IsSelected}
use Rattle.track_types.specs.declared.limit.TheConstants.{MAX_OBJECTS}
use Rattle.snapshots.specs.View.{SnapshotView, block_at, blocks_in, leaf_at, places_from, tree_in}
use Rattle.snapshots.specs.Members.{blocks_from, members_left, IsAt}
use Rattle.snapshots.specs.Sound.{IsSnapshot}
use Rattle.snapshots.specs.declared.next.Next.TheVariants.{End, Place}
use Rattle.snapshots.proofs.PlaceLemmas.{IsFirst, first_behind, first_zero, goes_on, last_ends, place_first}

-- as many objects are in leaf order as are the last of a cell or not
pub same_length : (view : SnapshotView) → IsSnapshot view → length view.parts.perm ≡ length view.parts.lasts
same_length view is = is.shaped.perm ∙ sym is.shaped.lasts

-- where there is a leaf, there is an object
pub some_place : (view : SnapshotView) → IsSnapshot view → 0 < length (tree_in view).cells
    → 0 < length view.parts.perm
some_place view is some =
    omega (arith, same_length view is, is.sound.cells, ones_of-le-length view.parts.lasts)

-- there are few objects
pub few_places : (view : SnapshotView) → IsSnapshot view → length view.parts.perm ≤ MAX_OBJECTS
few_places view is =
    omega (arith, is.shaped.perm, is.shaped.presence, is.shaped.few, ones_of-le-length view.parts.present)

-- the first place of a leaf
pub record IsFirstPlace (view : SnapshotView) (leaf first : ℕ) : Type 0 where
  pub within : first < length view.parts.perm
  pub here : leaf_at view first ≡ leaf
  pub places : blocks_in view leaf ≡ blocks_from view leaf first

from_lasts : (view : SnapshotView) (leaf first : ℕ) → length view.parts.perm ≡ length view.parts.lasts
    → IsFirst view.parts.lasts leaf first
    → IsFirstPlace view leaf first
from_lasts view leaf first same is = record {
  within = omega (arith, is.within);
  here = is.here;
  places = ap (λ n. map (block_at view) (places_of 0 n)) same ∙ ap (map (block_at view)) is.places
      ∙ ap (λ n. map (block_at view) (places_of first (n - first))) (sym same);
}
  where
    places_of : ℕ → ℕ → List ℕ
    places_of = places_from view leaf

pub first_place_zero : (view : SnapshotView) → IsSnapshot view → 0 < length (tree_in view).cells
    → IsFirstPlace view 0 0
first_place_zero view is within =
    from_lasts view 0 0 (same_length view is)
    (first_zero view.parts.lasts (omega (arith, is.sound.cells)))

pub first_place_behind : (view : SnapshotView) (lasts : List Bool) (leaf place : ℕ) → IsSnapshot view
    → lasts ≡ view.parts.lasts → leaf < length (tree_in view).cells → IsSelected lasts leaf place
    → IsFirstPlace view leaf (place + 1)
first_place_behind view lasts leaf place is same within selected =
    from_lasts view leaf (place + 1) (same_length view is)
    (first_behind view.parts.lasts leaf place (omega (arith, is.sound.cells))
    (subst (λ bits. IsSelected bits leaf place) same selected))

-- where a walk goes on after a place
pub goes_on_at : (view : SnapshotView) (place : ℕ) → IsSnapshot view → place < length view.parts.perm
    → get_or view.parts.lasts place false ≡ false → IsAt view (leaf_at view place) (Place (place + 1))
goes_on_at view place is within other =
    let same = same_length view is in
    let last = get_or_from_slice_get view.parts.lasts (length view.parts.lasts - 1) true false
    (is.sound.last (omega arith)) in
    let both = goes_on view.parts.lasts place (omega arith) other last in
    (omega (arith, both.0), both.1)

-- the block at a place comes first, and then those after it
pub place_left : (view : SnapshotView) (place : ℕ) (b : Bool) → IsSnapshot view → place < length view.parts.perm
    → get_or view.parts.lasts place false ≡ b
    → blocks_from view (leaf_at view place) place
    ≡ block_at view place ∷ members_left view (leaf_at view place) (if b then End else Place (place + 1))
place_left view place b snapshot within is =
    ap (λ n. map (block_at view) (places_from view (leaf_at view place) place (n - place))) (same_length view snapshot)
    ∙ ap (map (block_at view)) (place_first view.parts.lasts place (omega (arith, same_length view snapshot)))
    ∙ ap (λ blocks. block_at view place ∷ blocks) (rest b is)
  where
    rest : (b : Bool) → get_or view.parts.lasts place false ≡ b
        → map (block_at view)
        (places_from view (leaf_at view place) (place + 1) (length view.parts.lasts - (place + 1)))
        ≡ members_left view (leaf_at view place) (if b then End else Place (place + 1))
    rest true last = ap (map (block_at view))
        (last_ends view.parts.lasts place (omega (arith, same_length view snapshot)) last)
    rest false other =
        ap (λ n. map (block_at view) (places_from view (leaf_at view place) (place + 1) (n - (place + 1))))
        (sym (same_length view snapshot))
