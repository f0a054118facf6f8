-- The first flaw of a part, from those of its two halves.
use Rattle.std.proofs.Common.{◌≡◌, ℕ, Bool, List, None, Some, refl}
use Rattle.object_perm.specs.Permutation.{PermutesPlaces, first_flawed_place}
use Rattle.object_perm.proofs.FlawLemmas.{first_flawed_place-permutes}
use Rattle.track_types.specs.Flaws.{flaw_in}
use Rattle.track_types.specs.declared.flaw.Section.TheVariants.{Perm}
use Rattle.track_types.specs.declared.flaw.Kind.TheVariants.{CellOrder}
use Rattle.snapshots.specs.Flaws.{order_flaw, perm_flaw}

-- a permutation whose cells do not all ascend
pub perm_flaw-order : (number : ℕ) (lasts : List Bool) (perm : List ℕ) (place : ℕ) → PermutesPlaces perm
    → order_flaw lasts perm ≡ Some place → perm_flaw number lasts perm ≡ Some (flaw_in number Perm CellOrder place)
perm_flaw-order number lasts perm place permutes order =
    let none : first_flawed_place perm ≡ None = first_flawed_place-permutes perm permutes in rw (none, order) refl

-- a permutation whose cells ascend
pub perm_flaw-none : (number : ℕ) (lasts : List Bool) (perm : List ℕ) → PermutesPlaces perm
    → order_flaw lasts perm ≡ None → perm_flaw number lasts perm ≡ None
perm_flaw-none number lasts perm permutes order =
    let none : first_flawed_place perm ≡ None = first_flawed_place-permutes perm permutes in rw (none, order) refl
