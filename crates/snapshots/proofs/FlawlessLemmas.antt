-- What it means that a period's parts have no flaw.
use Rattle.std.proofs.Common.{◌≡◌, ℕ, ◌+◌, ◌-◌, ◌<◌, Bool, true, false, List, length, get_or, Option, None}
use Rattle.std.proofs.Common.{Some, refl, ap, ◌∙◌, arith, cond}
use Rattle.std.specs.Option.{option_map, option_or}
use Rattle.std.specs.Prelude.{◌||◌, ◌==◌, if◌then◌else◌, slice_get}
use Rattle.std.proofs.lemmas.Bool.{and_parts, eqb-true}
use Rattle.std.proofs.lemmas.Option.{slice_get-get_or}
use Rattle.packed_bits.specs.Bits.{ones_of}
use Rattle.bit_rank.specs.Bits.{rank_of}
use Rattle.bit_rank.proofs.RankLemmas.{rank_of-step, rank_of-le, rank_of-le-ones_of}
use Rattle.object_perm.specs.Permutation.{first_flawed_place}
use Rattle.track_types.specs.Frame.{instants_in}
use Rattle.k2_tree.specs.Flaws.{tree_flaw}
use Rattle.snapshots.specs.View.{SnapshotView, tree_in, widths_in}
use Rattle.snapshots.specs.Flaws.{flaw_of, have_cells, offset_flaw, order_flaw}

-- none of the five flaws is there
pub record IsFlawless (view : SnapshotView) : Type 0 where
  pub offsets : offset_flaw (instants_in view.frame view.number) view.parts.offsets ≡ None
  pub tree : tree_flaw (widths_in view.frame) view.parts.tree ≡ None
  pub cells : have_cells view.parts.lasts (length (tree_in view).cells) ≡ true
  pub perm : first_flawed_place view.parts.perm ≡ None
  pub order : order_flaw view.parts.lasts view.parts.perm ≡ None

-- where the first of two is none, both are
or_none : {T : Type 0} (a b : Option T) → option_or a b ≡ None → (a ≡ None) × (b ≡ None)
or_none None b none = (refl, none)
or_none (Some x) b none = let clash : Some x ≡ None = none in absurd (cc)

map_none : {T U : Type 0} (f : T → U) (a : Option T) → option_map f a ≡ None → a ≡ None
map_none f None none = refl
map_none f (Some x) none = let clash : Some (f x) ≡ None = none in absurd (cc)

kept : {T : Type 0} (b : Bool) (x : T) → (if b then None else Some x) ≡ None → b ≡ true
kept true x none = refl
kept false x none = let clash : Some x ≡ None = none in absurd (cc)

pub IsFlawless-from_none : (view : SnapshotView) → flaw_of view ≡ None → IsFlawless view
IsFlawless-from_none view none =
    let offsets = or_none _ _ none in
    let tree = or_none _ _ offsets.1 in
    let cells = or_none _ _ tree.1 in
    let perm = or_none _ _ cells.1 in
    record {
      offsets = map_none _ _ offsets.0;
      tree = map_none _ _ tree.0;
      cells = kept _ _ cells.0;
      perm = map_none _ _ perm.0;
      order = map_none _ _ perm.1;
    }

-- where as many are the last of a cell as there are leaves, and the last one of all is
pub cells_from : (lasts : List Bool) (leaves : ℕ) → have_cells lasts leaves ≡ true
    → (ones_of lasts ≡ leaves) × (0 < length lasts → slice_get lasts (length lasts - 1) ≡ Some true)
cells_from lasts leaves has =
    let both = and_parts _ _ has in
    (eqb-true (ones_of lasts) leaves both.0, λ some. by_length (length lasts == 0) refl both.1 some)
  where
    by_length : (b : Bool) → (length lasts == 0) ≡ b
        → ((length lasts == 0) || get_or lasts (length lasts - 1) false) ≡ true
        → 0 < length lasts → slice_get lasts (length lasts - 1) ≡ Some true
    by_length false e is some =
        let on : get_or lasts (length lasts - 1) false ≡ true = rw e at is in
        slice_get-get_or lasts (length lasts - 1) false (omega arith) ∙ ap Some on
    by_length true e is some = absurd (omega (arith, eqb-true (length lasts) 0 e))

-- each place in leaf order has a leaf
pub leaf_within : (lasts : List Bool) (place : ℕ) → get_or lasts (length lasts - 1) false ≡ true
    → place < length lasts → rank_of lasts place < ones_of lasts
leaf_within lasts place last within =
    let step =
    rank_of-step lasts (length lasts - 1) (omega arith)
    ∙ ap (λ b. rank_of lasts (length lasts - 1) + cond b 1 0) last in
    let low = rank_of-le lasts place (length lasts - 1) (omega arith) in
    let high = rank_of-le-ones_of lasts (length lasts - 1 + 1) in
    omega arith
