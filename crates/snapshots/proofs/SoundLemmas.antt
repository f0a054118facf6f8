-- Shaped parts have no flaw if and only if they are sound.
use Rattle.std.proofs.Common.{◌≡◌, ℕ, zero, suc, ◌+◌, ◌-◌, ◌<◌, ◌≤◌, Bool, true, false, leb, cond, List, length}
use Rattle.std.proofs.Common.{get_or}
use Rattle.std.proofs.Common.{Option, None, Some, inl, inr, refl, sym, ap, ◌∙◌, arith}
use Rattle.std.specs.Prelude.{◌*◌, ◌==◌, ◌&&◌, ◌||◌, not}
use Rattle.std.proofs.lemmas.Bool.{and_from, cases_Bool, cases_lt, eq-eqb, leb-false, lt-leb}
use Rattle.std.proofs.lemmas.Bool.Decides.{nat_tests}
use Rattle.std.proofs.lemmas.Int.{ints}
use Rattle.std.proofs.lemmas.List.Elements.{All-from_get_or, All-get_or}
use Rattle.std.proofs.lemmas.Option.{get_or_from_slice_get}
use Rattle.bit_rank.specs.Bits.{rank_of}
use Rattle.bit_rank.proofs.RankLemmas.{rank_of-le, rank_of-step}
use Rattle.list_laws.proofs.FindLemmas.{find_in_range-all, find_in_range-none}
use Rattle.object_perm.proofs.FlawLemmas.{first_flawed_place-permutes, permutes-from_none}
use Rattle.track_types.specs.Frame.{instants_in, wide_of, IsFrame}
use Rattle.track_types.specs.Spelling.{spelling_of}
use Rattle.track_types.specs.declared.cell.Cell.{Cell}
use Rattle.track_types.specs.declared.frame.Frame.{Frame}
use Rattle.track_types.specs.declared.limit.TheConstants.{MAX_TREE}
use Rattle.track_types.proofs.SpellingLemmas.{wide_levels-few}
use Rattle.k2_tree.specs.Morton.{IsGrid}
use Rattle.k2_tree.specs.Groups.{upper_squares}
use Rattle.k2_tree.specs.Tree.{codes_in, codes_of, tree_bits, tree_of, IsStoredTree}
use Rattle.k2_tree.specs.TreeBits.{morton_bits}
use Rattle.k2_tree.specs.Widths.{widths_of}
use Rattle.k2_tree.specs.Flaws.{tree_flaw, StandsFor}
use Rattle.k2_tree.proofs.CellLemmas.{codes_back, IsTree-stored}
use Rattle.k2_tree.proofs.FlawlessLemmas.{AreTreeBits-flawless}
use Rattle.k2_tree.proofs.FlawedLemmas.{AreNoTree-flawed}
use Rattle.snapshots.specs.View.{SnapshotView, leaf_at, tree_in, widths_in}
use Rattle.snapshots.specs.Flaws.{flaw_of, have_cells, is_disordered, offset_flaw, order_flaw, IsShapedView}
use Rattle.snapshots.specs.Sound.{IsSoundPeriod}
use Rattle.snapshots.proofs.FlawlessLemmas.{cells_from, IsFlawless-from_none}

-- after a place that is not the last of its leaf stands a greater rank
next_greater : (lasts : List Bool) (perm : List ℕ) (place : ℕ) → order_flaw lasts perm ≡ None
    → length perm ≡ length lasts → place + 1 < length perm → rank_of lasts place ≡ rank_of lasts (place + 1)
    → get_or perm place 0 < get_or perm (place + 1) 0
next_greater lasts perm place none long within same =
    let other : get_or lasts place false ≡ false = elim (cases_Bool (get_or lasts place false)) [
      | inl on ↦ absurd (omega (arith, rank_of-step lasts place (omega arith) ∙ ap (λ b. rank_of lasts place + cond b 1 0) on))
      | inr off ↦ off
    ] in
    let before : place + 1 - 1 ≡ place = omega arith in
    let fails =
    find_in_range-all (is_disordered lasts perm) 1 (length perm - 1) none (place + 1) (omega arith) (omega arith) in
    let fails' : (not (get_or lasts place false) && leb (get_or perm (place + 1) 0) (get_or perm place 0)) ≡ false =
    rw before at fails in
    leb-false (get_or perm (place + 1) 0) (get_or perm place 0) (rw other at fails')

-- in a leaf the ranks ascend
ascends : (lasts : List Bool) (perm : List ℕ) (p q : ℕ) → order_flaw lasts perm ≡ None
    → length perm ≡ length lasts → p < q → q < length perm → rank_of lasts p ≡ rank_of lasts q
    → get_or perm p 0 < get_or perm q 0
ascends lasts perm p zero none long less within same = absurd (omega arith)
ascends lasts perm p (suc q) none long less within same =
    let next : suc q ≡ q + 1 = omega arith in
    let same' : rank_of lasts p ≡ rank_of lasts (q + 1) = same ∙ ap (rank_of lasts) next in
    let low = rank_of-le lasts p q (omega arith) in
    let high = rank_of-le lasts q (q + 1) (omega arith) in
    let step = next_greater lasts perm q none long (omega arith) (omega arith) in
    let up : get_or perm q 0 < get_or perm (suc q) 0 = rw next step in
    elim (cases_lt p q) [
      | inl before ↦
          let earlier = ascends lasts perm p q none long before (omega arith) (omega arith) in omega arith
      | inr not ↦ let here : p ≡ q = omega arith in rw here up
    ]

-- the grid of a header
pub IsGrid-frame : (frame : Frame) → IsFrame frame → IsGrid frame.height frame.base
IsGrid-frame frame is = record {
  some = is.some;
  limit = is.limit;
  left = omega (arith, ints, is.columns.low);
  right = omega (arith, ints, is.columns.high);
  below = omega (arith, ints, is.lines.low);
  above = omega (arith, ints, is.lines.high);
}

-- at most one level of four is wide, in any version
pub wide_of-few : (frame : Frame) → 4 * wide_of frame ≤ frame.height
wide_of-few frame = wide_levels-few (spelling_of frame.version) frame.height

-- so they take no more digits than there are
pub wide_of-fits : (frame : Frame) → 2 * wide_of frame ≤ frame.height
wide_of-fits frame = omega (arith, wide_of-few frame)

-- bits without a flaw are those of the tree that they tell
stands : (height wide : ℕ) (base : Cell) (bits : List Bool) → IsGrid height base → 2 * wide ≤ height
    → length bits ≤ MAX_TREE → tree_flaw (widths_of height wide) bits ≡ None
    → StandsFor height wide base bits (tree_of height wide base bits)
unfolding tree_bits
stands height wide base bits grid fits few none =
    let are = AreTreeBits-flawless height wide bits fits few none in
    let stored : IsStoredTree height wide base bits (upper_squares height wide (codes_in (widths_of height wide) bits)) =
    record { grid = grid; tree = are; upper_is = refl } in
    record {
      high = refl;
      levels = refl;
      from = refl;
      is_tree = IsTree-stored stored;
      same = ap (morton_bits (widths_of height wide)) (codes_back height base _ are.codes.small) ∙ sym are.exact;
    }

-- parts without a flaw are sound
pub IsSoundPeriod-flawless : (view : SnapshotView) → IsShapedView view → flaw_of view ≡ None → IsSoundPeriod view
IsSoundPeriod-flawless view shaped none =
    let flawless = IsFlawless-from_none view none in
    let cells = cells_from view.parts.lasts (length (tree_in view).cells) flawless.cells in
    record {
      offsets = All-from_get_or (λ x. x < instants_in view.frame view.number) view.parts.offsets 0 (λ i within.
          leb-false _ _ (find_in_range-all _ 0 (length view.parts.offsets) flawless.offsets i (omega arith) (omega arith)));
      tree = stands view.frame.height (wide_of view.frame) view.frame.base view.parts.tree
          (IsGrid-frame view.frame shaped.header) (wide_of-fits view.frame) shaped.bits flawless.tree;
      cells = cells.0;
      last = cells.1;
      permutes = permutes-from_none view.parts.perm flawless.perm;
      order = λ p q less within same.
          ascends view.parts.lasts view.parts.perm p q flawless.order (shaped.perm ∙ sym shaped.lasts) less within same;
    }

-- the tests of sound parts, from the last to the first
module _ (view : SnapshotView) (shaped : IsShapedView view) (sound : IsSoundPeriod view) where
  no_late : offset_flaw (instants_in view.frame view.number) view.parts.offsets ≡ None
  no_late = find_in_range-none _ 0 (length view.parts.offsets) (λ i low within.
      lt-leb (instants_in view.frame view.number) (get_or view.parts.offsets i 0)
      (All-get_or (λ x. x < instants_in view.frame view.number) view.parts.offsets i 0 (omega arith) sound.offsets))

  no_tree_flaw : tree_flaw (widths_in view.frame) view.parts.tree ≡ None
  unfolding tree_bits
  no_tree_flaw =
      let stands = sound.tree in by_flaw (tree_flaw (widths_in view.frame) view.parts.tree) refl
    where
      by_flaw : (first : Option ℕ) → tree_flaw (widths_in view.frame) view.parts.tree ≡ first → first ≡ None
      by_flaw None e = refl
      by_flaw (Some place) e =
          absurd (AreNoTree-flawed view.frame.height (wide_of view.frame) view.parts.tree place
          (wide_of-fits view.frame) e (codes_of (tree_in view))
          sound.tree.is_tree.codes sound.tree.same)

  have : have_cells view.parts.lasts (length (tree_in view).cells) ≡ true
  have = and_from _ _ (eq-eqb _ _ sound.cells) (by_length (length view.parts.lasts == 0) refl)
    where
      by_length : (b : Bool) → (length view.parts.lasts == 0) ≡ b
          → ((length view.parts.lasts == 0) || get_or view.parts.lasts (length view.parts.lasts - 1) false) ≡ true
      by_length true e = rw e refl
      by_length false e =
          let some : 0 < length view.parts.lasts = grind (arith, nat_tests, e) in
          rw e (get_or_from_slice_get view.parts.lasts (length view.parts.lasts - 1) true false (sound.last some))

  no_disorder : order_flaw view.parts.lasts view.parts.perm ≡ None
  no_disorder =
      find_in_range-none (is_disordered view.parts.lasts view.parts.perm) 1 (length view.parts.perm - 1)
      (λ place low high. ordered place low (omega arith))
    where
      ordered : (place : ℕ) → 1 ≤ place → place < length view.parts.perm
          → is_disordered view.parts.lasts view.parts.perm place ≡ false
      ordered place some within = elim (cases_Bool (get_or view.parts.lasts (place - 1) false)) [
        | inl last ↦ rw last refl
        | inr other ↦
            let next : place - 1 + 1 ≡ place = omega arith in
            let step = rank_of-step view.parts.lasts (place - 1) (omega (arith, shaped.perm, shaped.lasts))
            ∙ ap (λ b. rank_of view.parts.lasts (place - 1) + cond b 1 0) other in
            let same : leaf_at view (place - 1) ≡ leaf_at view place =
            sym (step ∙ omega arith) ∙ ap (leaf_at view) next in
            let up = sound.order (place - 1) place (omega arith) within same in
            rw (other, lt-leb (get_or view.parts.perm place 0) (get_or view.parts.perm (place - 1) 0) up) refl
      ]

  -- sound parts have no flaw
  pub flaw_of-sound : flaw_of view ≡ None
  flaw_of-sound =
      let permutes = first_flawed_place-permutes view.parts.perm sound.permutes in
      rw (no_late, no_tree_flaw, have, permutes, no_disorder) refl

-- shaped parts have no flaw if and only if they are sound
pub flaw_of-none : (view : SnapshotView) → IsShapedView view
    → (flaw_of view ≡ None → IsSoundPeriod view) × (IsSoundPeriod view → flaw_of view ≡ None)
flaw_of-none view shaped = (IsSoundPeriod-flawless view shaped, flaw_of-sound view shaped)
