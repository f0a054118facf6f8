-- Boxes as they are kept.
use Rattle.std.proofs.Common.{◌≡◌, ◌<◌, ◌^◌, ℕ, zero, suc, List, [], ◌∷◌, ◌++◌, length, refl, ap, ◌∙◌, arith, All, Some}
use Rattle.std.proofs.Common.{ℤ, pos, ◌+ℤ◌, ◌≤ℤ◌, w64, to_z, of_z}
use Rattle.std.specs.Prelude.{neg_ℤ}
use Rattle.std.proofs.lemmas.Int.{ints}
use Rattle.std.proofs.lemmas.List.Elements.{All-weaker}
use Rattle.track_types.specs.Near.{IsBoxWithin, IsWithin}
use Rattle.track_types.specs.declared.limit.TheConstants.{MAX_ASKED}
use Rattle.std.specs.Prelude.{slice_get}
use Rattle.std.proofs.lemmas.Option.{same_Some}
use Rattle.track_types.specs.declared.cell.Cell.{Cell}
use Rattle.track_types.specs.declared.cell_box.CellBox.{CellBox}
use Rattle.k2_tree.specs.Morton.{IsBase}
use Rattle.box_tree.specs.Boxes.{IsFrom, box_with, boxes_of}

-- there are as many boxes as corners
pub boxes_of-length : (base : Cell) (corners reaches : List (ℕ × ℕ)) → length reaches ≡ length corners
    → length (boxes_of base corners reaches) ≡ length corners
unfolding boxes_of
boxes_of-length base [] reaches same = refl
boxes_of-length base (c ∷ corners) [] same = absurd (omega arith)
boxes_of-length base (c ∷ corners) (r ∷ reaches) same = ap suc (boxes_of-length base corners reaches (omega arith))

-- the box at a place is that of the corner and the reach there
pub boxes_of-at : (base : Cell) (corners reaches : List (ℕ × ℕ)) (place : ℕ) (corner reach : ℕ × ℕ)
    → slice_get corners place ≡ Some corner → slice_get reaches place ≡ Some reach
    → slice_get (boxes_of base corners reaches) place ≡ Some (box_with base corner reach)
unfolding boxes_of
boxes_of-at base [] reaches zero corner reach a b = absurd (cc)
boxes_of-at base [] reaches (suc place) corner reach a b = absurd (cc)
boxes_of-at base (c ∷ corners) [] zero corner reach a b = absurd (cc)
boxes_of-at base (c ∷ corners) [] (suc place) corner reach a b = absurd (cc)
boxes_of-at base (c ∷ corners) (r ∷ reaches) zero corner reach a b =
    ap (λ k. Some (box_with base k r)) (same_Some c corner a)
    ∙ ap (λ k. Some (box_with base corner k)) (same_Some r reach b)
boxes_of-at base (c ∷ corners) (r ∷ reaches) (suc place) corner reach a b =
    boxes_of-at base corners reaches place corner reach a b

-- one box more
pub boxes_of-more : (base : Cell) (corners reaches : List (ℕ × ℕ)) (corner reach : ℕ × ℕ)
    → length reaches ≡ length corners
    → boxes_of base (corners ++ corner ∷ [])
    (reaches ++ reach ∷ []) ≡ boxes_of base corners reaches ++ box_with base corner reach ∷ []
unfolding boxes_of
boxes_of-more base [] [] corner reach same = refl
boxes_of-more base [] (r ∷ reaches) corner reach same = absurd (omega arith)
boxes_of-more base (c ∷ corners) [] corner reach same = absurd (omega arith)
boxes_of-more base (c ∷ corners) (r ∷ reaches) corner reach same =
    ap (λ rest. box_with base c r ∷ rest) (boxes_of-more base corners reaches corner reach (omega arith))

-- boxes from a base on are near 0
pub from-within : (base : Cell) → IsBase base → (boxes : List CellBox) → All (IsFrom base) boxes → All IsBoxWithin boxes
from-within base near boxes each = All-weaker (IsFrom base) IsBoxWithin within boxes each
  where
    within : (area : CellBox) → IsFrom base area → IsBoxWithin area
    within area from = record {
      x1 = record {
        low = omega (arith, ints, near.left, from.left);
        high =
            omega (arith, ints, near.right, from.right, area.wide);
      };
      y1 = record {
        low = omega (arith, ints, near.below, from.below);
        high =
            omega (arith, ints, near.above, from.above, area.high);
      };
      x2 = record {
        low = omega (arith, ints, near.left, from.left, area.wide);
        high =
            omega (arith, ints, near.right, from.right);
      };
      y2 = record {
        low = omega (arith, ints, near.below, from.below, area.high);
        high =
            omega (arith, ints, near.above, from.above);
      };
    }

-- the least and the greatest coordinate of a box, as words add them: how far from a base, and how far from there
module _ (base step more : ℤ) (far long : ℕ) (left : neg_ℤ (pos MAX_ASKED) ≤ℤ base) (right : base ≤ℤ pos MAX_ASKED)
    (steps : step ≡ pos far) (near : far < 2 ^ 32) (mores : more ≡ pos long) (short : long < 2 ^ 32) where
  abbrev begin : ℤ
  begin = to_z w64 (of_z w64 base) +ℤ to_z w64 (of_z w64 step)

  pub begins : to_z w64 (of_z w64 begin) ≡ base +ℤ pos far
  begins = omega (arith, ints)

  pub ends : to_z w64 (of_z w64 (to_z w64 (of_z w64 begin) +ℤ to_z w64 (of_z w64 more))) ≡ base +ℤ pos far +ℤ pos long
  ends = omega (arith, ints)

  pub begins-within : IsWithin (to_z w64 (of_z w64 begin))
  begins-within = record { low = omega (arith, ints); high = omega (arith, ints) }

  pub ends-within : IsWithin (to_z w64 (of_z w64 (to_z w64 (of_z w64 begin) +ℤ to_z w64 (of_z w64 more))))
  ends-within = record { low = omega (arith, ints); high = omega (arith, ints) }
