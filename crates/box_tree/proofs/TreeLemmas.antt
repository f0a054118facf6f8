-- Levels of a tree.
use Rattle.std.proofs.Common.{◌≡◌, ℕ, zero, suc, ◌+◌, ◌-◌, ◌*◌, ◌^◌, ◌<◌, ◌≤◌, true, false, List, [], ◌∷◌}
use Rattle.std.proofs.Common.{refl, arith}
use Rattle.std.specs.Prelude.{nat_lt, if◌then◌else◌}
use Rattle.std.proofs.Common.{inl, inr, lit≤}
use Rattle.std.proofs.lemmas.Bool.{cases_Bool}
use Rattle.std.proofs.lemmas.Bool.Decides.{nat_tests}
use Rattle.track_types.specs.declared.limit.TheConstants.{MAX_HEIGHT}
use Rattle.box_tree.specs.Levels.{digits}
use Rattle.box_tree.specs.Tree.{AreLevels, child_limit, levels_below, slots}
use Rattle.k2_tree.proofs.PrefixLemmas.{fan_pos}

-- a low level takes one digit
pub width-narrow : (narrow below : ℕ) → 1 ≤ below → below ≤ narrow
    → levels_below narrow below ≡ 1 ∷ levels_below narrow (below - 1)
unfolding levels_below
width-narrow narrow zero some low = absurd (omega arith)
width-narrow narrow (suc below) some low =
    let e : suc below - 1 ≡ below = omega arith in
    let test : nat_lt below narrow ≡ true = grind (arith, nat_tests) in rw (e, test) refl

-- one above takes two
pub width-wide : (narrow below : ℕ) → 1 ≤ below → narrow < below
    → levels_below narrow below ≡ 2 ∷ levels_below narrow (below - 1)
unfolding levels_below
width-wide narrow zero some high = absurd (omega arith)
width-wide narrow (suc below) some high =
    let e : suc below - 1 ≡ below = omega arith in
    let test : nat_lt below narrow ≡ false = grind (arith, nat_tests) in rw (e, test) refl

-- the room that a square with these levels takes is that of its children, and of the levels below
pub slots-parts : (narrow below : ℕ) → 1 ≤ below
    → slots (levels_below narrow below) + 1 ≡ child_limit (levels_below narrow below) + slots
    (levels_below narrow (below - 1))
unfolding levels_below
slots-parts narrow zero some = absurd (omega arith)
slots-parts narrow (suc below) some =
    let e : suc below - 1 ≡ below = omega arith in
    let width : ℕ = if nat_lt below narrow then 1 else 2 in
    let positive : 0 < 4 ^ width = fan_pos width in
    rw e (omega (arith, positive))

-- its children have room where it has
pub child_limit-le : (levels : List ℕ) → child_limit levels ≤ slots levels + 1
child_limit-le [] = omega arith
child_limit-le (level ∷ levels) = omega arith

-- there are at most sixteen of them
pub child_limit-few : (narrow below : ℕ) → child_limit (levels_below narrow below) ≤ 16
unfolding levels_below
child_limit-few narrow zero = omega arith
child_limit-few narrow (suc below) = elim (cases_Bool (nat_lt below narrow)) [
  | inl one ↦ rw one (lit≤ tt)
  | inr two ↦ rw two (lit≤ tt)
]

-- levels that all take one digit
pub digits-narrow : (narrow below : ℕ) → below ≤ narrow → digits (levels_below narrow below) ≡ below
unfolding levels_below
digits-narrow narrow zero low = refl
digits-narrow narrow (suc below) low =
    let one : nat_lt below narrow ≡ true = grind (arith, nat_tests) in
    rw one (omega (arith, digits-narrow narrow below (omega arith)))

slots-narrow : (narrow below : ℕ) → below ≤ narrow → slots (levels_below narrow below) ≡ 3 * below
unfolding levels_below
slots-narrow narrow zero low = refl
slots-narrow narrow (suc below) low =
    let one : nat_lt below narrow ≡ true = grind (arith, nat_tests) in
    rw one (omega (arith, slots-narrow narrow below (omega arith)))

-- so they are levels of a tree
pub levels-narrow : (height : ℕ) → height ≤ MAX_HEIGHT → AreLevels height height height
levels-narrow height low = record {
  digits_are = digits-narrow height height (omega arith);
  few = low;
  room = omega (arith, slots-narrow height height (omega arith));
}
