use Rattle.std.proofs.Common.{◌≡◌, ◌∙◌, ◌+◌, ◌-◌, ◌*◌, ◌^◌, ◌<◌, ◌≤◌, ◌++◌, ap, arith, get_or, length, map, subst, sym, ℕ, List}
use Rattle.packed_bits.specs.Bits.{window_of}
use Rattle.packed_bits.proofs.NumberLemmas.{window_of-lt}
use Rattle.k2_tree.specs.Digits.{digits_of}
use Rattle.k2_tree.specs.Listing.{child_spot, IsLevelOf}
use Rattle.k2_tree.specs.Widths.{fan_of}
use Rattle.k2_tree.specs.declared.listing.Spot.{Spot}
use Rattle.k2_tree.proofs.ListingLemmas.{group_within, length-spots, level_below, spot-small, spots_told, told-more, width_of}
use Rattle.k2_tree.proofs.listing.next_level.Given.{Over}
use Rattle.k2_tree.proofs.listing.next_level.Goals as goal
use Rattle.k2_tree.proofs.listing.next_level.Goals.{After-window-arg-1}

-- the square that is gone over is one of the level
here : (g : Over) (c : After-window-arg-1 g) → c.loop-spot.spot-index < length c.args.from.spots.items
here g c = omega (arith, c.loop-spot-test.true, ap length c.as_slice-spot-items.ensures.value)

-- the width of the level below, and how many children it makes
size : (g : Over) (c : After-window-arg-1 g)
    → c.fan_of-fan.result ≡ fan_of (width_of c.args.height c.args.wide c.args.from.below)
size g c = c.fan_of-fan.ensures.value ∙ ap fan_of c.width_below-width.ensures

-- their bits are in the tree
inside : (g : Over) (c : After-window-arg-1 g) → c.loop-spot.start + c.fan_of-fan.result ≤ length c.args.bits.now
inside g c =
    let many = length-spots c.requires.tree c.requires.level c.requires.inner in
    let within = group_within c.requires.tree c.requires.level c.requires.inner c.loop-spot.spot-index
    (omega (arith, here g c, many)) in
    omega (arith, within, c.loop-spot.invariant.start, size g c)

pub window-digits-requires-clause-within : goal.window-digits-requires-clause-within
window-digits-requires-clause-within g c = inside g c

pub push_children-requires-clause-few : goal.push_children-requires-clause-few
push_children-requires-clause-few g c =
    let w : ℕ = c.width_below-width.result in
    let read = c.window-digits.ensures.value
    ∙ ap (window_of c.args.bits.now c.loop-spot.start) c.fan_of-fan.ensures.value in
    let small = window_of-lt c.args.bits.now c.loop-spot.start (fan_of w) in
    omega (arith, small, read)

-- the square is small
abbrev none : Spot
none = record { code = 0; column = 0; row = 0 }

small : (g : Over) (c : After-window-arg-1 g)
    → ((get_or c.as_slice-spot-items.result.now c.loop-spot.spot-index none).code < 2 ^ 58)
    × ((get_or c.as_slice-spot-items.result.now c.loop-spot.spot-index none).column < 2 ^ 29)
    × ((get_or c.as_slice-spot-items.result.now c.loop-spot.spot-index none).row < 2 ^ 29)
small g c =
    rw c.as_slice-spot-items.ensures.value (spot-small c.requires.tree c.requires.level c.requires.inner
    c.loop-spot.spot-index none (here g c) c.requires.low)

pub push_children-requires-clause-code : goal.push_children-requires-clause-code
push_children-requires-clause-code g c = (small g (goal.at.push_children-requires-clause-code g c).After-window-arg-1).0

pub push_children-requires-clause-column : goal.push_children-requires-clause-column
push_children-requires-clause-column g c = (small g (goal.at.push_children-requires-clause-column g c).After-window-arg-1).1

pub push_children-requires-clause-row : goal.push_children-requires-clause-row
push_children-requires-clause-row g c = (small g (goal.at.push_children-requires-clause-row g c).After-window-arg-1).2

pub overflow_add-start : goal.overflow_add-start
overflow_add-start g c = omega (arith, inside g (goal.at.overflow_add-start g c).After-window-arg-1, c.requires.tree.few)

pub loop-spot-preserved : goal.loop-spot-preserved
loop-spot-preserved g c =
    let a = c.args in
    let i : ℕ = c.loop-spot.spot-index in
    let at = (goal.at.loop-spot-preserved g c).After-window-arg-1 in
    let w : ℕ = width_of a.height a.wide a.from.below in
    let before : List Spot = spots_told a.height a.wide a.bits.now a.from.below i in
    let read : List Spot = c.as_slice-spot-items.result.now in
    let bits = c.window-digits.ensures.value ∙ ap (window_of a.bits.now c.loop-spot.start) (size g at)
    ∙ ap (λ p. window_of a.bits.now p (fan_of w)) c.loop-spot.invariant.start in
    let told = told-more c.requires.tree c.requires.level c.requires.inner i none (here g at) in
    record {
      spots = c.in_ok-push_children.ensures.ok
          ∙ ap (λ xs. xs ++ map (child_spot c.width_below-width.result (get_or read i none))
          (digits_of (fan_of c.width_below-width.result) c.window-digits.result)) c.loop-spot.invariant.spots
          ∙ ap (λ w. before ++ map (child_spot w (get_or read i none)) (digits_of (fan_of w) c.window-digits.result))
          c.width_below-width.ensures
          ∙ ap (λ xs. before ++ map (child_spot w (get_or xs i none)) (digits_of (fan_of w) c.window-digits.result))
          c.as_slice-spot-items.ensures.value
          ∙ ap (λ d. before ++ map (child_spot w (get_or a.from.spots.items i none)) (digits_of (fan_of w) d)) bits ∙ told;
      start = omega (arith, c.loop-spot.invariant.start, size g at);
      reads = omega (arith, c.loop-spot.invariant.reads, c.window-digits.ensures.cost);
    }

pub returns-clause-level : goal.returns-clause-level
returns-clause-level g c =
    let a = c.args in
    let all : c.loop-spot.spot-index ≡ length a.from.spots.items =
    omega (arith, c.loop-spot-test.false, c.loop-spot.auto.spot-index-end, ap length c.as_slice-spot-items.ensures.value) in
    let w = c.width_below-width.ensures in
    subst (λ w. IsLevelOf a.height a.wide a.bits.now c.loop-spot.spots.items c.loop-spot.start (a.from.below - w)) (sym w)
    (level_below c.requires.tree c.requires.level c.requires.inner c.loop-spot.spots.items c.loop-spot.start
    (c.loop-spot.invariant.spots ∙ ap (spots_told a.height a.wide a.bits.now a.from.below) all)
    (omega (arith, c.loop-spot.invariant.start, ap (λ n. fan_of (width_of a.height a.wide a.from.below) * n) all)))
