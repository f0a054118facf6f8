-- The first flaw of bits, a group and a level at a time.
use Rattle.std.proofs.Common.{◌≡◌, ℕ, suc, ◌+◌, ◌-◌, ◌*◌, ◌<◌, ◌≤◌, nat_le, Bool, true, false, cond, List, [], ◌∷◌}
use Rattle.std.proofs.Common.{length, take, drop, get_or, refl, sym, ap, ◌∙◌, arith, Option, None, Some}
use Rattle.std.proofs.Common.{length-drop, length-take}
use Rattle.std.specs.Prelude.{slice_get}
use Rattle.std.specs.List.{list_any}
use Rattle.std.specs.Option.{option_or}
use Rattle.std.proofs.Math.Seq.{take-add}
use Rattle.std.proofs.lemmas.Bool.{le-leb, lt-leb}
use Rattle.std.proofs.lemmas.List.{drop-drop, drop_all, get_or-drop}
use Rattle.std.proofs.lemmas.Option.{get_or_from_slice_get, none-some}
use Rattle.list_laws.proofs.FirstLemmas.{map-none}
use Rattle.packed_bits.specs.Bits.{ones_of}
use Rattle.bit_rank.specs.Bits.{rank_of}
use Rattle.bit_rank.proofs.RankLemmas.{ones_of-append, ones_of-cons, ones_of-le-length, ones_of-nil, rank_of-step}
use Rattle.k2_tree.specs.Widths.{fan_of, width_below, widths_under}
use Rattle.k2_tree.specs.Flaws.{has_group, group_flaw, level_flaw, tree_flaw}
use Rattle.k2_tree.specs.Checking.{flaw_from, group_ones, IsLevel}
use Rattle.k2_tree.proofs.WidthLemmas.{widths_under-opened, widths_under-none}
use Rattle.k2_tree.proofs.FlawedLemmas.{has_group-parts}

-- the ones of a group that is whole
pub group_ones-whole : (size : ℕ) (bits : List Bool) → size ≤ length bits → group_ones size bits
    ≡ ones_of (take size bits)
group_ones-whole size bits long = rw (le-leb size (length bits) long) refl

-- there is a group where it has ones
has_group-ones : (size : ℕ) (bits : List Bool) → has_group size bits ≡ nat_le 1 (group_ones size bits)
has_group-ones size bits = grind (arith, any-ones (take size bits))
  where
    any-ones : (bits : List Bool) → list_any (λ bit. bit) bits ≡ nat_le 1 (ones_of bits)
    any-ones [] = rw ones_of-nil refl
    any-ones (true ∷ bits) = sym (le-leb 1 (ones_of (true ∷ bits)) (omega (arith, ones_of-cons true bits)))
    any-ones (false ∷ bits) = any-ones bits ∙ ap (nat_le 1) (omega (arith, ones_of-cons false bits))

-- one bit more of a group
pub group_step : (bits : List Bool) (place i : ℕ) (bit : Bool) → place ≤ i → i < length bits
    → slice_get bits i ≡ Some bit
    → ones_of (take (i + 1 - place) (drop place bits)) ≡ ones_of (take (i - place) (drop place bits)) + cond bit 1 0
unfolding rank_of
group_step bits place i bit from within is =
    let a : i + 1 - place ≡ i - place + 1 = omega arith in
    let b : place + (i - place) ≡ i = omega arith in
    let here : get_or (drop place bits) (i - place) false ≡ bit =
    get_or-drop place bits (i - place) false ∙ ap (λ k. get_or bits k false) b
    ∙ get_or_from_slice_get bits i bit false is in
    rw (a, ← here) (rank_of-step (drop place bits) (i - place) (omega (arith, length-drop place bits)))

-- one place further on and another are two
flaw_from-twice : (a b : ℕ) (flaw : Option ℕ) → flaw_from a (flaw_from b flaw) ≡ flaw_from (a + b) flaw
flaw_from-twice a b None = refl
flaw_from-twice a b (Some p) = ap Some (omega arith)

-- a level of which so many groups are done: what is left tells its flaw
pub record IsWalk (size : ℕ) (bits : List Bool) (start groups done place ones : ℕ) : Type 0 where
  pub along : place ≡ start + size * done
  pub within : place ≤ length bits
  pub counted : ones ≡ ones_of (take (size * done) (drop start bits))
  pub left : flaw_from start (group_flaw size groups (drop start bits))
      ≡ flaw_from place (group_flaw size (groups - done) (drop place bits))

-- at its beginning
pub walk_starts : (size : ℕ) (bits : List Bool) (start groups : ℕ) → start ≤ length bits
    → IsWalk size bits start groups 0 start 0
walk_starts size bits start groups within =
    let e : groups - 0 ≡ groups = omega arith in
    let none : size * 0 ≡ 0 = omega arith in
    record { along = omega arith; within = within; counted = rw none (sym ones_of-nil); left = rw e refl }

-- the ones of one group more
ones_of-more : (size : ℕ) (bits : List Bool) (start done place : ℕ) → place ≡ start + size * done
    → ones_of (take (size * (done + 1)) (drop start bits))
    ≡ ones_of (take (size * done) (drop start bits)) + ones_of (take size (drop place bits))
ones_of-more size bits start done place along =
    let e : size * (done + 1) ≡ size * done + size = omega arith in
    rw (e, along, ← drop-drop (size * done) start bits) (ap ones_of (take-add (size * done) size (drop start bits))
    ∙ ones_of-append (take (size * done) (drop start bits)) (take size (drop (size * done) (drop start bits))))

module _ {size : ℕ} {bits : List Bool} {start groups done place ones : ℕ}
    (walk : IsWalk size bits start groups done place ones) where
  -- there are few ones
  pub walk_few : ones ≤ size * done
  walk_few =
      let seen : List Bool = take (size * done) (drop start bits) in
      omega (arith, walk.counted, ones_of-le-length seen, length-take (size * done) (drop start bits))

  -- a level that is done
  pub walk_ends : done ≡ groups → IsLevel size bits start groups ones
  unfolding group_flaw
  walk_ends end =
      let e : groups - done ≡ 0 = omega arith in
      record {
        whole = omega (arith, walk.along, walk.within, ap (λ k. size * k) end);
        flawless = map-none (λ p. start + p) (group_flaw size groups (drop start bits)) (walk.left ∙ (rw e refl));
        counted = rw end at walk.counted;
      }

  module _ {found : ℕ} (more : done < groups) (is : found ≡ group_ones size (drop place bits)) where
    next : groups - done ≡ suc (groups - (done + 1))
    next = omega (arith, more)

    -- one group further
    pub walk_goes_on : (found ≡ 0 → ⊥) → IsWalk size bits start groups (done + 1) (place + size) (ones + found)
    unfolding group_flaw
    walk_goes_on some =
        let rest : List Bool = drop place bits in
        let has : has_group size rest ≡ true =
        has_group-ones size rest ∙ le-leb 1 (group_ones size rest) (omega arith) in
        let long : size ≤ length rest = (has_group-parts size rest has).0 in
        let counted : found ≡ ones_of (take size rest) = is ∙ group_ones-whole size rest long in
        let grown = ones_of-more size bits start done place walk.along in
        record {
          along = omega (arith, walk.along);
          within = omega (arith, length-drop place bits);
          counted = omega (arith, walk.counted);
          left = walk.left ∙ (rw (next, has, ← drop-drop size place bits)
              (flaw_from-twice place size (group_flaw size (groups - (done + 1)) (drop size rest))));
        }

    -- a group without a one is the flaw
    pub walk_fails : found ≡ 0 → flaw_from start (group_flaw size groups (drop start bits)) ≡ Some place
    unfolding group_flaw
    walk_fails none =
        let rest : List Bool = drop place bits in
        let lacks : has_group size rest ≡ false =
        has_group-ones size rest ∙ lt-leb 1 (group_ones size rest) (omega arith) in
        walk.left ∙ (rw (next, lacks) (ap Some (omega arith)))

-- levels of which so many are left: what is left tells the flaw
pub record IsPassed (low height : ℕ) (bits : List Bool) (level start groups : ℕ) : Type 0 where
  pub within : start ≤ length bits
  pub left : tree_flaw (widths_under low height) bits
      ≡ flaw_from start (level_flaw (widths_under low level) groups (drop start bits))

-- no bits have no flaw
pub no_bits : (widths : List ℕ) (bits : List Bool) → length bits ≡ 0 → tree_flaw widths bits ≡ None
unfolding tree_flaw
no_bits widths [] none = refl
no_bits widths (bit ∷ bits) none = absurd (omega arith)

-- at the top
pub levels_start : (low height : ℕ) (bits : List Bool) → (length bits ≡ 0 → ⊥) → IsPassed low height bits height 0 1
unfolding tree_flaw
levels_start low height [] some = absurd (some refl)
levels_start low height (bit ∷ bits) some =
    record { within = omega arith; left = sym (from_zero (level_flaw (widths_under low height) 1 (bit ∷ bits))) }
  where
    from_zero : (flaw : Option ℕ) → flaw_from 0 flaw ≡ flaw
    from_zero None = refl
    from_zero (Some p) = ap Some (omega arith)

-- the flaw of the first of two
first : (start place : ℕ) (x y : Option ℕ) → flaw_from start x ≡ Some place
    → flaw_from start (option_or x y) ≡ Some place
first start place None y e = absurd (none-some place e)
first start place (Some p) y e = e

module _ {low height : ℕ} {bits : List Bool} {level start groups : ℕ}
    (passed : IsPassed low height bits level start groups) where
  abbrev w : ℕ
  w = width_below low level

  -- one level further
  pub levels_go_on : {ones : ℕ} → 0 < level → IsLevel (fan_of w) bits start groups ones
      → IsPassed low height bits (level - w) (start + fan_of w * groups) ones
  unfolding level_flaw
  levels_go_on {ones} more found =
      let k : ℕ = fan_of w in
      record {
        within = omega (arith, found.whole);
        left = passed.left ∙ (rw
            (widths_under-opened low level more, found.flawless, ← found.counted, drop-drop (k * groups) start bits)
            (flaw_from-twice start (k * groups)
            (level_flaw (widths_under low (level - w)) ones (drop (start + k * groups) bits))));
      }

  -- the flaw of a level is the tree's
  pub level_fails : {place : ℕ} → 0 < level → flaw_from start (group_flaw (fan_of w) groups (drop start bits))
      ≡ Some place
      → tree_flaw (widths_under low height) bits ≡ Some place
  unfolding level_flaw
  level_fails {place} more fails =
      passed.left ∙ (rw (widths_under-opened low level more)
      (first start place (group_flaw (fan_of w) groups (drop start bits)) _ fails))

  -- after the last level what remains is the flaw
  module _ (end : level ≡ 0) where
    none_left : widths_under low level ≡ []
    none_left = ap (widths_under low) end ∙ widths_under-none low

    pub some_remain : start < length bits → tree_flaw (widths_under low height) bits ≡ Some start
    unfolding level_flaw
    some_remain more =
        passed.left ∙ (rw none_left (by_rest (drop start bits) (omega (arith, length-drop start bits))))
      where
        by_rest : (rest : List Bool) → 0 < length rest → flaw_from start (level_flaw [] groups rest) ≡ Some start
        by_rest [] some = absurd (omega arith)
        by_rest (bit ∷ rest) some = ap Some (omega arith)

    -- where nothing remains, there is none
    pub none_remain : length bits ≤ start → tree_flaw (widths_under low height) bits ≡ None
    unfolding level_flaw
    none_remain past = passed.left ∙ (rw (none_left, drop_all start bits past) refl)
