-- A square of a tree by the digits below it: its group, its children and its parent, by numbers alone.
use Rattle.std.proofs.Common.{◌≡◌, ℕ, ◌+◌, ◌-◌, ◌*◌, ◌/◌, ◌%◌, ◌<◌, ◌≤◌, Bool, true, false}
use Rattle.std.proofs.Common.{List, [], ◌∷◌, ◌++◌, length, get_or, refl, sym, ap, ◌∙◌, inl, inr, arith, subst}
use Rattle.std.proofs.Common.{append_assoc}
use Rattle.bit_rank.specs.Bits.{rank_of, IsSelected}
use Rattle.k2_tree.specs.Widths.{widths_of, digits_in, fan_of, width_below, widths_under}
use Rattle.k2_tree.specs.TreeBits.{is_in, prefixes, morton_bits, AreCodes}
use Rattle.k2_tree.specs.Squares.{squares_above, bits_above, IsSquare}
use Rattle.k2_tree.specs.Groups.{upper_squares, group_start, square_width}
use Rattle.k2_tree.specs.Tree.{codes_in, AreTreeBits}
use Rattle.k2_tree.proofs.LevelLemmas.{digits_in-append}
use Rattle.k2_tree.proofs.WidthLemmas.{digits_in-widths_of, digits_in-widths_under, widths_under-opened}
use Rattle.k2_tree.proofs.WidthLemmas.{widths_under-behind, widths_under-top, firsts, width_below-within}
use Rattle.k2_tree.proofs.WidthLemmas.{widths_under-none}
use Rattle.k2_tree.proofs.GroupLemmas.{group, IsGroup}
use Rattle.k2_tree.proofs.ChildLemmas.{child_place, child_bit, child_square}
use Rattle.k2_tree.proofs.ParentLemmas.{parent_square, IsBelow}
use Rattle.std.proofs.lemmas.Bool.{cases_lt}

-- the square of a prefix with so many digits below it has this number
pub record IsOn (height wide : ℕ) (codes : List ℕ) (level prefix number : ℕ) : Type 0 where
  pub above : List ℕ
  pub parted : above ++ widths_under (height - 2 * wide) level ≡ widths_of height wide
  pub square : IsSquare above (widths_under (height - 2 * wide) level) codes prefix number

-- what the bits tell of a child of a square: they have its place, which tells whether it is there and which number it
-- has
pub record IsTold (height wide : ℕ) (codes : List ℕ) (bits : List Bool) (upper level p j d : ℕ) : Type 0 where
  pub width : width_below (height - 2 * wide) level ≡ square_width upper j
  pub inside : group_start upper j + d < length bits
  pub bit : get_or bits (group_start upper j + d) false
      ≡ is_in (prefixes (level - square_width upper j) codes) (fan_of (square_width upper j) * p + d)
  pub child : is_in (prefixes (level - square_width upper j) codes) (fan_of (square_width upper j) * p + d) ≡ true
      → IsOn height wide codes (level - square_width upper j) (fan_of (square_width upper j) * p + d)
      (rank_of bits (group_start upper j + d) + 1)

-- the one of a square stands in its parent's group
pub record IsUnder (height wide : ℕ) (codes : List ℕ) (bits : List Bool) (upper level q j : ℕ) : Type 0 where
  pub width : ℕ
  pub parent : ℕ
  pub digit : ℕ
  pub some : 1 ≤ width
  pub fits : level + width ≤ height
  pub on : IsOn height wide codes (level + width) (q / fan_of width) parent
  pub digit_is : digit ≡ q % fan_of width
  pub same : width ≡ square_width upper parent
  pub selected : IsSelected bits j (group_start upper parent + digit)

-- the last of some levels, and those before it
record HasLast (xs : List ℕ) : Type 0 where
  pub front : List ℕ
  pub last : ℕ
  pub whole : xs ≡ front ++ last ∷ []

last_of : (x : ℕ) (xs : List ℕ) → HasLast (x ∷ xs)
last_of x [] = record { front = []; last = x; whole = refl }
last_of x (y ∷ ys) =
    let rest = last_of y ys in
    record { front = x ∷ rest.front; last = rest.last; whole = ap (λ zs. x ∷ zs) rest.whole }

-- a level takes a digit
some_first : (low w : ℕ) (ws : List ℕ) (m : ℕ) → w ∷ ws ≡ widths_under low m → 1 ≤ w
some_first low w ws m e = elim (cases_lt 0 m) [
  | inl some ↦
      let first = firsts w (width_below low m) ws (widths_under low (m - width_below low m))
      (e ∙ widths_under-opened low m some) in
      omega (arith, first.0, (width_below-within low m some).0)
  | inr none ↦
      let zero_is : m ≡ 0 = omega arith in
      let clash : w ∷ ws ≡ [] = e ∙ ap (widths_under low) zero_is ∙ widths_under-none low in
      absurd (cc)
]

some_width : (low : ℕ) (xs : List ℕ) (w : ℕ) (ws : List ℕ) (m : ℕ) → xs ++ w ∷ ws ≡ widths_under low m → 1 ≤ w
some_width low xs w ws m e = some_first low w ws (digits_in (w ∷ ws)) (widths_under-behind low m xs (w ∷ ws) e)

module _ {height wide : ℕ} {bits : List Bool} (are : AreTreeBits height wide bits) where
  abbrev low : ℕ
  low = height - 2 * wide

  abbrev codes : List ℕ
  codes = codes_in (widths_of height wide) bits

  abbrev upper : ℕ
  upper = upper_squares height wide codes

  told_at : (above ws : List ℕ) (level p j d w : ℕ) → above ++ w ∷ ws ≡ widths_of height wide
      → w ≡ width_below low level → ws ≡ widths_under low (level - w)
      → IsSquare above (w ∷ ws) codes p j → d < fan_of w
      → IsTold height wide codes bits upper level p j d
  unfolding digits_in
  told_at above ws level p j d w parted width below square small =
      let n : ℕ = digits_in ws in
      let are' : AreCodes (digits_in (above ++ w ∷ ws)) codes =
      subst (λ m. AreCodes m codes) (sym (ap digits_in parted ∙ digits_in-widths_of height wide are.fits)) are.codes in
      let exact : bits ≡ morton_bits (above ++ w ∷ ws) codes = are.exact ∙ ap (λ l. morton_bits l codes) (sym parted) in
      let own : IsGroup upper square.place w (bits_above above (w + n) codes) (squares_above above (w + n) codes) =
      group codes wide low above ws w square.place parted square.within in
      let start : bits_above above (w + n) codes + fan_of w * square.place ≡ group_start upper j =
      own.start_is ∙ ap (group_start upper) (sym square.counted) in
      let same : w ≡ square_width upper j = own.width_is ∙ ap (square_width upper) (sym square.counted) in
      let left : n ≡ level - w = ap digits_in below ∙ digits_in-widths_under low (level - w) in
      let below' : widths_under low n ≡ ws = ap (widths_under low) left ∙ sym below in
      let child : is_in (prefixes n codes) (fan_of w * p + d) ≡ true → IsOn height wide codes n (fan_of w * p + d)
      (rank_of bits (bits_above above (w + n) codes + fan_of w * square.place + d) + 1) =
      λ there. record {
        above = above ++ w ∷ [];
        parted = ap (λ l. (above ++ w ∷ []) ++ l) below' ∙ append_assoc above (w ∷ []) ws ∙ parted;
        square = rw below' (child_square are' exact square d small there);
      } in
      record {
        width = sym width ∙ same;
        inside = rw (← start) (child_place are' exact square d small);
        bit = rw (← same, ← start, ← left) (child_bit are' exact square d small);
        child = rw (← same, ← start, ← left) child;
      }

  -- on the way down, above the cells
  pub told : {level p j : ℕ} → IsOn height wide codes level p j → 0 < level → (d : ℕ)
      → d < fan_of (width_below low level) → IsTold height wide codes bits upper level p j d
  told {level} {p} {j} on some d small =
      let w : ℕ = width_below low level in
      let ws : List ℕ = widths_under low (level - w) in
      let opened : widths_under low level ≡ w ∷ ws = widths_under-opened low level some in
      let parted : on.above ++ w ∷ ws ≡ widths_of height wide = ap (λ l. on.above ++ l) (sym opened) ∙ on.parted in
      let square : IsSquare on.above (w ∷ ws) codes p j = rw opened at on.square in
      told_at on.above ws level p j d w parted refl refl square small

  under_at : (above ws : List ℕ) (level q j w : ℕ) → above ++ w ∷ ws ≡ widths_of height wide
      → ws ≡ widths_under low level → 1 ≤ w → IsSquare (above ++ w ∷ []) ws codes q j
      → IsUnder height wide codes bits upper level q j
  unfolding digits_in
  under_at above ws level q j w parted below some square =
      let n : ℕ = digits_in ws in
      let are' : AreCodes (digits_in (above ++ w ∷ ws)) codes =
      subst (λ m. AreCodes m codes) (sym (ap digits_in parted ∙ digits_in-widths_of height wide are.fits)) are.codes in
      let exact : bits ≡ morton_bits (above ++ w ∷ ws) codes = are.exact ∙ ap (λ l. morton_bits l codes) (sym parted) in
      let up : IsBelow above ws codes w q j bits = parent_square are' exact square in
      let own : IsGroup upper up.square.place w (bits_above above (w + n) codes) (squares_above above (w + n) codes) =
      group codes wide low above ws w up.square.place parted up.square.within in
      let start : bits_above above (w + n) codes + fan_of w * up.square.place ≡ group_start upper up.parent =
      own.start_is ∙ ap (group_start upper) (sym up.square.counted) in
      let top : above ++ w ∷ ws ≡ widths_under low height = parted ∙ sym (widths_under-top height wide are.fits) in
      let all : w ∷ ws ≡ widths_under low (w + n) = widths_under-behind low height above (w ∷ ws) top in
      let digits : n ≡ level = ap digits_in below ∙ digits_in-widths_under low level in
      let level_is : w + n ≡ level + w = omega (arith, digits) in
      let under : w ∷ ws ≡ widths_under low (level + w) = all ∙ ap (widths_under low) level_is in
      let whole : digits_in above + (w + n) ≡ height =
      sym (digits_in-append above (w ∷ ws)) ∙ ap digits_in top ∙ digits_in-widths_under low height in
      record {
        width = w;
        parent = up.parent;
        digit = q % fan_of w;
        some = some;
        fits = omega (arith, whole, level_is);
        on = record { above = above; parted = rw (← under) parted; square = rw (← under) up.square };
        digit_is = refl;
        same = own.width_is ∙ ap (square_width upper) (sym up.square.counted);
        selected = rw (← start) up.selected;
      }

  -- below the top each square has a parent
  pub under : {level q j : ℕ} → IsOn height wide codes level q j → level < height
      → IsUnder height wide codes bits upper level q j
  under {level} {q} {j} on less = by_above on.above on.parted on.square
    where
      by_above : (above : List ℕ) → above ++ widths_under low level ≡ widths_of height wide
          → IsSquare above (widths_under low level) codes q j → IsUnder height wide codes bits upper level q j
      by_above [] parted square =
          let top : widths_under low level ≡ widths_under low height =
          parted ∙ sym (widths_under-top height wide are.fits) in
          absurd (omega (arith, ap digits_in top, digits_in-widths_under low level, digits_in-widths_under low height))
      by_above (x ∷ xs) parted square =
          let last = last_of x xs in
          let ws : List ℕ = widths_under low level in
          let w : ℕ = last.last in
          let whole : last.front ++ w ∷ ws ≡ widths_of height wide =
          sym (append_assoc last.front (w ∷ []) ws) ∙ ap (λ l. l ++ ws) (sym last.whole) ∙ parted in
          let top : last.front ++ w ∷ ws ≡ widths_under low height =
          whole ∙ sym (widths_under-top height wide are.fits) in
          let some : 1 ≤ w = some_width low last.front w ws height top in
          under_at last.front ws level q j w whole refl some (rw last.whole at square)
