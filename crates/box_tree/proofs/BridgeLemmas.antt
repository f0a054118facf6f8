-- The squares that are counted here are those of the k2-tree with the same cells.
use Rattle.std.proofs.Common.{◌≡◌, ℕ, zero, suc, ◌+◌, ◌-◌, ◌*◌, ◌/◌, ◌^◌, ◌<◌, ◌≤◌, ◌==◌, Bool, true, false}
use Rattle.std.proofs.Common.{List, [], ◌∷◌, ◌++◌, length, filter, refl, sym, ap, ◌∙◌, arith, All, append-nil, inl, inr, subst}
use Rattle.std.specs.Prelude.{nat_lt, if◌then◌else◌}
use Rattle.std.specs.List.{list_any, range_with_len, sum_by}
use Rattle.std.proofs.lemmas.Bool.{cases_Bool, false≢true}
use Rattle.std.proofs.lemmas.Bool.Decides.{nat_tests}
use Rattle.std.proofs.lemmas.List.Elements.{filter_agree}
use Rattle.std.proofs.lemmas.List.Sums.{sum_by-cons}
use Rattle.std.proofs.Math.Nat.{div-eq_of_lt-le}
use Rattle.list_laws.proofs.FilterLemmas.{sum_by_if}
use Rattle.list_laws.proofs.SumLemmas.{sum_by-agree}
use Rattle.track_types.specs.declared.cell_box.CellBox.{CellBox}
use Rattle.k2_tree.specs.Pruning.{on_areas, place_among, weight_below}
use Rattle.k2_tree.specs.Pruning.{square_count, child_prefixes}
use Rattle.k2_tree.specs.Squares.{Node, node, squares_from}
use Rattle.k2_tree.specs.Tree.{Tree, IsTree, codes_of, tree_widths}
use Rattle.k2_tree.specs.Widths.{digits_in, levels_with, widths_of}
use Rattle.k2_tree.specs.TreeBits.{Rises, is_in, children_of_prefixes, prefixes}
use Rattle.k2_tree.proofs.PrefixLemmas.{any-prefixes, fan_pos, prefixes-top}
use Rattle.k2_tree.proofs.PruningLemmas.{weight_below-all}
use Rattle.k2_tree.proofs.WidthLemmas.{digits_in-widths_of}
use Rattle.box_tree.specs.Levels.{children, digits, square_start, is_held, squares_in}
use Rattle.box_tree.specs.Places.{held_square_count}
use Rattle.box_tree.specs.Tests.{squares_at}
use Rattle.box_tree.specs.Tree.{levels_below, places_with}

-- one for each square that passes
abbrev pub one_of : (Node → Bool) → Node → ℕ
one_of test square = if test square then 1 else 0

-- a square holds a number where one has its prefix
is_held-any : (codes : List ℕ) (n prefix : ℕ) → is_held codes n prefix ≡ list_any (λ code. code / 4 ^ n == prefix) codes
unfolding is_held square_start
is_held-any codes n prefix = by_counts codes (4 ^ n) (fan_pos n)
  where
    below : (a b : ℕ) (codes : List ℕ) → a ≤ b → place_among codes a ≤ place_among codes b
    below a b [] up = omega arith
    below a b (x ∷ xs) up = grind (arith, nat_tests, below a b xs up)

    within : (size x : ℕ) → 0 < size → (x / size * size ≤ x) × (x < (x / size + 1) * size)
    within size x some =
        let low : size * (x / size) ≤ x = omega arith in
        let high : x < size * (x / size) + size = omega arith in
        (grind (arith, low), grind (arith, high))

    inside : (size x : ℕ) → 0 < size → (x / size == prefix) ≡ true → (prefix * size ≤ x) × (x < (prefix + 1) * size)
    inside size x some e =
        let it : x / size ≡ prefix = grind (arith, nat_tests) in
        subst (λ q. (q * size ≤ x) × (x < (q + 1) * size)) it (within size x some)

    outside : (size x : ℕ) → 0 < size → (x / size == prefix) ≡ false → prefix * size ≤ x → x < (prefix + 1) * size → ⊥
    outside size x some e low high =
        let it : x / size ≡ prefix = div-eq_of_lt-le size low high in
        absurd (grind (arith, nat_tests, it))

    steps : (size : ℕ) → prefix * size ≤ (prefix + 1) * size
    steps size = grind arith

    by_counts : (codes : List ℕ) (size : ℕ) → 0 < size
        → nat_lt (place_among codes (prefix * size)) (place_among codes ((prefix + 1) * size)) ≡ list_any
        (λ code. code / size == prefix) codes
    by_counts [] size some = refl
    by_counts (x ∷ xs) size some =
        let rest = by_counts xs size some in
        let up = below (prefix * size) ((prefix + 1) * size) xs (steps size) in
        elim (cases_Bool (x / size == prefix)) [
          | inl its ↦ let it = inside size x some its in
              let a : nat_lt x (prefix * size) ≡ false = grind (arith, nat_tests, it.0) in
              let b : nat_lt x ((prefix + 1) * size) ≡ true = grind (arith, nat_tests, it.1) in
              rw (its, a, b) (grind (arith, nat_tests, up))
          | inr not ↦ elim (cases_Bool (nat_lt x (prefix * size))) [
            | inl less ↦
                let l : x < prefix * size = grind (arith, nat_tests) in
                let far = steps size in
                let b : nat_lt x ((prefix + 1) * size) ≡ true = grind (arith, nat_tests, l, far) in
                rw (not, less, b) (shift (place_among xs (prefix * size)) (place_among xs ((prefix + 1) * size)) ∙ rest)
            | inr from ↦
                let l : prefix * size ≤ x = grind (arith, nat_tests) in
                let b : nat_lt x ((prefix + 1) * size) ≡ false = elim (cases_Bool (nat_lt x ((prefix + 1) * size))) [
                  | inl yes' ↦ absurd (outside size x some not l (grind (arith, nat_tests)))
                  | inr no' ↦ no'
                ] in
                rw (not, from, b) rest
          ]
        ]
      where
        shift : (a b : ℕ) → nat_lt (suc a) (suc b) ≡ nat_lt a b
        shift a b = grind (arith, nat_tests)

-- the digits of levels
digits-same : (levels : List ℕ) → digits levels ≡ digits_in levels
unfolding digits_in
digits-same [] = refl
digits-same (level ∷ levels) = ap (λ n. level + n) (digits-same levels)

module _ (test : Node → Bool) (codes cells : List ℕ) (same : (p : ℕ → Bool) → list_any p codes ≡ list_any p cells) where
  held-in : (n q : ℕ) → is_held codes n q ≡ is_in (prefixes n cells) q
  held-in n q = is_held-any codes n q ∙ same (λ code. code / 4 ^ n == q) ∙ sym (any-prefixes (λ o. o == q) n cells)

  children-are : (n width prefix : ℕ) → children codes n width prefix ≡ child_prefixes width n cells prefix
  unfolding children children_of_prefixes child_prefixes
  children-are n width prefix =
      let all : List ℕ = range_with_len (4 ^ width * prefix) (4 ^ width) in
      filter_agree (is_held codes n) (is_in (prefixes n cells)) (held-in n) all
      ∙ ap (filter (is_in (prefixes n cells))) (sym (append-nil all))

  squares_in-weights : (levels : List ℕ) (prefix : ℕ)
      → squares_in test codes levels prefix ≡ weight_below (one_of test) cells levels prefix
  unfolding squares_in weight_below
  squares_in-weights [] prefix = refl
  squares_in-weights (level ∷ levels) prefix =
      let n : ℕ = digits_in levels in
      rw (digits-same levels, children-are n level prefix)
      (ap (λ k. one_of test (node (level + n) prefix) + k)
      (sum_by-agree (squares_in test codes levels) (weight_below (one_of test) cells levels)
      (squares_in-weights levels) (child_prefixes level n cells prefix)))

  -- the squares of a tree that pass
  pub squares-counted : (levels : List ℕ) → 0 < length cells → Rises 0 cells
      → All (λ c. c < 4 ^ digits_in levels) cells
      → squares_in test codes levels 0 ≡ length (filter test (squares_from levels cells))
  squares-counted levels some up small =
      squares_in-weights levels 0
      ∙ sym (top cells small some)
      ∙ weight_below-all (one_of test) levels cells up
      ∙ sum_by_if 1 test (squares_from levels cells) ∙ omega arith
    where
      top : (cells : List ℕ) → All (λ c. c < 4 ^ digits_in levels) cells → 0 < length cells
          → sum_by (weight_below (one_of test) cells levels) (prefixes (digits_in levels) cells) ≡ weight_below
          (one_of test) cells levels 0
      top [] small some = absurd (omega arith)
      top (c ∷ cs) small some =
          ap (sum_by (weight_below (one_of test) (c ∷ cs) levels)) (prefixes-top (digits_in levels) c cs small)
          ∙ sum_by-cons (weight_below (one_of test) (c ∷ cs) levels) 0 [] ∙ omega arith

-- levels of one digit, and those of two above them, are levels of a k2-tree
narrow-levels : (narrow below : ℕ) → below ≤ narrow → levels_below narrow below ≡ levels_with 1 below
unfolding levels_below levels_with
narrow-levels narrow zero low = refl
narrow-levels narrow (suc below) low =
    let one : nat_lt below narrow ≡ true = grind (arith, nat_tests) in
    rw one (ap (λ levels. 1 ∷ levels) (narrow-levels narrow below (omega arith)))

mixed-levels : (narrow wide : ℕ) → levels_below narrow (narrow + wide) ≡ levels_with 2 wide ++ levels_with 1 narrow
unfolding levels_below levels_with
mixed-levels narrow zero =
    let none : narrow + 0 ≡ narrow = omega arith in
    ap (levels_below narrow) none ∙ narrow-levels narrow narrow (omega arith)
mixed-levels narrow (suc wide) =
    let more : narrow + suc wide ≡ suc (narrow + wide) = omega arith in
    let two : nat_lt (narrow + wide) narrow ≡ false = grind (arith, nat_tests) in
    ap (levels_below narrow) more ∙ rw two (ap (λ levels. 2 ∷ levels) (mixed-levels narrow wide))

pub levels-widths : (height wide : ℕ) → 2 * wide ≤ height
    → levels_below (height - 2 * wide) (height - wide) ≡ widths_of height wide
levels-widths height wide fits =
    let all : height - wide ≡ (height - 2 * wide) + wide = omega arith in
    ap (levels_below (height - 2 * wide)) all ∙ mixed-levels (height - 2 * wide) wide

-- so a tree of boxes over the cells of a k2-tree, each as often as one likes, counts the squares that it counts
pub held_square_count-tree : (tree : Tree) → IsTree tree → (keep : CellBox → Bool) (codes : List ℕ) (boxes : List CellBox)
    → ((p : ℕ → Bool) → list_any p codes ≡ list_any p (codes_of tree))
    → held_square_count (squares_at tree.base keep)
    (places_with (tree.height - tree.wide) (tree.height - 2 * tree.wide) codes boxes) ≡ square_count keep tree
unfolding held_square_count prefixes
held_square_count-tree tree is keep [] boxes same = sym (none (codes_of tree) is.codes.rising (sym (same (λ _. true))))
  where
    none : (cells : List ℕ) → Rises 0 cells → list_any (λ _. true) cells ≡ false
        → length (filter (on_areas keep tree) (squares_from (tree_widths tree) cells)) ≡ 0
    none [] up empty =
        omega (
          arith,
          weight_below-all (one_of (on_areas keep tree)) (tree_widths tree) [] up,
          sum_by_if 1 (on_areas keep tree) (squares_from (tree_widths tree) []),
        )
    none (c ∷ cs) up empty = absurd (false≢true (sym empty))
held_square_count-tree tree is keep (code ∷ codes) boxes same =
    let test : nat_lt 0 (length (code ∷ codes)) ≡ true = grind (arith, nat_tests) in
    let all : digits_in (tree_widths tree) ≡ tree.height = digits_in-widths_of tree.height tree.wide is.fits in
    rw (test, levels-widths tree.height tree.wide is.fits)
    (squares-counted (on_areas keep tree) (code ∷ codes) (codes_of tree) same (tree_widths tree)
    (some (codes_of tree) (sym (same (λ _. true)))) is.codes.rising (rw all is.codes.small))
  where
    some : (cells : List ℕ) → list_any (λ _. true) cells ≡ true → 0 < length cells
    some [] any = absurd (false≢true any)
    some (c ∷ cs) any = omega arith
