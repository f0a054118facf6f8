-- The squares of a tree in one list, and the numbers that they have in it.
use Rattle.std.proofs.Common.{◌≡◌, ℕ, ◌+◌, ◌-◌, ◌*◌, ◌<◌, ◌≤◌, List, [], ◌∷◌, ◌++◌, length, get_or}
use Rattle.std.proofs.Common.{refl, sym, ap, ◌∙◌, inl, inr, arith, subst, Some, append_assoc, length-append}
use Rattle.std.proofs.lemmas.List.{length-map, get_or-map}
use Rattle.std.proofs.lemmas.Option.{slice_get-get_or, slice_get_within, same_Some}
use Rattle.std.proofs.lemmas.Bool.{cases_lt}
use Rattle.std.specs.Prelude.{slice_get}
use Rattle.list_laws.proofs.SliceLemmas.{slice_get-append_add, slice_get-append_left}
use Rattle.k2_tree.specs.Widths.{widths_of, digits_in, widths_under}
use Rattle.k2_tree.specs.TreeBits.{prefixes}
use Rattle.k2_tree.specs.Squares.{Node, node, level_squares, squares_from, squares_above, IsSquare}
use Rattle.k2_tree.proofs.LevelLemmas.{digits_in-append, squares_above-snoc}
use Rattle.k2_tree.proofs.WidthLemmas.{digits_in-widths_under, widths_under-behind, widths_under-top}
use Rattle.k2_tree.proofs.OnLemmas.{IsOn}

-- the squares of the levels above
unfoldable pub upper_list : List ℕ → ℕ → List ℕ → List Node
upper_list [] n codes = []
upper_list (w ∷ ws) n codes = level_squares (w + (digits_in ws + n)) codes ++ upper_list ws n codes

-- the squares are those above a level and those from it on
squares_from-parted : (above below codes : List ℕ)
    → squares_from (above ++ below) codes ≡ upper_list above (digits_in below) codes ++ squares_from below codes
unfolding squares_from upper_list
squares_from-parted [] below codes = refl
squares_from-parted (w ∷ ws) below codes =
    ap (λ m. level_squares (w + m) codes ++ squares_from (ws ++ below) codes) (digits_in-append ws below)
    ∙ ap (λ s. level_squares (w + (digits_in ws + digits_in below)) codes ++ s) (squares_from-parted ws below codes)
    ∙ sym (append_assoc (level_squares (w + (digits_in ws + digits_in below)) codes)
    (upper_list ws (digits_in below) codes) (squares_from below codes))

-- the squares above are as many as are counted
length-upper_list : (above : List ℕ) (n : ℕ) (codes : List ℕ) → length (upper_list above n codes)
    ≡ squares_above above n codes
unfolding upper_list squares_above
length-upper_list [] n codes = refl
length-upper_list (w ∷ ws) n codes =
    length-append (level_squares (w + (digits_in ws + n)) codes) (upper_list ws n codes)
    ∙ omega (
      arith,
      length-upper_list ws n codes,
      length-map (prefixes (w + (digits_in ws + n)) codes) (node (w + (digits_in ws + n))),
    )

-- the squares of a level by place
slice_get-level : (n i : ℕ) (codes : List ℕ) → i < length (prefixes n codes)
    → slice_get (level_squares n codes) i ≡ Some (node n (get_or (prefixes n codes) i 0))
slice_get-level n i codes within =
    slice_get-get_or (level_squares n codes) i (node 0 0) (omega (arith, length-map (prefixes n codes) (node n)))
    ∙ ap Some (get_or-map (node n) (prefixes n codes) i 0 (node 0 0) within)

-- the squares from a level on begin with those of the level
slice_get-squares_from : (below : List ℕ) (i : ℕ) (codes : List ℕ) → i < length (prefixes (digits_in below) codes)
    → slice_get (squares_from below codes) i
    ≡ Some (node (digits_in below) (get_or (prefixes (digits_in below) codes) i 0))
unfolding squares_from digits_in
slice_get-squares_from [] i codes within = slice_get-level 0 i codes within
slice_get-squares_from (w ∷ ws) i codes within =
    let n : ℕ = w + digits_in ws in
    slice_get-append_left (level_squares n codes) (squares_from ws codes) i
    (omega (arith, length-map (prefixes n codes) (node n))) ∙ slice_get-level n i codes within

-- between some levels a square has this number
pub record IsFound (widths codes : List ℕ) (n q j : ℕ) : Type 0 where
  pub above : List ℕ
  pub below : List ℕ
  pub parted : above ++ below ≡ widths
  pub digits : digits_in below ≡ n
  pub square : IsSquare above below codes q j

module _ {codes : List ℕ} where
  -- a square stands in the list at its number
  pub list-from_IsSquare : {above below : List ℕ} {q j : ℕ} → IsSquare above below codes q j
      → slice_get (squares_from (above ++ below) codes) j ≡ Some (node (digits_in below) q)
  list-from_IsSquare {above} {below} {q} {j} square =
      let n : ℕ = digits_in below in
      let front : List Node = upper_list above n codes in
      let long = length-upper_list above n codes in
      let place : j ≡ length front + square.place = omega (arith, square.counted) in
      ap (λ xs. slice_get xs j) (squares_from-parted above below codes)
      ∙ ap (slice_get (front ++ squares_from below codes)) place
      ∙ slice_get-append_add front (squares_from below codes) square.place
      ∙ slice_get-squares_from below square.place codes square.within ∙ ap (λ p. Some (node n p)) square.stands

  -- what stands at a place of a level is a square of it
  at_level : (above below : List ℕ) (n q i j : ℕ) → i < length (prefixes (digits_in below) codes)
      → slice_get (squares_from below codes) i ≡ Some (node n q) → j ≡ squares_above above (digits_in below) codes + i
      → IsFound (above ++ below) codes n q j
  at_level above below n q i j within stands number =
      let here : Node = node (digits_in below) (get_or (prefixes (digits_in below) codes) i 0) in
      let same : here ≡ node n q =
      same_Some here (node n q) (sym (slice_get-squares_from below i codes within) ∙ stands) in
      record {
        above = above;
        below = below;
        parted = refl;
        digits = ap (λ s. s.level) same;
        square = record { place = i; within = within; stands = ap (λ s. s.prefix) same; counted = number };
      }

  -- what stands among the squares from a level on is a square
  from_level : (below above : List ℕ) (n q i j : ℕ) → slice_get (squares_from below codes) i ≡ Some (node n q)
      → j ≡ squares_above above (digits_in below) codes + i → IsFound (above ++ below) codes n q j
  unfolding squares_from digits_in
  from_level [] above n q i j stands number =
      let inside = slice_get_within (level_squares 0 codes) i (node n q) stands in
      at_level above [] n q i j (omega (arith, length-map (prefixes 0 codes) (node 0))) stands number
  from_level (w ∷ ws) above n q i j stands number = elim (cases_lt i (length (prefixes (w + digits_in ws) codes))) [
    | inl within ↦ at_level above (w ∷ ws) n q i j within stands number
    | inr past ↦
        let m : ℕ = w + digits_in ws in
        let level : List Node = level_squares m codes in
        let rest : ℕ = i - length level in
        let long : length level ≡ length (prefixes m codes) = length-map (prefixes m codes) (node m) in
        let place : length level + rest ≡ i = omega arith in
        let found = from_level ws (above ++ w ∷ []) n q rest j
        (sym (slice_get-append_add level (squares_from ws codes) rest)
        ∙ ap (slice_get (level ++ squares_from ws codes)) place ∙ stands)
        (omega (arith, number, squares_above-snoc above w (digits_in ws) codes)) in
        subst (λ l. IsFound l codes n q j) (append_assoc above (w ∷ []) ws) found
  ]

  -- what stands in the list is the square of its place
  pub found_in : {widths : List ℕ} {n q j : ℕ} → slice_get (squares_from widths codes) j ≡ Some (node n q)
      → IsFound widths codes n q j
  unfolding squares_above
  found_in {widths} {n} {q} {j} stands = from_level widths [] n q j j stands (omega arith)

  -- so a tree's square is told by the digits below it alone
  pub IsOn-from_list : {height wide n q j : ℕ} → 2 * wide ≤ height
      → slice_get (squares_from (widths_of height wide) codes) j ≡ Some (node n q) → IsOn height wide codes n q j
  IsOn-from_list {height} {wide} {n} {q} {j} fits stands =
      let found = found_in stands in
      let top = found.parted ∙ sym (widths_under-top height wide fits) in
      let below : found.below ≡ widths_under (height - 2 * wide) n =
      widths_under-behind (height - 2 * wide) height found.above found.below top
      ∙ ap (widths_under (height - 2 * wide)) found.digits in
      record {
        above = found.above;
        parted = ap (λ l. found.above ++ l) (sym below) ∙ found.parted;
        square = rw below at found.square;
      }

  pub list-from_IsOn : {height wide n q j : ℕ} → IsOn height wide codes n q j
      → slice_get (squares_from (widths_of height wide) codes) j ≡ Some (node n q)
  list-from_IsOn {height} {wide} {n} {q} {j} on =
      ap (λ l. slice_get (squares_from l codes) j) (sym on.parted) ∙ list-from_IsSquare on.square
      ∙ ap (λ m. Some (node m q)) (digits_in-widths_under (height - 2 * wide) n)
