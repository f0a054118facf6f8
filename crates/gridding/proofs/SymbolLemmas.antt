-- Anchors of rows in order: a row is its block's anchor where the row before it is of another block.
use Rattle.std.proofs.Common.{◌≡◌, ℕ, ℤ, suc, ◌+◌, ◌≤◌, ◌<◌, Bool, true, false, List, [], ◌∷◌, ◌++◌, Option, Some, None, append_assoc, drop, eq-eqb, get_or, length, refl, sym, ◌∙◌, ap, arith, inl, inr, ◌⊎◌}
use Rattle.std.specs.Prelude.{if◌then◌else◌, ◌==◌, ◌&&◌, ◌||◌, not, filter, sum_by, option_map, All, ◌*◌, ◌/◌, ◌<ℤ◌, ◌≤ℤ◌, ◌+ℤ◌, ◌-ℤ◌, nat_lt, pos, unsigned_abs}
use Rattle.std.specs.Int.Signed.{lt_z}
use Rattle.std.specs.List.{AllByRecursion, list_any, prefix_len}
use Rattle.std.specs.List.Sorted.{IsStrictlySortedBy}
use Rattle.std.specs.declared.cmp.Ordering.TheVariants.{Less}
use Rattle.std.proofs.Math.Bool.{and-false}
use Rattle.std.proofs.lemmas.Bool.Decides.{nat_tests}
use Rattle.std.proofs.lemmas.Bool.{and_parts}
use Rattle.std.proofs.lemmas.Int.{ints}
use Rattle.std.proofs.Math.Nat.{div-lt_iff_lt-mul}
use Rattle.std.proofs.lemmas.Nat.{le-div}
use Rattle.std.proofs.lemmas.List.Elements.{recursion_from_All}
use Rattle.std.proofs.lemmas.List.Folds.{list_any-append}
use Rattle.list_laws.proofs.FilterLemmas.{sum_by-filter_more}
use Rattle.list_laws.proofs.NumberLemmas.{div-le}
use Rattle.track_types.specs.Quantities.{anchors_of, elapsed, is_anchor, is_same_block, log_length, period_of}
use Rattle.track_types.specs.Row.{IsAscending, row_order}
use Rattle.track_types.specs.declared.row.Row.{Row}
use Rattle.track_types.proofs.RowLemmas.{row_order_total}
use Rattle.gridding.specs.BlockRange.{IsInSpan, block_of_row, is_of_block, period_end}
use Rattle.gridding.specs.declared.counts.BlockRange.{BlockRange}

-- whether a row is of the block before, if there was one
abbrev is_block_of : Option BlockRange → Row → Bool
is_block_of None row = false
is_block_of (Some before) row = is_of_block before row

pub order_cases : (a b : Row) → row_order a b ≡ Less → (a.object < b.object) ⊎ ((a.object ≡ b.object) × (a.instant <ℤ b.instant))
order_cases a b below = grind (arith, nat_tests)

or_false : (b : Bool) → (b || false) ≡ b
or_false true = refl
or_false false = refl

still_after : (first x y : ℤ) → first ≤ℤ x → x <ℤ y → first ≤ℤ y
still_after first x y behind later = omega (arith, ints)

squeezed : (a b row : ℕ) → a ≡ row → a ≤ b → b ≤ row → b ≡ row
squeezed a b row same up down = omega arith

elapsed_mono : (first x y : ℤ) → first ≤ℤ x → x <ℤ y → unsigned_abs (x -ℤ first) ≤ unsigned_abs (y -ℤ first)
elapsed_mono first x y behind later = grind (arith, ints)

by_end : (p q b end : ℕ) → p ≤ q → (b < end → q < p + 1) → (end ≤ b → p + 1 ≤ q) → (p == q) ≡ nat_lt b end
by_end p q b end up within behind = grind (arith, nat_tests)

-- a greater number has the same quotient where it is below the next multiple
quotient_by_end : (k a b : ℕ) → 0 < k → a ≤ b → (a / k == b / k) ≡ nat_lt b ((a / k + 1) * k)
quotient_by_end k a b some up = grind (arith, nat_tests, by_end, div-le, div-lt_iff_lt-mul, le-div)

-- instants that are counted from the first on
end_from_first : (first y : ℤ) (end : ℕ) → first ≤ℤ y →
    nat_lt (unsigned_abs (y -ℤ first)) end ≡ lt_z y (first +ℤ pos end)
end_from_first first y end behind = grind (arith, ints, nat_tests)

-- of three rows in order, where the outer two are of one object
ordered_alike : (a b row : Row) → a.object ≡ row.object →
    (a.object < b.object) ⊎ ((a.object ≡ b.object) × (a.instant <ℤ b.instant)) →
    (b.object < row.object) ⊎ ((b.object ≡ row.object) × (b.instant <ℤ row.instant)) →
    (b.object ≡ row.object) × (a.instant <ℤ b.instant) × (b.instant <ℤ row.instant)
ordered_alike a b row same (inl below) (inl above) = absurd (omega arith)
ordered_alike a b row same (inl below) (inr (alike, above)) = absurd (omega arith)
ordered_alike a b row same (inr (also, below)) (inl above) = absurd (omega arith)
ordered_alike a b row same (inr (also, below)) (inr (alike, above)) = (alike, below, above)

module _ (first : ℤ) (period : ℕ) where
  -- whether another row of a row's block is earlier, so that the row is not its anchor
  abbrev pub is_earlier : Row → Row → Bool
  is_earlier row other = is_same_block first period other row && lt_z other.instant row.instant

  -- a row that comes later in order is no earlier one
  not_earlier : (row other : Row) → row_order row other ≡ Less → is_earlier row other ≡ false
  not_earlier row other below = grind (arith, nat_tests, ints)

  not_earlier_itself : (row : Row) → is_earlier row row ≡ false
  not_earlier_itself row = let not_before : lt_z row.instant row.instant ≡ false = grind (arith, ints) in rw not_before (and-false _)

  -- of two rows in order, the first is earlier in the other's block where they are of one block
  earlier_block : (a row : Row) → row_order a row ≡ Less → is_earlier row a ≡ is_same_block first period a row
  earlier_block a row below = grind (arith, nat_tests, ints)

  -- of three rows in order, the second is of the block that the first and the third are of
  block_between : (a b row : Row) → 0 < period → first ≤ℤ a.instant → row_order a b ≡ Less → row_order b row ≡ Less →
      is_same_block first period a row ≡ true → is_same_block first period b row ≡ true
  block_between a b row some behind below above same =
      let parts = and_parts (a.object == row.object) (period_of first period a == period_of first period row) same in
      let objects : a.object ≡ row.object = grind (arith, nat_tests, parts.0) in
      let periods : period_of first period a ≡ period_of first period row = grind (arith, nat_tests, parts.1) in
      let one = ordered_alike a b row objects (order_cases a b below) (order_cases b row above) in
      let up : period_of first period a ≤ period_of first period b =
      div-le period (elapsed first a) (elapsed first b) some (elapsed_mono first a.instant b.instant behind one.1) in
      let after_b : first ≤ℤ b.instant = still_after first a.instant b.instant behind one.1 in
      let down : period_of first period b ≤ period_of first period row =
      div-le period (elapsed first b) (elapsed first row) some (elapsed_mono first b.instant row.instant after_b one.2) in
      let same_object : (b.object == row.object) ≡ true = eq-eqb b.object row.object one.0 in
      let same_period : (period_of first period b == period_of first period row) ≡ true =
      eq-eqb (period_of first period b) (period_of first period row) (squeezed _ _ _ periods up down) in
      rw (same_object, same_period) refl

  seen_at : (before row next : Row) → 0 < period → (row_order before row ≡ Less) × (first ≤ℤ before.instant) →
      row_order row next ≡ Less →
      row_order before next ≡ Less → (b : Bool) → is_earlier next before ≡ b →
      (is_earlier next before || is_earlier next row) ≡ is_earlier next row
  seen_at before row next some above below far true is = grind (arith, nat_tests, earlier_block, block_between)
  seen_at before row next some above below far false is = rw is refl

  -- whether the row before, if there was one, shows that a row is not an anchor
  abbrev pub seen : Option Row → Row → Bool
  seen None row = false
  seen (Some before) row = is_earlier row before

  -- the row before, if there was one, is below a row and after the first instant
  abbrev pub IsAbove : Option Row → Row → Type 0
  IsAbove None row = Unit {0}
  IsAbove (Some before) row = (row_order before row ≡ Less) × (first ≤ℤ before.instant)

  -- of all rows before, the last one shows what they show
  abbrev pub ShowsAll : List Row → Option Row → Type 0
  ShowsAll front before = (row : Row) → IsAbove before row → list_any (is_earlier row) front ≡ seen before row

  seen_more : (before : Option Row) (row next : Row) → 0 < period → IsAbove before row → row_order row next ≡ Less →
      (seen before next || is_earlier next row) ≡ is_earlier next row
  seen_more None row next some above below = refl
  seen_more (Some before) row next some above below = grind (arith, nat_tests, row_order_total, seen_at)

  above_next : (before : Option Row) (row next : Row) → IsAbove before row → row_order row next ≡ Less → IsAbove before next
  above_next None row next above below = tt
  above_next (Some before) row next above below = (row_order_total.trans before row next above.0 below, above.1)

  ShowsAll-push : (front : List Row) (before : Option Row) (row : Row) → 0 < period → IsAbove before row → ShowsAll front before →
      ShowsAll (front ++ row ∷ []) (Some row)
  ShowsAll-push front before row some above shows next below = grind (arith, nat_tests, list_any-append, above_next, or_false, seen_more)

  -- no later row shows that a row is not an anchor
  none_later : (row : Row) (rest : List Row) → AllByRecursion (λ y. row_order row y ≡ Less) rest →
      list_any (is_earlier row) rest ≡ false
  none_later row [] all = refl
  none_later row (y ∷ rest) all = rw (not_earlier row y all.0, none_later row rest all.1) refl

  -- a row is an anchor where the row before it does not show that it is none
  is_anchor-seen : (front rest : List Row) (before : Option Row) (row : Row) → ShowsAll front before → IsAbove before row →
      AllByRecursion (λ y. row_order row y ≡ Less) rest → is_anchor first period (front ++ row ∷ rest) row ≡ not (seen before row)
  is_anchor-seen front rest before row shows above all = grind (arith, nat_tests, list_any-append, not_earlier_itself, none_later, or_false)

  -- a row is in the period of an earlier one where it comes before its end
  same_by_end : (a row : Row) → 0 < period → (row_order a row ≡ Less) × (first ≤ℤ a.instant) →
      is_same_block first period a row ≡ is_block_of (Some (block_of_row first period a)) row
  same_by_end a row some above =
      elim (order_cases a row above.0) [
        | inl objects ↦ let differ : (a.object == row.object) ≡ false = grind (arith, nat_tests) in rw differ refl
        | inr same ↦ ap (λ b. (a.object == row.object) && b) (
            quotient_by_end period (elapsed first a) (elapsed first row) some
            (elapsed_mono first a.instant row.instant above.1 same.1)
            ∙ end_from_first first row.instant (period_end first period a)
            (still_after first a.instant row.instant above.1 same.1))
      ]

  -- rows of one block are so by the same object and the same end
  same_block : (a row : Row) → is_same_block first period a row ≡ true →
      block_of_row first period a ≡ block_of_row first period row
  same_block a row same = grind arith

  -- the row before shows this if and only if it is of the same block
  seen-block : (before : Option Row) (row : Row) → 0 < period → IsAbove before row →
      seen before row ≡ is_block_of (option_map (block_of_row first period) before) row
  seen-block None row some above = refl
  seen-block (Some before) row some above = earlier_block before row above.0 ∙ same_by_end before row some above

  -- how many terminals the blocks of rows have, where a block begins at each row that is not of the block before
  pub terminals : ℕ → Option BlockRange → List Row → ℕ
  terminals span before [] = 0
  terminals span before (row ∷ rest) =
      if is_block_of before row then terminals span before rest
      else (log_length first span period row + terminals span (Some (block_of_row first period row)) rest)

  terminals-cons : (span : ℕ) (before : Option BlockRange) (row : Row) (rest : List Row) →
      terminals span before (row ∷ rest)
      ≡ (if is_block_of before row then terminals span before rest
      else (log_length first span period row + terminals span (Some (block_of_row first period row)) rest))
  unfolding terminals
  terminals-cons span before row rest = refl

  -- where no row is left
  pub terminals-none : (span : ℕ) (before : Option BlockRange) (rows : List Row) → length rows < 1 →
      terminals span before rows ≡ 0
  unfolding terminals
  terminals-none span before [] none = refl
  terminals-none span before (row ∷ rest) none = absurd (omega arith)

  -- after a row, the block before is that of the row
  terminals-at : (span : ℕ) (a row : Row) (rest : List Row) (again : Bool) →
      is_block_of (Some (block_of_row first period a)) row ≡ again →
      (again ≡ true → is_same_block first period a row ≡ true) →
      terminals span (Some (block_of_row first period a)) (row ∷ rest)
      ≡ (if again then 0 else log_length first span period row) + terminals span (Some (block_of_row first period row)) rest
  terminals-at span a row rest true is same = grind (arith, nat_tests, same_block, terminals-cons)
  terminals-at span a row rest false is same =
      terminals-cons span (Some (block_of_row first period a)) row rest ∙ rw is refl

  terminals-step : (span : ℕ) (before : Option Row) (row : Row) (rest : List Row) → 0 < period → IsAbove before row →
      terminals span (option_map (block_of_row first period) before) (row ∷ rest)
      ≡ (if is_block_of (option_map (block_of_row first period) before) row then 0 else log_length first span period row)
      + terminals span (Some (block_of_row first period row)) rest
  terminals-step span None row rest some above = terminals-cons span None row rest
  terminals-step span (Some a) row rest some above = grind (arith, nat_tests, terminals-at, same_by_end)

  above_all : (row : Row) (rest : List Row) → first ≤ℤ row.instant → AllByRecursion (λ y. row_order row y ≡ Less) rest →
      AllByRecursion (IsAbove (Some row)) rest
  above_all row [] behind all = tt
  above_all row (y ∷ rest) behind all = ((all.0, behind), above_all row rest behind all.1)

  above_none : (rows : List Row) → AllByRecursion (IsAbove None) rows
  above_none [] = tt
  above_none (row ∷ rest) = (tt, above_none rest)

  -- these are the terminals of all anchors
  terminals-anchors : (span : ℕ) (front rest : List Row) (before : Option Row) → 0 < period → ShowsAll front before →
      AllByRecursion (IsAbove before) rest → IsAscending rest → AllByRecursion (λ row. first ≤ℤ row.instant) rest →
      terminals span (option_map (block_of_row first period) before) rest ≡ sum_by (log_length first span period) (filter (is_anchor first period (front ++ rest)) rest)
  unfolding terminals IsStrictlySortedBy
  terminals-anchors span front [] before some shows above up behind = refl
  terminals-anchors span front (row ∷ rest) before some shows above up behind =
      let all = front ++ row ∷ rest in
      let length_of = log_length first span period in
      let again = is_block_of (option_map (block_of_row first period) before) row in
      let anchor : is_anchor first period all row ≡ not again =
      is_anchor-seen front rest before row shows above.0 up.0 ∙ ap not (seen-block before row some above.0) in
      let more : sum_by length_of (filter (is_anchor first period all) (row ∷ rest))
      ≡ (if again then 0 else length_of row) + sum_by length_of (filter (is_anchor first period all) rest) =
      sum_by-filter_more length_of (is_anchor first period all) row rest again anchor in
      let others : terminals span (Some (block_of_row first period row)) rest
      ≡ sum_by length_of (filter (is_anchor first period ((front ++ row ∷ []) ++ rest)) rest) =
      terminals-anchors span (front ++ row ∷ []) rest (Some row) some (ShowsAll-push front before row some above.0 shows)
      (above_all row rest behind.0 up.0) up.1 behind.1 in
      let joined : (front ++ row ∷ []) ++ rest ≡ all = append_assoc front (row ∷ []) rest in
      terminals-step span before row rest some above.0
      ∙ ap (λ n. (if again then 0 else length_of row) + n) (others ∙ ap (λ rows. sum_by length_of (filter (is_anchor first period rows) rest)) joined)
      ∙ sym more

  -- of rows in order, those at which a block begins are the anchors
  pub terminals-ascending : (span : ℕ) (rows : List Row) → 0 < period → IsAscending rows → All (IsInSpan first span) rows →
      terminals span None rows ≡ sum_by (log_length first span period) (anchors_of first period rows)
  unfolding anchors_of
  terminals-ascending span rows some up inside =
      terminals-anchors span [] rows None some (λ row above. refl) (above_none rows) up
      (recursion_from_All (λ row. first ≤ℤ row.instant) rows (λ k d below. (inside k d below).after_first))

  -- a row is of its own block
  own_block : (row : Row) → 0 < period → first ≤ℤ row.instant →
      is_of_block (block_of_row first period row) row ≡ true
  own_block row some behind = grind (arith, nat_tests)

  -- a block's row is passed over, and any other row begins another block
  terminals-after_one : (span : ℕ) (block : BlockRange) (row : Row) (rest : List Row) (again : Bool) →
      is_of_block block row ≡ again →
      terminals span (Some block) rest ≡ terminals span None (drop (prefix_len (is_of_block block) rest) rest) →
      terminals span (Some block) (row ∷ rest)
      ≡ terminals span None (drop (prefix_len (is_of_block block) (row ∷ rest)) (row ∷ rest))
  unfolding terminals
  terminals-after_one span block row rest true is others =
      let next : 1 + prefix_len (is_of_block block) rest ≡ suc (prefix_len (is_of_block block) rest) = omega arith in
      rw (is, next) others
  terminals-after_one span block row rest false is others = rw is refl

  -- where a block's rows end, another block begins
  terminals-after : (span : ℕ) (block : BlockRange) (rows : List Row) →
      terminals span (Some block) rows ≡ terminals span None (drop (prefix_len (is_of_block block) rows) rows)
  unfolding terminals
  terminals-after span block [] = refl
  terminals-after span block (row ∷ rest) =
      terminals-after_one span block row rest (is_of_block block row) refl (terminals-after span block rest)

  -- one block more, at a step of a loop
  pub terminals-block : (span : ℕ) (rows : List Row) (d : Row) → 0 < length rows → 0 < period →
      first ≤ℤ (get_or rows 0 d).instant →
      (terminals span None rows ≡ log_length first span period (get_or rows 0 d)
      + terminals span None (drop (prefix_len (is_of_block (block_of_row first period (get_or rows 0 d))) rows) rows))
      × (0 < prefix_len (is_of_block (block_of_row first period (get_or rows 0 d))) rows)
  unfolding terminals
  terminals-block span [] d some long behind = absurd (omega arith)
  terminals-block span (row ∷ rest) d some long behind =
      let length_of = prefix_len (is_of_block (block_of_row first period row)) in
      let next : 1 + length_of rest ≡ suc (length_of rest) = omega arith in
      rw (own_block row long behind, next) (
        ap (λ n. log_length first span period row + n) (terminals-after span (block_of_row first period row) rest),
        omega arith,
      )
