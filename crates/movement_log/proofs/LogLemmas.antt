-- The values of a log, from one row to the next.
use Rattle.std.proofs.Common.{◌≡◌, ℕ, zero, suc, ◌+◌, ◌-◌, ◌<◌, ◌≤◌, true, false, List, [], ◌∷◌, ◌++◌, length, map, take, replicate, get_or, append_assoc, arith, refl, sym, ◌∙◌, ap}
use Rattle.std.specs.Prelude.{ℤ, pos, ◌+ℤ◌, ◌-ℤ◌, ◌≤ℤ◌, unsigned_abs, fold}
use Rattle.std.specs.Int.{int_max, int_min}
use Rattle.std.specs.List.{range_with_len}
use Rattle.std.proofs.lemmas.Bool.Decides.{nat_tests}
use Rattle.std.proofs.lemmas.Int.{fold-int_max_bounds, fold-int_min_bounds, ints}
use Rattle.std.proofs.Math.ListN.{get_or-map}
use Rattle.std.proofs.Math.Seq.{take-append-add}
use Rattle.std.proofs.lemmas.List.{length-append, length-map, map-append, take_all}
use Rattle.std.proofs.lemmas.List.FromFn.{length-map-range_with_len, map-range_with_len_more}
use Rattle.list_laws.proofs.RangeLemmas.{range-parts}
use Rattle.spiral_code.specs.Spiral.{ring_of}
use Rattle.track_types.specs.Limits.{limit_of}
use Rattle.track_types.specs.Quantities.{extent_of, greatest, least, width_of}
use Rattle.track_types.specs.Row.{IsAscending}
use Rattle.track_types.specs.declared.limit.LimitKind.TheVariants.{Extent}
use Rattle.track_types.specs.declared.limit.TheConstants.{MAX_EXTENT}
use Rattle.track_types.specs.declared.row.Row.{Row}
use Rattle.movement_log.specs.Blocks.{is_in_log, no_row, row_at}
use Rattle.movement_log.specs.Values.{move_value, value_at}
use Rattle.movement_log.proofs.RowLemmas.{instant_rises, value_at-absent, value_at-present}

module _ (value : ℕ → ℕ) where
  zeros : (a n : ℕ) → ((k : ℕ) → a ≤ k → k < a + n → value k ≡ 0) → map value (range_with_len a n) ≡ replicate n 0
  zeros a zero each = refl
  zeros a (suc n) each =
      rw (each a (omega arith) (omega arith))
      (ap (λ ns. 0 ∷ ns) (zeros (a + 1) n (λ k low high. each k (omega arith) (omega arith))))

  -- a log with one zero for each further instant without a row
  log_zeros : (log : List ℕ) (n gap : ℕ) → log ≡ map value (range_with_len 1 n) →
      ((k : ℕ) → n < k → k ≤ n + gap → value k ≡ 0) → log ++ replicate gap 0 ≡ map value (range_with_len 1 (n + gap))
  log_zeros log n gap is none =
      rw (
        range-parts 1 n gap,
        map-append value (range_with_len 1 n) (range_with_len (1 + n) gap),
        zeros (1 + n) gap (λ k low high. none k (omega arith) (omega arith)),
      )
      (ap (λ front. front ++ replicate gap 0) is)

-- what is cut or filled up to so many after other values
pub resized : (before log : List ℕ) (n : ℕ) → take (length before + n) (before ++ log)
    ++ replicate (length before + n - length (before ++ log)) 0 ≡ before ++ (take n log ++ replicate (n - length log) 0)
resized before log n =
    let gap : length before + n - length (before ++ log) ≡ n - length log = omega (arith, length-append before log) in
    rw (take-append-add before log n, gap) (append_assoc before (take n log) (replicate (n - length log) 0))

-- the value of an anchor's object so many instants after the anchor
abbrev pub value_after : List Row → Row → ℕ → ℕ
value_after rows anchor n = value_at rows anchor.object (anchor.instant +ℤ pos n)

-- a log as far as the row `last`
pub record IsLog (rows : List Row) (anchor : Row) (len last : ℕ) (log : List ℕ) : Type 0 where
  pub within : last < length rows
  pub same : (row_at rows last).object ≡ anchor.object
  pub at : (row_at rows last).instant ≡ anchor.instant +ℤ pos (length log)
  pub short : length log ≤ len
  pub values : log ≡ map (value_after rows anchor) (range_with_len 1 (length log))

in_log_parts : (len : ℕ) (anchor row : Row) → is_in_log len anchor row ≡ true →
    (row.object ≡ anchor.object) × (unsigned_abs (row.instant -ℤ anchor.instant) ≤ len)
in_log_parts len anchor row is = (grind (arith, nat_tests), grind (arith, nat_tests))

not_in_log : (len : ℕ) (anchor row : Row) → is_in_log len anchor row ≡ false → row.object ≡ anchor.object →
    len < unsigned_abs (row.instant -ℤ anchor.instant)
not_in_log len anchor row is same = grind (arith, nat_tests)

module _ (rows : List Row) (up : IsAscending rows) (anchor : Row) (len last : ℕ) (log : List ℕ)
    (so_far : IsLog rows anchor len last log) where
  abbrev offset : ℕ
  offset = unsigned_abs ((row_at rows (last + 1)).instant -ℤ anchor.instant)

  -- a later row of the same object is further from the anchor than the log is long
  further : last + 1 < length rows → (row_at rows (last + 1)).object ≡ anchor.object →
      (length log < offset) × ((row_at rows (last + 1)).instant ≡ anchor.instant +ℤ pos offset)
  further within alike =
      let same = so_far.same in
      let at = so_far.at in
      let less = instant_rises rows up last (last + 1) (omega arith) within (same ∙ sym alike) in
      (omega (arith, ints), omega (arith, ints))

  absent : (k : ℕ) → length log < k → (last + 1 < length rows → (row_at rows (last + 1)).object ≡ anchor.object → k < offset) →
      value_after rows anchor k ≡ 0
  absent k low high =
      let at = so_far.at in
      value_at-absent rows up anchor.object (anchor.instant +ℤ pos k) last so_far.within so_far.same (omega (arith, ints))
      (λ within alike. let there = further within alike in let less = high within alike in omega (arith, ints, there.1))

  pub offset-some : last + 1 < length rows → is_in_log len anchor (row_at rows (last + 1)) ≡ true → 0 < offset
  offset-some within is =
      let there = further within (in_log_parts len anchor (row_at rows (last + 1)) is).0 in
      omega (arith, there.0)

  -- the next row: an absence for each instant between, and its movement
  pub log_next : last + 1 < length rows → is_in_log len anchor (row_at rows (last + 1)) ≡ true →
      (log' : List ℕ) → log' ≡ take (offset - 1) log ++ replicate (offset - 1 - length log) 0 →
      IsLog rows anchor len (last + 1) (log' ++ move_value (row_at rows last).cell (row_at rows (last + 1)).cell ∷ [])
  log_next within is log' filled =
      let parts = in_log_parts len anchor (row_at rows (last + 1)) is in
      let alike : (row_at rows (last + 1)).object ≡ anchor.object = parts.0 in
      let near : offset ≤ len = parts.1 in
      let there = further within alike in
      let past : length log < offset = there.0 in
      let gap : ℕ = offset - 1 - length log in
      let to : length log + gap ≡ offset - 1 = omega arith in
      let whole : take (offset - 1) log ≡ log = take_all (offset - 1) log (omega arith) in
      let front : log' ≡ map (value_after rows anchor) (range_with_len 1 (offset - 1)) =
      filled ∙ ap (λ xs. xs ++ replicate gap 0) whole
      ∙ log_zeros (value_after rows anchor) log (length log) gap so_far.values
      (λ k low high. absent k low (λ _ _. omega arith))
      ∙ ap (λ n. map (value_after rows anchor) (range_with_len 1 n)) to in
      let value : value_after rows anchor offset ≡ move_value (row_at rows last).cell (row_at rows (last + 1)).cell =
      rw (sym there.1, sym alike) (value_at-present rows up last within (so_far.same ∙ sym alike)) in
      let one : offset - 1 + 1 ≡ offset = omega arith in
      let all : log' ++ move_value (row_at rows last).cell (row_at rows (last + 1)).cell ∷ []
      ≡ map (value_after rows anchor) (range_with_len 1 offset) =
      ap (λ xs. xs ++ move_value (row_at rows last).cell (row_at rows (last + 1)).cell ∷ []) front
      ∙ ap (λ v. map (value_after rows anchor) (range_with_len 1 (offset - 1)) ++ v ∷ []) (sym value)
      ∙ sym (map-range_with_len_more (value_after rows anchor) 1 (offset - 1) offset (omega arith))
      ∙ ap (λ n. map (value_after rows anchor) (range_with_len 1 n)) one in
      let long : length (log' ++ move_value (row_at rows last).cell (row_at rows (last + 1)).cell ∷ []) ≡ offset =
      ap length all ∙ length-map-range_with_len (value_after rows anchor) 1 offset in
      record {
        within = within;
        same = alike;
        at = rw long there.1;
        short = rw long near;
        values = rw long all;
      }

  -- after the last row of the log: an absence for each instant that is left
  pub log_last : (last + 1 < length rows → is_in_log len anchor (row_at rows (last + 1)) ≡ false) →
      take len log ++ replicate (len - length log) 0 ≡ map (value_after rows anchor) (range_with_len 1 len)
  log_last past =
      let short = so_far.short in
      let to : length log + (len - length log) ≡ len = omega arith in
      ap (λ xs. xs ++ replicate (len - length log) 0) (take_all len log short)
      ∙ log_zeros (value_after rows anchor) log (length log) (len - length log) so_far.values
      (λ k low high. absent k low
      (λ within alike. let far = not_in_log len anchor (row_at rows (last + 1)) (past within) alike in omega arith))
      ∙ ap (λ n. map (value_after rows anchor) (range_with_len 1 n)) to

-- a number that is made of each row is between the least and the greatest of these
pub bounded : (f : Row → ℤ) (rows : List Row) (k : ℕ) → k < length rows →
    (least (map f rows) ≤ℤ f (row_at rows k)) × (f (row_at rows k) ≤ℤ greatest (map f rows))
bounded f [] k within = absurd (omega arith)
bounded f (row ∷ rest) zero within = (
  (fold-int_min_bounds (f row) (map f rest) (fold int_min (f row) (map f rest)) refl).0,
  (fold-int_max_bounds (f row) (map f rest) (fold int_max (f row) (map f rest)) refl).0,
)
bounded f (row ∷ rest) (suc k) within =
    let low = (fold-int_min_bounds (f row) (map f rest) (fold int_min (f row) (map f rest)) refl).1 in
    let high = (fold-int_max_bounds (f row) (map f rest) (fold int_max (f row) (map f rest)) refl).1 in
    let below : k < length rest = omega arith in
    let there : k < length (map f rest) = rw length-map below in
    let at : get_or (map f rest) k (f no_row) ≡ f (row_at rest k) = get_or-map f rest k no_row in
    (rw at at (low k (f no_row) there), rw at at (high k (f no_row) there))

-- two of them are less apart than these are wide
module _ (f : Row → ℤ) (rows : List Row) where
  pub apart-width : (j k : ℕ) → j < length rows → k < length rows →
      unsigned_abs (f (row_at rows k) -ℤ f (row_at rows j)) < width_of (map f rows)
  apart-width j k low high =
      let one = bounded f rows j low in
      let two = bounded f rows k high in
      grind (arith, ints)

-- so a movement between two rows of a chart has a code
pub ring_of-extent : (rows : List Row) (j k : ℕ) → j < length rows → k < length rows → extent_of rows ≤ limit_of Extent →
    ring_of ((row_at rows k).cell.x -ℤ (row_at rows j).cell.x) ((row_at rows k).cell.y -ℤ (row_at rows j).cell.y) < MAX_EXTENT
ring_of-extent rows j k low high extent =
    let columns = apart-width (λ row. row.cell.x) rows j k low high in
    let lines = apart-width (λ row. row.cell.y) rows j k low high in
    omega arith
