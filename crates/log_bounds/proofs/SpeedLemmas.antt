-- The greatest speed of a log's symbols: of the first ones, of one symbol more, and from a cell that is moved.
use Rattle.std.proofs.Common.{◌≡◌, ℕ, ◌+◌, ◌*◌, ◌<◌, ℤ, ◌+ℤ◌, ◌-ℤ◌, arith, List, [], ◌∷◌, ◌++◌, length, map, max, take, Option, Some, None, ap, refl, sym, ◌∙◌}
use Rattle.std.specs.Prelude.{fold, slice_index, unsigned_abs}
use Rattle.std.specs.Int.{div_ceil}
use Rattle.std.specs.List.{range_with_len}
use Rattle.std.proofs.Math.Nat.{lt_of_lt_of_le, lt_of_mul-lt-mul_right}
use Rattle.std.proofs.lemmas.Grind.{div_ceil_times}
use Rattle.std.proofs.lemmas.Int.{ints}
use Rattle.std.proofs.lemmas.List.{get_or_at, length-append, take_at}
use Rattle.list_laws.proofs.GreatestLemmas.{fold_max-more}
use Rattle.list_laws.proofs.MapLemmas.{map-range_agree}
use Rattle.list_laws.proofs.RangeLemmas.{range-more}
use Rattle.track_types.specs.declared.cell.Cell.{Cell}
use Rattle.track_types.specs.declared.cell_box.CellBox.{CellBox}
use Rattle.rule_store.specs.View.{RulesView}
use Rattle.rule_store.specs.Cells.{moved}
use Rattle.rule_store.specs.Entry.{entry_of}
use Rattle.rule_store.specs.declared.entry.Entry.{Entry}
use Rattle.log_bounds.specs.Bounds.{cell_after, cell_before, duration_of_log, far_of, gap, hull_speed, log_speed, symbol_speed}
use Rattle.log_bounds.proofs.LogLemmas.{cell_after-moved, said-front}

-- a way that is longer than a speed makes it in so many instants raises the speed
pub is_raised : (speed far n : ℕ) → 0 < n → speed * n < far → max speed (div_ceil far n) ≡ div_ceil far n
is_raised speed far n some long =
    let above : speed * n < div_ceil far n * n = lt_of_lt_of_le long (div_ceil_times far n some).0 in
    let least : speed < div_ceil far n = lt_of_mul-lt-mul_right n above in
    omega (arith, least)

module _ (rules : RulesView) (start : Cell) (log : List ℕ) where
  -- the greatest speed of a log's first symbols
  abbrev pub speed_before : ℕ → ℕ
  speed_before count = fold max 0 (map (symbol_speed rules start log) (range_with_len 0 count))

  -- the speed of one symbol, where the walk stands after those before it
  pub speed-here : (place : ℕ) (cell : Cell) (before : ℕ) (entry : Entry) (more : ℕ)
      → more ≡ hull_speed start cell before entry.hull → cell ≡ cell_before rules start log place
      → before ≡ duration_of_log rules (take place log) → entry ≡ entry_of rules (slice_index log place)
      → more ≡ symbol_speed rules start log place
  speed-here place cell before entry more found stands lasted its =
      found ∙ ap (λ c. hull_speed start c before entry.hull) stands
      ∙ ap (λ n. hull_speed start (cell_before rules start log place) n entry.hull) lasted
      ∙ ap (λ (e : Entry). hull_speed start (cell_before rules start log place) (duration_of_log rules (take place log)) e.hull)
      its

  -- one symbol more
  pub speed_before-more : (place speed more now : ℕ) → now ≡ max speed more → speed ≡ speed_before place
      → more ≡ symbol_speed rules start log place → now ≡ speed_before (place + 1)
  speed_before-more place speed more now greater so_far here =
      greater ∙ ap (λ n. max n more) so_far ∙ ap (max (speed_before place)) here
      ∙ sym (fold_max-more (symbol_speed rules start log) (range_with_len 0 place) place 0)
      ∙ ap (λ ks. fold max 0 (map (symbol_speed rules start log) ks)) (sym (range-more place))

  -- or a given speed, if it is greater
  pub speed_since-more : (fastest place speed more now : ℕ) → now ≡ max speed more → speed ≡ max fastest (speed_before place)
      → more ≡ symbol_speed rules start log place → now ≡ max fastest (speed_before (place + 1))
  speed_since-more fastest place speed more now greater so_far here =
      let next = speed_before-more place (speed_before place) more (max (speed_before place) more) refl refl here in
      omega (arith, greater, so_far, next)

  -- all symbols
  pub speed_before-all : (place : ℕ) → place ≡ length log → speed_before place ≡ log_speed rules start log
  unfolding log_speed
  speed_before-all place last = ap speed_before last

-- the first symbols of a longer log
pub speed_before-front : (rules : RulesView) (start : Cell) (log more : List ℕ)
    → speed_before rules start (log ++ more) (length log) ≡ log_speed rules start log
unfolding log_speed
speed_before-front rules start log more =
    ap (fold max 0)
    (map-range_agree (symbol_speed rules start (log ++ more)) (symbol_speed rules start log) 0 (length log)
    (λ place low below.
    said-front (λ front symbol. hull_speed start (cell_after rules start front) (duration_of_log rules front) (entry_of rules symbol).hull)
    log more place (omega arith)))

-- a log with one symbol more
pub log_speed-more : (rules : RulesView) (start : Cell) (log : List ℕ) (symbol speed now : ℕ) (cell : Cell) (before : ℕ)
    (entry : Entry) → now ≡ max speed (hull_speed start cell before entry.hull) → speed ≡ log_speed rules start log
    → cell ≡ cell_after rules start log → before ≡ duration_of_log rules log → entry ≡ entry_of rules symbol
    → now ≡ log_speed rules start (log ++ symbol ∷ [])
log_speed-more rules start log symbol speed now cell before entry greater so_far stands lasted its =
    let longer : List ℕ = log ++ symbol ∷ [] in
    let front : take (length log) longer ≡ log = take_at log (symbol ∷ []) (length log) refl in
    let last : slice_index longer (length log) ≡ symbol = get_or_at log symbol [] 0 (length log) refl in
    let speed_here : ℕ = hull_speed start cell before entry.hull in
    speed_before-more rules start longer (length log) speed speed_here now greater
    (so_far ∙ sym (speed_before-front rules start log (symbol ∷ [])))
    (speed-here rules start longer (length log) cell before entry speed_here refl
    (stands ∙ ap (cell_after rules start) (sym front)) (lasted ∙ ap (duration_of_log rules) (sym front))
    (its ∙ ap (entry_of rules) (sym last)))
    ∙ speed_before-all rules start longer (length log + 1) (omega (arith, length-append log (symbol ∷ [])))

-- numbers that are moved alike are as far apart
gap-moved : (to edge from by : ℤ) → gap ((to +ℤ by) +ℤ edge) (from +ℤ by) ≡ gap (to +ℤ edge) from
gap-moved to edge from by =
    let same : ((to +ℤ by) +ℤ edge) -ℤ (from +ℤ by) ≡ (to +ℤ edge) -ℤ from = omega (arith, ints) in
    ap unsigned_abs same

-- so are a cell and a placed box
far_of-moved : (from cell : Cell) (by : ℤ × ℤ) (hull : CellBox)
    → far_of (moved from by) (moved cell by) hull ≡ far_of from cell hull
far_of-moved from cell by hull =
    let left = gap-moved cell.x hull.x1 from.x by.0 in
    let right = gap-moved cell.x hull.x2 from.x by.0 in
    let below = gap-moved cell.y hull.y1 from.y by.1 in
    let above = gap-moved cell.y hull.y2 from.y by.1 in
    omega (arith, left, right, below, above)

hull_speed-moved : (from cell : Cell) (by : ℤ × ℤ) (before : ℕ) (hull : Option CellBox)
    → hull_speed (moved from by) (moved cell by) before hull ≡ hull_speed from cell before hull
hull_speed-moved from cell by before None = refl
hull_speed-moved from cell by before (Some hull) = ap (λ far. div_ceil far (before + 1)) (far_of-moved from cell by hull)

-- from a cell that is moved, the log has the same speed
pub log_speed-moved : (rules : RulesView) (by : ℤ × ℤ) (start : Cell) (log : List ℕ)
    → log_speed rules (moved start by) log ≡ log_speed rules start log
unfolding log_speed
log_speed-moved rules by start log =
    ap (fold max 0) (map-range_agree (symbol_speed rules (moved start by) log) (symbol_speed rules start log) 0 (length log)
    (λ place low below.
    let lasted : ℕ = duration_of_log rules (take place log) in
    let hull : Option CellBox = (entry_of rules (slice_index log place)).hull in
    ap (λ c. hull_speed (moved start by) c lasted hull) (cell_after-moved rules by start (take place log))
    ∙ hull_speed-moved start (cell_before rules start log place) by lasted hull))
