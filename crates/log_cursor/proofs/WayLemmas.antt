-- Ways: values that are walked without leaving the numbers, in two parts, of a rule, and of a block that is placed.
use Rattle.std.proofs.Common.{◌≡◌, ℕ, zero, suc, ◌+◌, ◌-◌, ◌*◌, drop, ◌<◌, ◌≤◌, ℤ, ◌≤ℤ◌, List, [], ◌∷◌, ◌++◌, length, Some, None, map, refl, ap, sym, subst, ◌∙◌, arith, All, inl, inr}
use Rattle.std.specs.Prelude.{Option, get_or}
use Rattle.std.specs.List.{range_with_len}
use Rattle.std.proofs.lemmas.Int.{fold-int_max_bounds, fold-int_min_bounds, ints}
use Rattle.list_laws.proofs.MapLemmas.{All-from_map}
use Rattle.std.proofs.lemmas.Bool.{cases_lt}
use Rattle.std.proofs.lemmas.Grind.{flat_map-append}
use Rattle.std.proofs.lemmas.List.{append-nil, get_or_past, length-append, length-drop, length-take}
use Rattle.std.proofs.lemmas.List.FromFn.{length-map-range_with_len}
use Rattle.std.proofs.lemmas.List.Elements.{All-append, All-cons, All-head, All-map, All-nil, All-tail}
use Rattle.std.specs.Option.{option_to_list}
use Rattle.list_laws.proofs.FrontLemmas.{All-back}
use Rattle.spiral_code.specs.Spiral.{move_of}
use Rattle.list_laws.specs.Grown.{table_of_rules}
use Rattle.list_laws.proofs.FrontLemmas.{All-front}
use Rattle.list_laws.proofs.GrownLemmas.{length-table_of_rules}
use Rattle.track_types.specs.Near.{IsCellAsked}
use Rattle.track_types.specs.declared.cell.Cell.{Cell}
use Rattle.track_types.specs.declared.cell_box.CellBox.{CellBox}
use Rattle.track_types.specs.declared.limit.TheConstants.{MAX_PERIOD, MAX_SYMBOLS}
use Rattle.track_types.proofs.RegionLemmas.{IsBounded}
use Rattle.rule_store.specs.View.{RulesView, symbols_in}
use Rattle.rule_store.specs.Expansion.{expansion_of, values_of}
use Rattle.rule_store.specs.Cells.{cell_with, cells_along, displacement_of, moved, present_in}
use Rattle.rule_store.specs.Boxes.{bounding_box_of, box_round, column, line, origin}
use Rattle.rule_store.specs.Entry.{duration_of, entry_of}
use Rattle.rule_store.specs.Flaws.{AreRules, left_of, right_of}
use Rattle.rule_store.specs.Log.{log_of, log_values}
use Rattle.rule_store.specs.declared.entry.Entry.{Entry}
use Rattle.rule_store.specs.declared.log_view.LogView.{LogView}
use Rattle.rule_store.proofs.BoxLemmas.{box_round-bounds}
use Rattle.rule_store.proofs.CellLemmas.{cells_along-append, moved-moved, moved-none, present-moved, same_cell}
use Rattle.rule_store.proofs.ExpansionLemmas.{length-values_of}
use Rattle.rule_store.proofs.FlawLemmas.{near_entry, no_flaws, rule-sound}
use Rattle.log_cursor.specs.Start.{AreHullsAsked, IsHullAsked, IsPlaced, IsStart, IsWay, IsWayOf, start_after, start_at, start_past}
use Rattle.log_cursor.specs.declared.start.Start.{Start}
use Rattle.log_cursor.proofs.RuleLemmas.{log_values-parts}
use Rattle.log_cursor.proofs.StopLemmas.{duration_of-terminal}

-- places of the same instant, column and line are the same
pub same_start : (i j x u y v : ℤ) → i ≡ j → x ≡ u → y ≡ v → start_at i (cell_with x y) ≡ start_at j (cell_with u v)
same_start i j x u y v instants columns lines =
    ap (λ z. start_at z (cell_with x y)) instants ∙ ap (start_at j) (same_cell x y u v columns lines)

-- values lead from a near cell along near cells to a near one
end-near : (cell : Cell) (values : List ℕ) → IsCellAsked cell →
    All IsCellAsked (present_in (cells_along cell values)) → IsCellAsked (moved cell (displacement_of values))
unfolding cells_along displacement_of
end-near cell [] near cells = subst IsCellAsked (sym (moved-none cell)) near
end-near cell (zero ∷ values) near cells =
    subst IsCellAsked (same_cell _ _ _ _ (omega (arith, ints)) (omega (arith, ints)))
    (end-near cell values near cells)
end-near cell (suc code ∷ values) near cells =
    let next = moved cell (move_of code) in
    let later = present_in (cells_along next values) in
    subst IsCellAsked (moved-moved cell (move_of code) (displacement_of values))
    (end-near next values (All-head IsCellAsked next later cells) (All-tail IsCellAsked next later cells))

module _ (start : Start) (xs ys : List ℕ) (way : IsWay start (xs ++ ys)) where
  long : length (xs ++ ys) ≡ length xs + length ys
  long = length-append xs ys

  cells_are : All IsCellAsked (present_in (cells_along start.cell xs)
      ++ present_in (cells_along (moved start.cell (displacement_of xs)) ys))
  cells_are =
      rw (
        ← flat_map-append option_to_list (cells_along start.cell xs)
            (cells_along (moved start.cell (displacement_of xs)) ys),
        ← cells_along-append start.cell xs ys,
      ) way.cells

  -- the way over the first values
  pub IsWay-front : IsWay start xs
  IsWay-front = record {
    start_is = way.start_is;
    last = omega (arith, ints, long, way.last);
    cells = All-front IsCellAsked (present_in (cells_along start.cell xs)) _ cells_are;
  }

  -- and that over the others, from where they lead
  pub IsWay-back : IsWay (start_past start xs) ys
  IsWay-back = record {
    start_is = record {
      instant = record {
        low = omega (arith, ints, way.start_is.instant.low);
        high = omega (arith, ints, long, way.last);
      };
      cell = end-near start.cell xs way.start_is.cell IsWay-front.cells;
    };
    last = omega (arith, ints, long, way.last);
    cells = All-back IsCellAsked (present_in (cells_along start.cell xs)) _ cells_are;
  }

-- a rule's way is that of its two parts, and of the symbols after it
pub IsWayOf-parts : (rules : RulesView) (symbol : ℕ) (log : List ℕ) → length rules.alphabet ≤ symbol →
    symbol < symbols_in rules → left_of rules symbol < symbol → right_of rules symbol < symbol → (start : Start) →
    IsWayOf rules start (symbol ∷ log) → IsWayOf rules start (left_of rules symbol ∷ right_of rules symbol ∷ log)
IsWayOf-parts rules symbol log rule known left_below right_below start way =
    subst (IsWay start) (log_values-parts rules symbol rule known left_below right_below log) way

-- the way of the first symbol, and that of the symbols after it
module _ (rules : RulesView) (symbol : ℕ) (log : List ℕ) (start : Start) (way : IsWayOf rules start (symbol ∷ log)) where
  pub IsWayOf-first : IsWayOf rules start (symbol ∷ [])
  unfolding log_values
  IsWayOf-first =
      subst (IsWay start) (sym (append-nil (values_of rules symbol)))
      (IsWay-front start (values_of rules symbol) (log_values rules log) way)

  pub IsWayOf-rest : IsWayOf rules (start_past start (values_of rules symbol)) log
  unfolding log_values
  IsWayOf-rest = IsWay-back start (values_of rules symbol) (log_values rules log) way

-- a way over nothing
pub IsWayOf-none : (rules : RulesView) (start : Start) → IsStart start → IsWayOf rules start []
unfolding log_values cells_along
IsWayOf-none rules start is =
    record { start_is = is; last = omega (arith, ints, is.instant.high); cells = All-nil IsCellAsked }

-- where an entry leads
pub start_after-is : (rules : RulesView) (start : Start) (entry : Entry) (symbol : ℕ) → entry ≡ entry_of rules symbol →
    start_after start entry ≡ start_past start (values_of rules symbol)
unfolding entry_of
start_after-is rules start entry symbol is = ap (start_after start) is

-- the way of the symbols after an entry's, from where it leads
pub next-way : (rules : RulesView) (start : Start) (entry : Entry) (log : List ℕ) → entry ≡ entry_of rules entry.symbol →
    IsWayOf rules start (entry.symbol ∷ log) → IsWayOf rules (start_after start entry) log
next-way rules start entry log is way =
    subst (λ next. IsWayOf rules next log) (sym (start_after-is rules start entry entry.symbol is))
    (IsWayOf-rest rules entry.symbol log start way)

pub hull_is : (rules : RulesView) (entry : Entry) (symbol : ℕ) → entry ≡ entry_of rules symbol →
    entry.hull ≡ bounding_box_of (values_of rules symbol)
unfolding entry_of
hull_is rules entry symbol is = ap (λ (e : Entry). e.hull) is

-- a symbol that is not there lasts no instant
duration_of-past : (rules : RulesView) (symbol : ℕ) → symbols_in rules ≤ symbol → duration_of rules symbol ≡ 0
unfolding duration_of expansion_of
duration_of-past rules symbol above =
    let known = map (λ (terminal : ℕ). terminal ∷ []) (range_with_len 0 (length rules.alphabet)) in
    let made = length-table_of_rules ◌++◌ [] known rules.rules in
    let first = length-map-range_with_len (λ (terminal : ℕ). terminal ∷ []) 0 (length rules.alphabet) in
    let past : length (table_of_rules ◌++◌ [] known rules.rules) ≤ symbol = omega (arith, made, first) in
    ap length (get_or_past (table_of_rules ◌++◌ [] known rules.rules) symbol [] past)

-- no symbol lasts longer than a period
duration_of-limit : (rules : RulesView) → AreRules rules → (symbol : ℕ) → duration_of rules symbol ≤ MAX_PERIOD
unfolding entry_of
duration_of-limit rules sound symbol = elim (cases_lt symbol (length rules.alphabet)) [
  | inl terminal ↦ omega (arith, duration_of-terminal rules symbol terminal)
  | inr rule ↦ elim (cases_lt symbol (symbols_in rules)) [
    | inl known ↦
        let j = symbol - length rules.alphabet in
        let place : length rules.alphabet + j ≡ symbol = omega arith in
        let near = rule-sound rules j (no_flaws rules sound.flawless).rules (omega arith) in
        let short = near_entry rules.height rules.period (entry_of rules (length rules.alphabet + j)) near.near in
        let last : length (values_of rules (length rules.alphabet + j)) ≤ rules.period - 1 = short.duration in
        let same : length (values_of rules (length rules.alphabet + j)) ≡ duration_of rules symbol =
        ap (λ s. length (values_of rules s)) place ∙ length-values_of rules symbol in
        omega (arith, last, same, sound.shaped.period_fits.limit)
    | inr unknown ↦ omega (arith, duration_of-past rules symbol unknown)
  ]
]

length-log_values : (rules : RulesView) → AreRules rules → (log : List ℕ) →
    length (log_values rules log) ≤ MAX_PERIOD * length log
unfolding log_values
length-log_values rules sound [] = omega arith
length-log_values rules sound (symbol ∷ log) =
    omega (
      arith,
      length-append (values_of rules symbol) (log_values rules log),
      length-values_of rules symbol,
      duration_of-limit rules sound symbol,
      length-log_values rules sound log,
    )

-- the cells round which a box is the least lie within its bounds
pub box_round-bounded : (area : CellBox) (cells : List Cell) → Some area ≡ box_round cells → All (IsBounded area) cells
box_round-bounded area [] is = All-nil (IsBounded area)
box_round-bounded area (first ∷ rest) is =
    let bounds = box_round-bounds area first rest is in
    let x1 = fold-int_min_bounds first.x (map column rest) area.x1 bounds.x1 in
    let y1 = fold-int_min_bounds first.y (map line rest) area.y1 bounds.y1 in
    let x2 = fold-int_max_bounds first.x (map column rest) area.x2 bounds.x2 in
    let y2 = fold-int_max_bounds first.y (map line rest) area.y2 bounds.y2 in
    All-cons (IsBounded area) first rest (record { left = x1.0; below = y1.0; right = x2.0; above = y2.0 })
    (λ k d within. record {
      left = All-from_map (λ x. area.x1 ≤ℤ x) column rest x1.1 k d within;
      below = All-from_map (λ y. area.y1 ≤ℤ y) line rest y1.1 k d within;
      right = All-from_map (λ x. x ≤ℤ area.x2) column rest x2.1 k d within;
      above = All-from_map (λ y. y ≤ℤ area.y2) line rest y2.1 k d within;
    })

-- where the box round cells is moved to a near place, they are near
cells-near : (cell : Cell) (cells : List Cell) (hull : Option CellBox) → hull ≡ box_round cells →
    IsHullAsked cell hull → All IsCellAsked (map (λ c. moved c (cell.x, cell.y)) cells)
unfolding box_round
cells-near cell [] hull is near = All-nil IsCellAsked
cells-near cell (first ∷ rest) None is near = absurd (cc)
cells-near cell (first ∷ rest) (Some area) is near =
    All-map IsCellAsked (λ c. moved c (cell.x, cell.y)) (first ∷ rest)
    (λ k d within. in_bounds (get_or (first ∷ rest) k d) (box_round-bounded area (first ∷ rest) is k d within))
  where
    in_bounds : (c : Cell) → IsBounded area c → IsCellAsked (moved c (cell.x, cell.y))
    in_bounds c inside = record {
      x = record { low = omega (arith, ints, near.x1.low, inside.left); high = omega (arith, ints, near.x2.high, inside.right) };
      y = record { low = omega (arith, ints, near.y1.low, inside.below); high = omega (arith, ints, near.y2.high, inside.above) };
    }

values-near : (cell : Cell) (values : List ℕ) → IsHullAsked cell (bounding_box_of values) →
    All IsCellAsked (present_in (cells_along cell values))
unfolding bounding_box_of
values-near cell values near =
    let by : ℤ × ℤ = (cell.x, cell.y) in
    let here : moved origin by ≡ cell = same_cell _ _ cell.x cell.y (omega (arith, ints)) (omega (arith, ints)) in
    subst (λ start. All IsCellAsked (present_in (cells_along start values))) here
    (subst (All IsCellAsked) (sym (present-moved by origin values))
    (cells-near cell (present_in (cells_along origin values)) _ refl near))

-- where the boxes of a log are near, so are the cells along it
pub log-near : (rules : RulesView) (cell : Cell) (log : List ℕ) → AreHullsAsked rules cell log →
    All IsCellAsked (present_in (cells_along cell (log_values rules log)))
unfolding AreHullsAsked log_values cells_along
log-near rules cell [] near = All-nil IsCellAsked
log-near rules cell (symbol ∷ log) near =
    let values = values_of rules symbol in
    let next = moved cell (displacement_of values) in
    let later = log_values rules log in
    subst (All IsCellAsked) (sym (ap present_in (cells_along-append cell values later)
    ∙ flat_map-append option_to_list (cells_along cell values) (cells_along next later)))
    (All-append IsCellAsked (present_in (cells_along cell values)) (present_in (cells_along next later))
    (values-near cell values near.0) (log-near rules next log near.1))

-- the way of a block that is placed
pub IsWayOf-placed : (rules : RulesView) (start : Start) (log : List ℕ) → AreRules rules → length log ≤ MAX_SYMBOLS →
    IsPlaced rules start log → IsWayOf rules start log
IsWayOf-placed rules start log sound short placed =
    let long = length-log_values rules sound log in
    record {
      start_is = record {
        instant = record {
          low = omega (arith, ints, placed.instant.low);
          high = omega (arith, ints, placed.instant.high);
        };
        cell = placed.cell;
      };
      last = omega (arith, ints, long, placed.instant.high);
      cells = log-near rules start.cell log placed.hulls;
    }

-- a log is no longer than all stored symbols may be
pub length-log_of : (view : LogView) → AreRules view.rules.now → length (log_of view) ≤ MAX_SYMBOLS
length-log_of view sound =
    omega (
      arith,
      length-drop view.from view.rules.now.symbols,
      length-take (view.from + view.len - view.from) (drop view.from view.rules.now.symbols),
      sound.shaped.symbols_fit,
    )
