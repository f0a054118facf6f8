-- The alphabet, the rules and the symbols of a chart's parts are sound and have the form of an index: each rule stands
-- for a part of some block's values.
use Rattle.std.proofs.Common.{◌≡◌, ℕ, ◌+◌, ◌-◌, ◌*◌, ◌<◌, ◌≤◌, List, [], ◌∷◌, ◌++◌, length, All, sym, subst, arith, refl, inl, inr, zero, suc, ◌^◌, lit<}
use Rattle.std.specs.Prelude.{slice_index}
use Rattle.std.specs.List.{AllByRecursion, Contains, flat_map}
use Rattle.std.specs.List.Sorted.{IsStrictlyIncreasing}
use Rattle.std.proofs.lemmas.Int.{ints}
use Rattle.std.proofs.lemmas.List.{length-append}
use Rattle.std.proofs.lemmas.List.Elements.{All-from_recursion, All-weaker, Contains-get_or, All-contains_itself, All-from_get_or}
use Rattle.std.proofs.lemmas.List.Concat.{length-flat_map}
use Rattle.list_laws.proofs.FlatLemmas.{All-flat_map}
use Rattle.list_laws.proofs.MemberLemmas.{member_cases, member_of_flat_map, member_of_map, no_member}
use Rattle.list_laws.proofs.NumberLemmas.{least_power}
use Rattle.track_types.specs.Chart.{ChartView, IsChart}
use Rattle.track_types.specs.Quantities.{first_of, period_of}
use Rattle.track_types.specs.declared.cell.Cell.{Cell}
use Rattle.track_types.specs.declared.frame.Frame.{Frame}
use Rattle.track_types.specs.declared.row.Row.{Row}
use Rattle.rule_store.specs.Cells.{displacement_of, moved, movement_of}
use Rattle.rule_store.specs.Entry.{entry_of, entry_with}
use Rattle.rule_store.specs.Expansion.{values_of}
use Rattle.rule_store.specs.Flaws.{rule_parts, reach_limit}
use Rattle.rule_store.specs.Log.{log_values}
use Rattle.rule_store.specs.View.{RulesView}
use Rattle.rule_store.proofs.ExpansionLemmas.{values_of-rule}
use Rattle.movement_log.specs.Logs.{alphabet_of, block_anchors, logged_values, logs_of, values_after}
use Rattle.movement_log.proofs.AlphabetLemmas.{member_of_ascending_of, IsStrictlyIncreasing-ascending_of}
use Rattle.movement_log.proofs.CutLemmas.{length-values_after}
use Rattle.repair_grammar.specs.RePair.{AreBelow}
use Rattle.repair_grammar.proofs.UsedLemmas.{holds_of_rules}
use Rattle.snapshots.specs.Parts.{rules_in}
use Rattle.snapshots.specs.SoundParts.{AreSoundRules, IsInReach, IsRule, IsShortEntry}
use Rattle.spiral_code.specs.Spiral.{square}
use Rattle.spiral_code.proofs.SpiralLemmas.{move_of-below}
use Rattle.track_types.specs.Limits.{limit_of}
use Rattle.track_types.specs.PartsForm.{AreLong, AreShort, AreShortPairs, width_for, symbol_width}
use Rattle.track_types.specs.declared.limit.LimitKind.TheVariants.{Symbols}
use Rattle.track_types.specs.declared.limit.TheConstants.{MAX_HEIGHT}
use Rattle.rule_store.proofs.FlawLemmas.{reach_limit-high}
use Rattle.chart_parts.specs.Header.{frame_of}
use Rattle.chart_parts.specs.PartsOf.{grammar_of, compressed_parts_of}
use Rattle.chart_parts.proofs.AlongLemmas.{IsAlong, IsAlong-back, IsAlong-front, IsInFrame, IsBoxInReach-along, IsInReach-along, IsAlong-block}
use Rattle.chart_parts.proofs.GrammarLemmas.{IsGrammarOf-chart, anchored_log, log-values, logged_anchor, length-alphabet_of, few_terminals}
use Rattle.chart_parts.proofs.HeaderLemmas.{IsFrame-frame_of}

-- at most so many values lead from some cell of the grid only to cells of it
record IsStay (frame : Frame) (most : ℕ) (values : List ℕ) : Type 0 where
  start : Cell
  along : IsAlong (IsInFrame frame) start values
  short : length values ≤ most

module _ (frame : Frame) (most : ℕ) where
  -- the first of such values, and the others
  IsStay-front : (xs ys : List ℕ) → IsStay frame most (xs ++ ys) → IsStay frame most xs
  IsStay-front xs ys stay = record {
    start = stay.start;
    along = IsAlong-front (IsInFrame frame) stay.start xs ys stay.along;
    short = omega (arith, length-append xs ys, stay.short);
  }

  IsStay-back : (xs ys : List ℕ) → IsStay frame most (xs ++ ys) → IsStay frame most ys
  IsStay-back xs ys stay = record {
    start = moved stay.start (displacement_of xs);
    along = IsAlong-back (IsInFrame frame) stay.start xs ys stay.along;
    short = omega (arith, length-append xs ys, stay.short);
  }

  -- a symbol of a log that stands for such values
  IsStay-symbol : (rules : RulesView) (log : List ℕ) (symbol : ℕ) → IsStay frame most (log_values rules log) →
      Contains log symbol → IsStay frame most (values_of rules symbol)
  unfolding log_values
  IsStay-symbol rules [] symbol stay inside = no_member symbol inside
  IsStay-symbol rules (first ∷ log) symbol stay inside = elim (member_cases symbol first log inside) [
    | inl same ↦ rw (sym same) (IsStay-front (values_of rules first) (log_values rules log) stay)
    | inr later ↦
        IsStay-symbol rules log symbol (IsStay-back (values_of rules first) (log_values rules log) stay) later
  ]

  -- one of such values
  IsInReach-value : (values : List ℕ) (value : ℕ) → IsStay frame most values → Contains values value →
      IsInReach frame.height (movement_of value).0 (movement_of value).1
  unfolding displacement_of
  IsInReach-value [] value stay inside = no_member value inside
  IsInReach-value (first ∷ values) value stay inside = elim (member_cases value first values inside) [
    | inl same ↦
        let reach = IsInReach-along frame stay.start (first ∷ [])
        (IsAlong-front (IsInFrame frame) stay.start (first ∷ []) values stay.along) in
        rw (sym same) (omega (arith, ints, reach))
    | inr later ↦ IsInReach-value values value (IsStay-back (first ∷ []) values stay) later
  ]

  -- the entry of a symbol that stands for such values
  IsShortEntry-stay : (period symbol : ℕ) (values : List ℕ) → most ≤ period - 1 → IsStay frame most values →
      IsShortEntry frame.height period (entry_with symbol values)
  IsShortEntry-stay period symbol values enough stay = record {
    duration = omega (arith, stay.short);
    displacement = IsInReach-along frame stay.start values stay.along;
    hull = IsBoxInReach-along frame stay.start values stay.along;
  }

module _ (chart : ChartView) (is : IsChart chart) where
  abbrev rules : RulesView
  rules = rules_in (compressed_parts_of chart)

  -- the values of a block stay in the grid, and are fewer than the instants of a period
  abbrev IsBlockPart : List ℕ → Type 0
  IsBlockPart values = IsStay (frame_of chart) (chart.period - 1) values

  block_short : (anchor : Row) → length (values_after chart anchor) ≤ chart.period - 1
  block_short anchor =
      let periods : ℕ = period_of (first_of chart.rows) chart.period anchor in
      let some : 0 < chart.period = is.period.some in
      let end : (periods + 1) * chart.period ≡ chart.period * periods + chart.period = grind arith in
      omega (arith, length-values_after chart anchor, end)

  IsBlockPart-anchor : (anchor : Row) → Contains (block_anchors chart) anchor → IsBlockPart (values_after chart anchor)
  IsBlockPart-anchor anchor among = record {
    start = anchor.cell;
    along = IsAlong-block chart is anchor among;
    short = block_short anchor;
  }

  -- a symbol of a log, and the parts of a rule
  IsBlockPart-symbol : (log : List ℕ) (symbol : ℕ) → Contains (grammar_of chart).blocks log → Contains log symbol →
      IsBlockPart (values_of rules symbol)
  IsBlockPart-symbol log symbol stored stands =
      let logged = anchored_log chart log stored in
      let among = (logged_anchor chart logged.0 log logged.1).0 in
      IsStay-symbol (frame_of chart) (chart.period - 1) rules log symbol
      (subst IsBlockPart (sym (log-values chart logged.0 log logged.1)) (IsBlockPart-anchor logged.0 among)) stands

  IsBlockPart-parts : (rule : ℕ) → rule < length (grammar_of chart).rules →
      IsBlockPart (values_of rules (length (logs_of chart).alphabet + rule)) →
      IsBlockPart (values_of rules (rule_parts (grammar_of chart).rules rule).0)
      × IsBlockPart (values_of rules (rule_parts (grammar_of chart).rules rule).1)
  unfolding compressed_parts_of
  IsBlockPart-parts rule within stay =
      let pair : ℕ × ℕ = rule_parts (grammar_of chart).rules rule in
      let below = (IsGrammarOf-chart chart).parts rule within in
      let two = subst IsBlockPart (values_of-rule rules rule pair.0 pair.1 within refl below.0 below.1) stay in (
        IsStay-front (frame_of chart) (chart.period - 1) (values_of rules pair.0) (values_of rules pair.1) two,
        IsStay-back (frame_of chart) (chart.period - 1) (values_of rules pair.0) (values_of rules pair.1) two,
      )

  -- so that each rule stands for a part of some block
  IsBlockPart-rule : (rule : ℕ) → rule < length (grammar_of chart).rules →
      IsBlockPart (values_of rules (length (logs_of chart).alphabet + rule))
  IsBlockPart-rule rule within =
      holds_of_rules (length (logs_of chart).alphabet) (logs_of chart).terminals (grammar_of chart)
      (IsGrammarOf-chart chart) (λ symbol. IsBlockPart (values_of rules symbol)) IsBlockPart-symbol IsBlockPart-parts
      rule within

  -- each value of the alphabet stands in a block
  pub IsInReach-alphabet : (value : ℕ) → Contains (alphabet_of chart) value →
      IsInReach (frame_of chart).height (movement_of value).0 (movement_of value).1
  unfolding alphabet_of logged_values
  IsInReach-alphabet value inside =
      let one = member_of_flat_map (λ (values : List ℕ). values) (logged_values chart) value
      (member_of_ascending_of (flat_map (λ values. values) (logged_values chart)) value inside) in
      let made = member_of_map (values_after chart) (block_anchors chart) one.0 one.1 in
      IsInReach-value (frame_of chart) (chart.period - 1) one.0 value
      (subst IsBlockPart made.2 (IsBlockPart-anchor made.0 made.1)) one.2

  -- each stored symbol is a terminal or a rule
  pub symbols_below : All (λ symbol. symbol < length (logs_of chart).alphabet + length (grammar_of chart).rules)
      (flat_map (λ log. log) (grammar_of chart).blocks)
  unfolding AreBelow
  symbols_below =
      let limit : ℕ = length (logs_of chart).alphabet + length (grammar_of chart).rules in
      let IsLow : ℕ → Type 0 = λ symbol. symbol < limit in
      All-flat_map IsLow (λ log. log) (grammar_of chart).blocks
      (All-weaker (AllByRecursion IsLow) (All IsLow) (All-from_recursion IsLow) (grammar_of chart).blocks
      (All-from_recursion (AllByRecursion IsLow) (grammar_of chart).blocks (IsGrammarOf-chart chart).below))

  period_is : (frame_of chart).period ≡ chart.period
  unfolding frame_of
  period_is = refl

  IsRule-chart : (rule : ℕ) → rule < length (grammar_of chart).rules → IsRule rules rule
  unfolding compressed_parts_of entry_of
  IsRule-chart rule within =
      let below = (IsGrammarOf-chart chart).parts rule within in
      let symbol : ℕ = length (logs_of chart).alphabet + rule in
      let same = period_is in
      record {
        left = below.0;
        right = below.1;
        entry = IsShortEntry-stay (frame_of chart) (chart.period - 1) (frame_of chart).period symbol
            (values_of rules symbol) (omega (arith, same)) (IsBlockPart-rule rule within);
      }

  -- the rules of the parts are sound
  pub AreSoundRules-compressed_parts_of : AreSoundRules rules
  unfolding compressed_parts_of logs_of
  AreSoundRules-compressed_parts_of = record {
    codes = λ i within.
        IsInReach-alphabet (slice_index (alphabet_of chart) i) (Contains-get_or (alphabet_of chart) i 0 within);
    rules_are = λ j within. IsRule-chart j within;
    symbols = λ i within. symbols_below i 0 within;
  }

-- a movement stays within the greatest grid, so that its value fits 64 bits
pub value-long : (height value : ℕ) → height ≤ MAX_HEIGHT → IsInReach height (movement_of value).0 (movement_of value).1 →
    value < 2 ^ 64
value-long height zero high reach = omega arith
value-long height (suc code) high reach =
    let near = reach_limit-high height high in
    let below : code < square (2 * reach_limit MAX_HEIGHT + 1) =
    (move_of-below code (reach_limit MAX_HEIGHT)).1 (omega arith) in
    let few : suc (square (2 * reach_limit MAX_HEIGHT + 1)) < 2 ^ 64 = lit< tt in
    omega (arith, below, few)

module _ (chart : ChartView) where
  -- the alphabet ascends
  pub IsStrictlyIncreasing-alphabet : IsStrictlyIncreasing (compressed_parts_of chart).alphabet
  unfolding compressed_parts_of logs_of alphabet_of
  IsStrictlyIncreasing-alphabet =
      IsStrictlyIncreasing-ascending_of (flat_map (λ values. values) (logged_values chart))

  module _ (is : IsChart chart) where
    -- its values fit 64 bits
    pub AreLong-alphabet : AreLong (compressed_parts_of chart).alphabet
    unfolding compressed_parts_of logs_of
    AreLong-alphabet =
        let high : (frame_of chart).height ≤ MAX_HEIGHT = (IsFrame-frame_of chart is).limit in
        All-weaker (Contains (alphabet_of chart)) (λ value. value < 2 ^ 64)
        (λ value inside. value-long (frame_of chart).height value high (IsInReach-alphabet chart is value inside))
        (alphabet_of chart) (All-contains_itself (alphabet_of chart))

    -- it has no more values than there may be symbols
    pub few_values : length (compressed_parts_of chart).alphabet ≤ limit_of Symbols
    unfolding compressed_parts_of logs_of
    few_values = length-alphabet_of chart is

    -- there are no more rules than there may be symbols
    pub few_rules : length (compressed_parts_of chart).rules ≤ limit_of Symbols
    unfolding compressed_parts_of
    few_rules = omega (arith, (IsGrammarOf-chart chart).few, few_terminals chart is)

    -- the parts of rules fit 32 bits
    pub AreShortPairs-rules : AreShortPairs (compressed_parts_of chart).rules
    unfolding compressed_parts_of logs_of
    AreShortPairs-rules =
        All-from_get_or (λ pair. (pair.0 < 2 ^ 32) × (pair.1 < 2 ^ 32)) (grammar_of chart).rules (0, 0)
        (λ rule within.
        let below = (IsGrammarOf-chart chart).parts rule within in
        (omega (arith, below.0, few_values, few_rules), omega (arith, below.1, few_values, few_rules)))

    -- the logs have no more symbols than there may be
    pub few_symbols : length (compressed_parts_of chart).symbols ≤ limit_of Symbols
    unfolding compressed_parts_of
    few_symbols =
        omega (
          arith,
          length-flat_map (λ (log : List ℕ). log) (grammar_of chart).blocks,
          (IsGrammarOf-chart chart).few,
          few_terminals chart is,
        )

    -- these fit 32 bits
    pub AreShort-symbols : AreShort (compressed_parts_of chart).symbols
    unfolding compressed_parts_of logs_of
    AreShort-symbols =
        All-weaker (λ symbol. symbol < length (alphabet_of chart) + length (grammar_of chart).rules)
        (λ symbol. symbol < 2 ^ 32) (λ symbol below. omega (arith, few_values, few_rules))
        (flat_map (λ log. log) (grammar_of chart).blocks)
        (symbols_below chart is)

    -- so many bits are enough for each of them
    pub narrow_symbols : All (λ symbol. symbol < 2 ^ symbol_width (compressed_parts_of chart)) (compressed_parts_of chart).symbols
    unfolding compressed_parts_of logs_of width_for
    narrow_symbols =
        let known : ℕ = length (alphabet_of chart) + length (grammar_of chart).rules in
        let fits = least_power 26 known (omega arith) (omega (arith, few_values, few_rules)) in
        All-weaker (λ symbol. symbol < known) (λ symbol. symbol < 2 ^ width_for known)
        (λ symbol below. omega (arith, below, fits.1)) (flat_map (λ log. log) (grammar_of chart).blocks)
        (symbols_below chart is)
