-- The grammar of a chart: there is one log for each block, which stands for the block's values.
use Rattle.std.proofs.Common.{◌≡◌, ℕ, ◌<◌, ◌≤◌, List, length, map, refl, ◌∙◌, arith, [], get_or, sym, subst, ap, ◌^◌, All}
use Rattle.std.specs.List.{AllByRecursion, Contains, flat_map, sum_by}
use Rattle.std.specs.Prelude.{slice_index}
use Rattle.std.proofs.lemmas.List.{length-map}
use Rattle.std.proofs.lemmas.List.Concat.{length-flat_map}
use Rattle.std.proofs.lemmas.List.Elements.{All-contains_itself, All-map, All-weaker, recursion_from_All}
use Rattle.std.proofs.lemmas.Slice.Zip.{firsts-zip, seconds-zip}
use Rattle.std.proofs.lemmas.Simd.{map-map}
use Rattle.list_laws.proofs.FlatLemmas.{sum_by-map}
use Rattle.list_laws.proofs.MemberLemmas.{Contains-flat_map, Contains-map, member_of_map}
use Rattle.list_laws.proofs.SumLemmas.{sum_by-agree}
use Rattle.list_laws.specs.Grown.{expansions}
use Rattle.list_laws.proofs.MapLemmas.{map-fixed, map-flat_map, member_of_zip, zip-agree}
use Rattle.track_types.specs.Chart.{ChartView, IsChart}
use Rattle.track_types.specs.Limits.{limit_of}
use Rattle.track_types.specs.Quantities.{symbol_count}
use Rattle.track_types.specs.declared.limit.LimitKind.TheVariants.{Symbols}
use Rattle.track_types.specs.declared.row.Row.{Row}
use Rattle.movement_log.specs.Blocks.{log_length_of}
use Rattle.movement_log.specs.Logs.{alphabet_of, block_anchors, logged_values, logs_of, terminal_of, values_after}
use Rattle.movement_log.proofs.AlphabetLemmas.{Contains-ascending_of, length-ascending_of, terminal_of-member}
use Rattle.movement_log.proofs.CutLemmas.{length-values_after}
use Rattle.movement_log.proofs.PeriodLemmas.{sum_by-block_anchors}
use Rattle.repair_grammar.specs.GrammarOf.{IsGrammarOf, expanded}
use Rattle.repair_grammar.specs.RePair.{AreBelow}
use Rattle.repair_grammar.proofs.SoundLemmas.{re_pair-sound}
use Rattle.rule_store.specs.Expansion.{expansion_of, values_of}
use Rattle.rule_store.specs.Log.{log_values}
use Rattle.rule_store.specs.View.{RulesView}
use Rattle.snapshots.specs.Parts.{rules_in}
use Rattle.chart_parts.specs.PartsOf.{grammar_of, logged_anchors, compressed_parts_of}
use Rattle.std.proofs.lemmas.List.Sums.{get_or-le-sum_by}

-- a log that is not long
abbrev pub IsShortLog : List ℕ → Type 0
IsShortLog log = length log < 2 ^ 32

module _ (chart : ChartView) where
  -- each value of a log is in the alphabet
  pub Contains-alphabet_of : (values : List ℕ) (value : ℕ) → Contains (logged_values chart) values →
      Contains values value → Contains (alphabet_of chart) value
  unfolding alphabet_of
  Contains-alphabet_of values value logged inside =
      Contains-ascending_of (flat_map (λ log. log) (logged_values chart)) value
      (Contains-flat_map (λ log. log) (logged_values chart) values value logged inside)

  -- the terminals of a log that is one of the chart's
  terminals_below : (values : List ℕ) → Contains (logged_values chart) values →
      AllByRecursion (λ symbol. symbol < length (alphabet_of chart)) (map (terminal_of (alphabet_of chart)) values)
  terminals_below values logged =
      let IsBelow : ℕ → Type 0 = λ symbol. symbol < length (alphabet_of chart) in
      recursion_from_All IsBelow (map (terminal_of (alphabet_of chart)) values)
      (All-map IsBelow (terminal_of (alphabet_of chart)) values
      (All-weaker (Contains values) (λ value. IsBelow (terminal_of (alphabet_of chart) value))
      (λ value inside.
      (terminal_of-member (alphabet_of chart) value (Contains-alphabet_of values value logged inside)).0)
      values (All-contains_itself values)))

  -- the terminals are below the length of the alphabet
  pub AreBelow-terminals : AreBelow (length (logs_of chart).alphabet) (logs_of chart).terminals
  unfolding logs_of AreBelow
  AreBelow-terminals =
      let AreLow : List ℕ → Type 0 = AllByRecursion (λ symbol. symbol < length (alphabet_of chart)) in
      let terminals : List ℕ → List ℕ = map (terminal_of (alphabet_of chart)) in
      recursion_from_All AreLow (map terminals (logged_values chart))
      (All-map AreLow terminals (logged_values chart)
      (All-weaker (Contains (logged_values chart)) (λ values. AreLow (terminals values)) terminals_below
      (logged_values chart) (All-contains_itself (logged_values chart))))

  -- the rules and logs of a chart are a grammar of its terminals
  pub IsGrammarOf-chart : IsGrammarOf (length (logs_of chart).alphabet) (logs_of chart).terminals (grammar_of chart)
  unfolding grammar_of
  IsGrammarOf-chart = re_pair-sound (length (logs_of chart).alphabet) (logs_of chart).terminals AreBelow-terminals

  -- there is a log for each block
  pub length-terminals : length (logs_of chart).terminals ≡ length (block_anchors chart)
  unfolding logs_of logged_values
  length-terminals = rw (length-map, length-map) refl

  -- the logs have as many values as the chart counts symbols
  pub sum_by-logged_values : 0 < chart.period →
      sum_by length (logged_values chart) ≡ symbol_count chart.rows chart.period
  unfolding logged_values
  sum_by-logged_values some =
      sum_by-map length (values_after chart) (block_anchors chart)
      ∙ sum_by-agree (λ anchor. length (values_after chart anchor)) (log_length_of chart)
      (length-values_after chart) (block_anchors chart)
      ∙ sum_by-block_anchors chart some (log_length_of chart)

  -- they have as many terminals
  pub sum_by-terminals : 0 < chart.period →
      sum_by length (logs_of chart).terminals ≡ symbol_count chart.rows chart.period
  unfolding logs_of
  sum_by-terminals some =
      let terminals : List ℕ → List ℕ = map (terminal_of (alphabet_of chart)) in
      sum_by-map length terminals (logged_values chart)
      ∙ sum_by-agree (λ values. length (terminals values)) length (λ values. rw length-map refl)
      (logged_values chart)
      ∙ sum_by-logged_values some

  -- these are no more than a chart may have
  pub few_terminals : IsChart chart → sum_by length (logs_of chart).terminals ≤ limit_of Symbols
  few_terminals is = omega (arith, sum_by-terminals is.period.some, is.symbols)

  -- so that no log is long
  pub short_logs : IsChart chart → All IsShortLog (grammar_of chart).blocks
  short_logs is k d within =
      omega (arith, get_or-le-sum_by length (grammar_of chart).blocks k d within, IsGrammarOf-chart.few, few_terminals is)

  -- the alphabet has no more values than the logs
  pub length-alphabet_of : IsChart chart → length (alphabet_of chart) ≤ limit_of Symbols
  unfolding alphabet_of
  length-alphabet_of is =
      omega (
        arith,
        length-ascending_of (flat_map (λ log. log) (logged_values chart)),
        length-flat_map (λ (log : List ℕ). log) (logged_values chart),
        sum_by-logged_values is.period.some,
        is.symbols,
      )

  -- there is a log for each anchor
  pub length-blocks : length (grammar_of chart).blocks ≡ length (block_anchors chart)
  length-blocks = IsGrammarOf-chart.same ∙ length-terminals

  -- the anchors beside the logs are those of all blocks
  pub firsts-logged_anchors : map (λ (block : Row × List ℕ). block.0) (logged_anchors chart) ≡ block_anchors chart
  unfolding logged_anchors
  firsts-logged_anchors = firsts-zip (block_anchors chart) (grammar_of chart).blocks length-blocks

  -- and the logs beside the anchors are those of the grammar
  pub seconds-logged_anchors : map (λ (block : Row × List ℕ). block.1) (logged_anchors chart) ≡ (grammar_of chart).blocks
  unfolding logged_anchors
  seconds-logged_anchors = seconds-zip (block_anchors chart) (grammar_of chart).blocks length-blocks

-- the values of a log are those of the terminals that its symbols stand for
log_values-expanded : (rules : RulesView) (log : List ℕ) →
    log_values rules log ≡ map (slice_index rules.alphabet) (expanded (length rules.alphabet) rules.rules log)
unfolding log_values values_of expansion_of expanded
log_values-expanded rules log =
    sym (map-flat_map (slice_index rules.alphabet)
    (λ symbol. get_or (expansions (length rules.alphabet) rules.rules) symbol []) log)

module _ (chart : ChartView) where
  -- each log of the grammar stands beside an anchor
  pub anchored_log : (log : List ℕ) → Contains (grammar_of chart).blocks log →
      (anchor : Row) × Contains (logged_anchors chart) (anchor, log)
  anchored_log log stored =
      let made = member_of_map (λ (pair : Row × List ℕ). pair.1) (logged_anchors chart) log
      (subst (λ all. Contains all log) (sym (seconds-logged_anchors chart)) stored) in
      (made.0.0, subst (λ other. Contains (logged_anchors chart) (made.0.0, other)) made.2 made.1)

  -- what stand beside each other are a block's anchor and a log of the grammar
  pub logged_anchor : (anchor : Row) (log : List ℕ) → Contains (logged_anchors chart) (anchor, log) →
      Contains (block_anchors chart) anchor × Contains (grammar_of chart).blocks log
  unfolding logged_anchors
  logged_anchor anchor log inside =
      member_of_zip (block_anchors chart) (grammar_of chart).blocks anchor log inside

  -- the values of a block are in the alphabet, so that each of them has its terminal's value
  values-placed : (anchor : Row) → Contains (block_anchors chart) anchor →
      map (slice_index (alphabet_of chart)) (map (terminal_of (alphabet_of chart)) (values_after chart anchor))
      ≡ values_after chart anchor
  unfolding logged_values
  values-placed anchor among =
      let values : List ℕ = values_after chart anchor in
      let logged : Contains (logged_values chart) values =
      Contains-map (values_after chart) (block_anchors chart) anchor among in
      map-map (slice_index (alphabet_of chart)) (terminal_of (alphabet_of chart)) values
      ∙ map-fixed (λ value. slice_index (alphabet_of chart) (terminal_of (alphabet_of chart) value)) values
      (λ value inside.
      (terminal_of-member (alphabet_of chart) value (Contains-alphabet_of chart values value logged inside)).1)

  -- the symbols of a block's log stand for its terminals
  expanded-log : (anchor : Row) (log : List ℕ) → Contains (logged_anchors chart) (anchor, log) →
      map (terminal_of (alphabet_of chart)) (values_after chart anchor)
      ≡ expanded (length (alphabet_of chart)) (grammar_of chart).rules log
  unfolding logged_anchors logs_of logged_values
  expanded-log anchor log inside =
      let terminals : List ℕ → List ℕ = map (terminal_of (alphabet_of chart)) in
      zip-agree (λ row. terminals (values_after chart row))
      (expanded (length (alphabet_of chart)) (grammar_of chart).rules) (block_anchors chart) (grammar_of chart).blocks
      anchor log
      (sym (map-map terminals (values_after chart) (block_anchors chart)) ∙ sym (IsGrammarOf-chart chart).expands)
      inside

  -- the symbols of a block's log stand for its values
  pub log-values : (anchor : Row) (log : List ℕ) → Contains (logged_anchors chart) (anchor, log) →
      log_values (rules_in (compressed_parts_of chart)) log ≡ values_after chart anchor
  unfolding compressed_parts_of logs_of
  log-values anchor log inside =
      log_values-expanded (rules_in (compressed_parts_of chart)) log
      ∙ ap (map (slice_index (alphabet_of chart))) (sym (expanded-log anchor log inside))
      ∙ values-placed anchor (logged_anchor anchor log inside).0
