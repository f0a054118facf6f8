-- The parts of an outline are those of an index.
use Rattle.std.proofs.Common.{All, ◌≡◌, ℕ, ◌+◌, ◌^◌, ◌<◌, length, get_or, map}
use Rattle.std.proofs.Common.{None, sym, arith, subst}
use Rattle.std.specs.Prelude.{nat_lt, slice_index}
use Rattle.std.proofs.lemmas.Bool.{and_parts, lt-leb, ltb-true}
use Rattle.std.proofs.lemmas.List.Elements.{All-from_get_or, All-get_or, All-map}
use Rattle.std.proofs.lemmas.List.FromFn.{length-map-range_with_len}
use Rattle.list_laws.proofs.NumberLemmas.{least_power}
use Rattle.track_types.specs.Frame.{periods_of}
use Rattle.track_types.specs.PartsForm.{AreLong, AreShortPairs, IsShaped, IsShapedPeriod, width_for}
use Rattle.track_types.specs.declared.parts.Parts.{Parts}
use Rattle.rule_store.specs.Entry.{entry_of}
use Rattle.rule_store.specs.Expansion.{expansion_of, values_of}
use Rattle.rule_store.specs.Flaws.{is_rule_flawed, rule_flaw, rule_parts}
use Rattle.rule_store.specs.View.{RulesView, symbols_in}
use Rattle.rule_store.proofs.FlawLemmas.{rules_flaw-none, symbol_flaw-none}
use Rattle.index_format.specs.IsOutline.{IsOutline}
use Rattle.index_format.specs.declared.outline.Outline.{Outline}
use Rattle.snapshots.specs.Parts.{numbers_in, rules_in, start_in}
use Rattle.snapshots.specs.Sound.{IsSoundPeriod}
use Rattle.snapshots.specs.SoundParts.{AreSoundRules, IsSound, IsValid}
use Rattle.snapshots.proofs.SoundPartsLemmas.{AreSoundRules-flawless}
use Rattle.chart_parts.specs.PeriodWith.{period_of_blocks}
use Rattle.chart_parts.proofs.RuleLemmas.{value-long}
use Rattle.outline_parts.specs.PartsOfOutline.{headed, parts_of_outline}
use Rattle.outline_parts.proofs.BlockLemmas.{snapshot-outline}
use Rattle.outline_parts.proofs.LogLemmas.{AreSoundLogs-outline}
use Rattle.outline_parts.proofs.OutlineLemmas.{are-mine, heads-mine, heads_of, lengths-mine, lengths_of}
use Rattle.outline_parts.proofs.PeriodLemmas.{IsShapedPeriod-heads, IsSoundPeriod-heads}
use Rattle.outline_parts.proofs.SymbolLemmas.{All-symbols, length-symbols, total-outline}

module _ (outline : Outline) (is : IsOutline outline) where
  abbrev parts : Parts
  parts = parts_of_outline outline

  abbrev rules : RulesView
  rules = rules_in parts

  abbrev known : ℕ
  known = length outline.alphabet + length outline.rules

  -- each symbol is a terminal or a rule
  known-symbols : All (λ symbol. symbol < known) (parts_of_outline outline).symbols
  known-symbols = All-symbols outline is (λ symbol. symbol < known) (λ k d within. (is.each k d within).known)

  -- the rules have no flaw, whatever symbols are stored
  no-rule_flaw : rule_flaw rules ≡ None
  unfolding rule_flaw is_rule_flawed entry_of values_of expansion_of parts_of_outline
  no-rule_flaw = is.near_rules

  sound-rules : AreSoundRules rules
  unfolding parts_of_outline
  sound-rules = AreSoundRules-flawless rules (record {
    shaped = record {
      ascending = is.alphabet;
      alphabet_fits = is.few_values;
      rules_fit = is.few_rules;
      symbols_fit = omega (arith, length-symbols outline is, is.few_symbols);
      high = is.header.some;
      height_fits = is.header.limit;
      period_fits = is.header.periods;
    };
    flawless = rules_flaw-none rules (record {
      codes = is.near_values;
      rules = no-rule_flaw;
      symbols = symbol_flaw-none (symbols_in rules) rules.symbols (λ i within.
          let low : slice_index rules.symbols i < known = All-get_or (λ symbol. symbol < known) rules.symbols i 0 within known-symbols in
          lt-leb (symbols_in rules) (slice_index rules.symbols i) low);
    });
  })

  -- the parts of a rule fit 32 bits
  short-rules : AreShortPairs outline.rules
  short-rules =
      All-from_get_or (λ pair. (pair.0 < 2 ^ 32) × (pair.1 < 2 ^ 32)) outline.rules (0, 0) (λ j within.
      let pair : ℕ × ℕ = rule_parts outline.rules j in
      let symbol : ℕ = length outline.alphabet + j in
      let both = and_parts (nat_lt pair.0 symbol) (nat_lt pair.1 symbol) (is.rules.below j within) in
      let left : pair.0 < symbol = ltb-true pair.0 symbol both.0 in
      let right : pair.1 < symbol = ltb-true pair.1 symbol both.1 in
      (omega (arith, left, is.few_values, is.few_rules), omega (arith, right, is.few_values, is.few_rules)))

  long-alphabet : AreLong outline.alphabet
  unfolding parts_of_outline
  long-alphabet =
      All-from_get_or (λ value. value < 2 ^ 64) outline.alphabet 0 (λ i within.
      value-long outline.frame.height (slice_index outline.alphabet i) is.header.limit (sound-rules.codes i within))

  narrow : All (λ symbol. symbol < 2 ^ width_for known) (parts_of_outline outline).symbols
  unfolding width_for
  narrow =
      let fits = least_power 26 known (omega arith) (omega (arith, is.few_values, is.few_rules)) in
      λ k d within. omega (arith, known-symbols k d within, fits.1)

  shaped-periods : All (IsShapedPeriod (length outline.objects)) (parts_of_outline outline).periods
  unfolding parts_of_outline period_of_blocks
  shaped-periods =
      All-map (IsShapedPeriod (length outline.objects))
      (period_of_blocks outline.frame (length outline.objects) (map (headed outline.frame) outline.blocks)) (numbers_in outline.frame)
      (λ k d within.
      let number : ℕ = get_or (numbers_in outline.frame) k d in
      rw (heads-mine outline is number, lengths-mine outline is number)
      (IsShapedPeriod-heads outline.frame (length outline.objects) number (heads_of outline is number) (lengths_of outline is number)
      (are-mine outline is number)))

  -- the parts have the form of an index
  pub IsShaped-outline : IsShaped (parts_of_outline outline)
  unfolding parts_of_outline
  IsShaped-outline = record {
    header = is.header;
    some = is.some;
    few = is.few;
    blocks = is.periods;
    objects = is.objects;
    short_objects = is.short_objects;
    alphabet = is.alphabet;
    long_alphabet = long-alphabet;
    few_values = is.few_values;
    few_rules = is.few_rules;
    short_rules = short-rules;
    periods = length-map-range_with_len
        (period_of_blocks outline.frame (length outline.objects) (map (headed outline.frame) outline.blocks)) 0
        (periods_of outline.frame);
    each = shaped-periods;
    few_symbols = omega (arith, length-symbols outline is, is.few_symbols);
    short_symbols = λ k d within. omega (arith, known-symbols k d within, is.few_values, is.few_rules);
    narrow_symbols = λ new. narrow;
  }

  -- they are sound
  pub IsSound-outline : IsSound (parts_of_outline outline)
  unfolding parts_of_outline start_in
  IsSound-outline = record {
    rules = sound-rules;
    total = total-outline outline is;
    periods = λ number below.
        subst IsSoundPeriod (sym (snapshot-outline outline is number below))
        (IsSoundPeriod-heads outline.frame (length outline.objects) number (heads_of outline is number)
        (lengths_of outline is number) (are-mine outline is number) (start_in (parts_of_outline outline) number));
    logs = λ number below. AreSoundLogs-outline outline is number below;
  }

  -- and so they are those of an index
  pub IsValid-outline : IsValid (parts_of_outline outline)
  IsValid-outline = record { shaped = IsShaped-outline; sound = IsSound-outline }
