-- Parts with settled rules: they are valid and hold the same chart, and parts with rules in order stay as they are.
use Rattle.std.proofs.Common.{◌≡◌, ℕ, ◌+◌, ◌-◌, ◌^◌, ◌<◌, List, length, get_or, map, All, Option, None, Some, refl, ap, sym, subst, ◌∙◌, arith}
use Rattle.std.specs.Prelude.{slice_index}
use Rattle.std.specs.List.{range_with_len}
use Rattle.std.proofs.lemmas.List.{get_or-map, get_or_default, length-map, same_lists}
use Rattle.std.proofs.lemmas.List.Elements.{All-from_get_or, All-weaker}
use Rattle.list_laws.proofs.KeyedLemmas.{flat_map_alike}
use Rattle.list_laws.proofs.NumberLemmas.{least_power}
use Rattle.track_types.specs.PartsForm.{IsShaped, symbol_width, width_for}
use Rattle.track_types.specs.declared.parts.Parts.{Parts}
use Rattle.rule_store.specs.Entry.{entry_of}
use Rattle.rule_store.specs.Expansion.{depth_in, values_of}
use Rattle.rule_store.specs.Log.{block_stops, stops_after}
use Rattle.rule_store.specs.View.{RulesView, symbols_in}
use Rattle.rule_order.specs.Layers.{AreBelow}
use Rattle.rule_order.specs.Order.{IsSettled, new_symbol, symbols_in_order}
use Rattle.rule_order.specs.View.{settled_view}
use Rattle.rule_order.proofs.KeptLemmas.{log_values-settled, values_of-settled}
use Rattle.rule_order.proofs.RankLemmas.{place-new_symbol}
use Rattle.rule_order.proofs.SettledLemmas.{length-settled_rules, new_symbol-settled, old_symbol, old_symbol-rule, settled_rules-below, settled_rules-same, settled_rules-settled}
use Rattle.snapshots.specs.Parts.{chart_in, log_in, numbers_in, row_of, rows_in, rules_in, snapshot_in, start_in, stops_in, stops_in_block}
use Rattle.snapshots.specs.SoundParts.{AreSoundRules, IsRule, IsShortEntry, IsSound, IsSoundLog, IsValid}
use Rattle.snapshots.specs.Upgrade.{upgrade_of}
use Rattle.snapshots.specs.View.{all_blocks, block_of}
use Rattle.snapshots.specs.declared.anchored.Anchored.{Anchored}
use Rattle.parts_order.specs.SettledParts.{settled_parts}
use Rattle.parts_order.proofs.SettledDepthLemmas.{depth_in-settled}
use Rattle.parts_order.proofs.SettledLogLemmas.{AreKnown, IsSoundLog-settled, block_log-settled, known_log}

-- the parts of sound rules are below their own symbols
pub below-sound : (view : RulesView) → AreSoundRules view → AreBelow (length view.alphabet) view.rules
below-sound view sound = λ j within. let is = sound.rules_are j within in (is.left, is.right)

-- the stored symbols of sound rules are the grammar's
pub known-sound : (view : RulesView) (sound : AreSoundRules view) → AreKnown view (below-sound view sound) view.symbols
known-sound view sound symbol inside =
    let member = sound.symbols inside.0 inside.1 in
    omega (arith, member, get_or_default view.symbols inside.0 symbol 0 inside.1, inside.2)

-- sound rules are sound once they are settled
module _ (view : RulesView) (sound : AreSoundRules view) where
  abbrev below : AreBelow (length view.alphabet) view.rules
  below = below-sound view sound

  abbrev alphabet : ℕ
  alphabet = length view.alphabet

  -- a settled rule has the entry of an old one
  entry-settled : (j symbol : ℕ) → new_symbol alphabet view.rules symbol ≡ alphabet + j → symbol < symbols_in view →
      IsShortEntry view.height view.period (entry_of view symbol) →
      IsShortEntry view.height view.period (entry_of (settled_view view) (alphabet + j))
  unfolding entry_of
  entry-settled j symbol is within short =
      let values : values_of (settled_view view) (alphabet + j) ≡ values_of view symbol =
      ap (values_of (settled_view view)) (sym is) ∙ values_of-settled view below symbol within in
      rw values (record { duration = short.duration; displacement = short.displacement; hull = short.hull })

  rule-settled : (j : ℕ) → j < length (settled_view view).rules → IsRule (settled_view view) j
  rule-settled j within =
      let symbol : ℕ = get_or (symbols_in_order alphabet view.rules) (alphabet + j) 0 in
      let old = old_symbol alphabet view.rules below (alphabet + j)
      (omega (arith, within, length-settled_rules alphabet view.rules below)) in
      let rule = old_symbol-rule alphabet view.rules below (alphabet + j) symbol old (omega arith) in
      let its = sound.rules_are (symbol - alphabet) (omega (arith, old.within)) in
      let back : alphabet + (symbol - alphabet) ≡ symbol = omega arith in
      let short = subst (λ s. IsShortEntry view.height view.period (entry_of view s)) back its.entry in
      let parts = settled_rules-below alphabet view.rules below j within in
      record { left = parts.0; right = parts.1; entry = entry-settled j symbol old.is old.within short }

  pub AreSoundRules-settled : AreSoundRules (settled_view view)
  AreSoundRules-settled = record {
    codes = sound.codes;
    rules_are = rule-settled;
    symbols = λ i within.
        let stored = length-map view.symbols (new_symbol alphabet view.rules) in
        let known = sound.symbols i (omega (arith, stored)) in
        let now = place-new_symbol alphabet view.rules (slice_index view.symbols i) 0 known in
        let is = get_or-map (new_symbol alphabet view.rules) view.symbols i 0 0 (omega (arith, stored)) in
        omega (arith, is, now.0, length-settled_rules alphabet view.rules below);
  }

-- settling changes neither header nor trees, and the newest version has the same rules and logs
pub settled_parts-upgrade : (parts : Parts) → settled_parts (upgrade_of parts) ≡ upgrade_of (settled_parts parts)
unfolding settled_parts upgrade_of
settled_parts-upgrade parts = refl

module _ (parts : Parts) (valid : IsValid parts) where
  abbrev view : RulesView
  view = rules_in parts

  abbrev rules_below : AreBelow (length parts.alphabet) parts.rules
  rules_below = below-sound view valid.sound.rules

  abbrev known : AreKnown view rules_below parts.symbols
  known = known-sound view valid.sound.rules

  -- there are as many rules, and as many symbols in all logs
  pub length-rules-settled : length (settled_parts parts).rules ≡ length parts.rules
  unfolding settled_parts
  length-rules-settled = length-settled_rules (length parts.alphabet) parts.rules rules_below

  pub length-symbols-settled : length (settled_parts parts).symbols ≡ length parts.symbols
  unfolding settled_parts
  length-symbols-settled = length-map parts.symbols (new_symbol (length parts.alphabet) parts.rules)

  -- the parts are sound
  pub IsSound-settled : IsSound (settled_parts parts)
  unfolding settled_parts start_in
  IsSound-settled = record {
    rules = AreSoundRules-settled view valid.sound.rules;
    total = valid.sound.total ∙ sym length-symbols-settled;
    periods = valid.sound.periods;
    logs = λ number within.
        All-weaker (IsSoundLog parts.frame view number) (IsSoundLog parts.frame (settled_view view) number)
        (λ block its. IsSoundLog-settled view rules_below parts.frame number block (known_log view rules_below known block) its)
        (all_blocks (snapshot_in parts number)) (valid.sound.logs number within);
  }

  -- so many symbols can be told apart by the bits of a packed one
  narrow : All (λ symbol. symbol < 2 ^ symbol_width (settled_parts parts)) (settled_parts parts).symbols
  unfolding width_for settled_parts
  narrow =
      let many : ℕ = length parts.alphabet + length (settled_parts parts).rules in
      let fits = least_power 26 many (omega arith)
      (omega (arith, valid.shaped.few_values, valid.shaped.few_rules, length-rules-settled)) in
      All-from_get_or (λ symbol. symbol < 2 ^ symbol_width (settled_parts parts)) (settled_parts parts).symbols 0 (λ place within.
      omega (arith, fits.1, IsSound-settled.rules.symbols place within))

  -- and have the form of an index
  pub IsShaped-settled : IsShaped (settled_parts parts)
  unfolding settled_parts
  IsShaped-settled =
      let is = valid.shaped in
      let rules = AreSoundRules-settled view valid.sound.rules in
      record {
        header = is.header;
        some = is.some;
        few = is.few;
        blocks = is.blocks;
        objects = is.objects;
        short_objects = is.short_objects;
        alphabet = is.alphabet;
        long_alphabet = is.long_alphabet;
        few_values = is.few_values;
        few_rules = omega (arith, is.few_rules, length-rules-settled);
        short_rules = All-from_get_or (λ pair. (pair.0 < 2 ^ 32) × (pair.1 < 2 ^ 32)) (settled_parts parts).rules (0, 0) (λ j within.
            let its = rules.rules_are j within in
            let few = is.few_values in
            let few' = is.few_rules in
            let many = length-rules-settled in
            (omega (arith, its.left), omega (arith, its.right)));
        periods = is.periods;
        each = is.each;
        few_symbols = omega (arith, is.few_symbols, length-symbols-settled);
        short_symbols = All-from_get_or (λ symbol. symbol < 2 ^ 32) (settled_parts parts).symbols 0 (λ place within.
            let its = rules.symbols place within in
            omega (arith, its, is.few_values, is.few_rules, length-rules-settled));
        narrow_symbols = λ new. narrow;
      }

  -- the parts are those of an index
  pub settled_parts-valid : IsValid (settled_parts parts)
  settled_parts-valid = record { shaped = IsShaped-settled; sound = IsSound-settled }

  -- a block has the stops that it had
  block-stops : (number : ℕ) (block : Option Anchored) →
      stops_in_block (settled_parts parts) number block ≡ stops_in_block parts number block
  unfolding settled_parts block_stops stops_after
  block-stops number None = refl
  block-stops number (Some block) =
      let log : List ℕ = log_in parts block in
      let same = block_log-settled view rules_below block in
      let values = log_values-settled view rules_below log (known_log view rules_below known block) in
      rw (same, values) refl

  stops-settled : (index number : ℕ) → stops_in (settled_parts parts) index number ≡ stops_in parts index number
  unfolding stops_in start_in settled_parts
  stops-settled index number = block-stops number (block_of (snapshot_in parts number) index)

  -- the parts hold the same chart
  rows-settled : (index : ℕ) → rows_in (settled_parts parts) index ≡ rows_in parts index
  unfolding rows_in settled_parts
  rows-settled index =
      ap (map (row_of (get_or parts.objects index 0)))
      (flat_map_alike (stops_in (settled_parts parts) index) (stops_in parts index) (numbers_in parts.frame)
      (λ number inside. stops-settled index number))

  pub settled_parts-chart : chart_in (settled_parts parts) ≡ chart_in parts
  unfolding chart_in settled_parts
  settled_parts-chart =
      let objects : List ℕ = range_with_len 0 (length parts.objects) in
      rw (flat_map_alike (rows_in (settled_parts parts)) (rows_in parts) objects (λ index inside. rows-settled index)) refl

  -- their rules stand in order
  pub settled_parts-order : IsSettled (length (settled_parts parts).alphabet) (settled_parts parts).rules
  unfolding settled_parts
  settled_parts-order = settled_rules-settled (length parts.alphabet) parts.rules rules_below

  -- and are as deep
  pub settled_parts-depth : depth_in (rules_in (settled_parts parts)) ≡ depth_in (rules_in parts)
  unfolding settled_parts
  settled_parts-depth = depth_in-settled view rules_below

  -- parts whose rules stand in order stay as they are
  pub settled_parts-settled : IsSettled (length parts.alphabet) parts.rules → settled_parts parts ≡ parts
  unfolding settled_parts
  settled_parts-settled settled =
      let new : ℕ → ℕ = new_symbol (length parts.alphabet) parts.rules in
      let symbols : map new parts.symbols ≡ parts.symbols =
      same_lists (map new parts.symbols) parts.symbols (length-map parts.symbols new) (λ place d within.
      let inside : place < length parts.symbols = omega (arith, length-map parts.symbols new) in
      let member = valid.sound.rules.symbols place inside in
      get_or-map new parts.symbols place d d inside
      ∙ new_symbol-settled (length parts.alphabet) parts.rules settled (get_or parts.symbols place d)
      (omega (arith, member, get_or_default parts.symbols place d 0 inside))) in
      rw (settled_rules-same (length parts.alphabet) parts.rules settled, symbols) refl
