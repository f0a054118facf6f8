-- Parts that have the form of an index's have no flaw if and only if they are sound.
use Rattle.std.proofs.Common.{◌≡◌, ℕ, ◌<◌, length, Option, None, Some, refl, sym, ◌∙◌, arith}
use Rattle.std.specs.List.{range_with_len}
use Rattle.std.specs.Option.{option_and_then, option_map, option_or}
use Rattle.list_laws.proofs.FirstLemmas.{first_given-map, first_of_range-all, first_of_range-none, or-none}
use Rattle.track_types.specs.Frame.{periods_of}
use Rattle.track_types.specs.PartsForm.{IsShaped}
use Rattle.track_types.specs.declared.parts.Parts.{Parts}
use Rattle.rule_store.specs.View.{RulesView, symbols_in}
use Rattle.rule_store.specs.Flaws.{code_flaw, rule_flaw, rules_flaw, symbol_flaw}
use Rattle.rule_store.specs.declared.fault.RuleFault.TheVariants as fault
use Rattle.snapshots.specs.Flaws.{flaw_of, IsShapedView}
use Rattle.snapshots.specs.JoinFlaws.{join_flaw, logs_flaw}
use Rattle.snapshots.specs.Parts.{rules_in, snapshot_in, start_in}
use Rattle.snapshots.specs.SoundParts.{IsSound, IsValid}
use Rattle.snapshots.specs.Stores.{snapshots_in}
use Rattle.snapshots.proofs.NoFlawLemmas.{logs_flaw-sound, rules_flaw-sound}
use Rattle.snapshots.proofs.SoundLemmas.{flaw_of-none}
use Rattle.snapshots.proofs.SoundPartsLemmas.{AreSoundLogs-flawless, AreSoundRules-flawless}
use Rattle.track_index.specs.CheckFlaws.{check_flaw, grammar_flaw, rule_flaw_of, snapshots_flaw, total_flaw}
use Rattle.track_index.proofs.OpeningLemmas.{check_flaw-judged, start_in-all, total_flaw-none, total_flaw-some, AreShaped-periods, AreShaped-rules}
use Rattle.track_index.proofs.PeriodLemmas.{IsShapedView-at}

-- each fault of the rules is a flaw of the parts
grammar_flaw-none : (rules : RulesView) → grammar_flaw rules ≡ None → rules_flaw rules ≡ None
unfolding grammar_flaw
grammar_flaw-none rules none =
    by_flaws (code_flaw rules.height rules.alphabet) (rule_flaw rules) (symbol_flaw (symbols_in rules) rules.symbols)
    none
  where
    by_flaws : (code rule symbol : Option ℕ)
        → option_and_then rule_flaw_of (option_or (option_map fault.Code code)
        (option_or (option_map fault.Rule rule) (option_map fault.Symbol symbol))) ≡ None
        → option_or (option_map fault.Code code)
        (option_or (option_map fault.Rule rule) (option_map fault.Symbol symbol)) ≡ None
    by_flaws None None None none = refl
    by_flaws None None (Some place) none = absurd (cc)
    by_flaws None (Some place) symbol none = absurd (cc)
    by_flaws (Some place) rule symbol none = absurd (cc)

module _ (parts : Parts) (shaped : IsShaped parts) where
  -- the snapshots of shaped parts are shaped once the lengths add up
  shaped_at : total_flaw parts ≡ None → (number : ℕ) → number < periods_of parts.frame
      → IsShapedView (snapshot_in parts number)
  unfolding start_in
  shaped_at none number within =
      IsShapedView-at parts.frame (length parts.objects) parts.periods number (AreShaped-periods parts shaped none)
      (omega (arith, within, shaped.periods))

  -- parts without a flaw are sound
  pub IsSound-unflawed : check_flaw parts ≡ None → IsSound parts
  unfolding check_flaw snapshots_flaw logs_flaw
  IsSound-unflawed none =
      let first = or-none (grammar_flaw (rules_in parts)) _ none in
      let second = or-none (total_flaw parts) _ first.1 in
      let third = or-none (snapshots_flaw (snapshots_in parts)) (logs_flaw parts) second.1 in
      let flawless = sym (first_given-map flaw_of (snapshot_in parts) (range_with_len 0 (periods_of parts.frame)))
      ∙ third.0 in
      record {
        rules = AreSoundRules-flawless (rules_in parts) (record {
          shaped = AreShaped-rules parts shaped;
          flawless = grammar_flaw-none (rules_in parts) first.0;
        });
        total = start_in-all parts shaped ∙ total_flaw-none parts second.0;
        periods = λ number within. (flaw_of-none (snapshot_in parts number) (shaped_at second.0 number within)).0
            (first_of_range-all _ 0 (periods_of parts.frame) flawless number (omega arith) (omega arith));
        logs = λ number within. AreSoundLogs-flawless (rules_in parts) (snapshot_in parts number)
            (first_of_range-all (join_flaw parts) 0 (periods_of parts.frame) third.1 number (omega arith) (omega arith));
      }

  -- sound parts have no flaw
  pub check_flaw-sound : IsSound parts → check_flaw parts ≡ None
  unfolding grammar_flaw snapshots_flaw
  check_flaw-sound sound =
      let total = total_flaw-some parts (sym (start_in-all parts shaped) ∙ sound.total) in
      check_flaw-judged parts (rw (rules_flaw-sound (rules_in parts) sound.rules) refl) total
      (first_given-map flaw_of (snapshot_in parts) (range_with_len 0 (periods_of parts.frame))
      ∙ first_of_range-none _ 0 (periods_of parts.frame) (λ number low within.
      (flaw_of-none (snapshot_in parts number) (shaped_at total number (omega arith))).1
      (sound.periods number (omega arith)))) (logs_flaw-sound parts sound.logs)

-- the parts of an index have no flaw
pub check_flaw_valid : (parts : Parts) → IsValid parts → check_flaw parts ≡ None
check_flaw_valid parts valid = check_flaw-sound parts valid.shaped valid.sound

-- nor have their rules, their total and their snapshots
pub unflawed-valid : (parts : Parts) → IsValid parts → (grammar_flaw (rules_in parts) ≡ None) × (total_flaw parts ≡ None)
    × (snapshots_flaw (snapshots_in parts) ≡ None)
unfolding check_flaw
unflawed-valid parts valid =
    let first = or-none (grammar_flaw (rules_in parts)) _ (check_flaw_valid parts valid) in
    let second = or-none (total_flaw parts) _ first.1 in
    (first.0, second.0, (or-none (snapshots_flaw (snapshots_in parts)) (logs_flaw parts) second.1).0)
