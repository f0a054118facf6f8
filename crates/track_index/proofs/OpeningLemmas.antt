-- The flaws of lower crates make up those of an index, and what was checked makes up its parts.
use Rattle.std.proofs.Common.{◌≡◌, ℕ, ◌≤◌, eqb, true, List, length, map, Ok, Option, None, inl, inr, refl, ap, subst, sym, ◌∙◌, arith}
use Rattle.std.specs.List.{range_with_len, sum_by}
use Rattle.std.specs.Option.{option_and_then, option_or}
use Rattle.std.proofs.lemmas.Bool.{cases_Bool, eq-eqb, eqb-true}
use Rattle.std.proofs.lemmas.List.{ext_get_or, take_all}
use Rattle.std.proofs.lemmas.List.FromFn.{get_or-map-range_with_len, length-map-range_with_len}
use Rattle.std.proofs.lemmas.Simd.{map-map}
use Rattle.track_types.specs.Flaws.{IsFormatFaultFor}
use Rattle.track_types.specs.Frame.{periods_of}
use Rattle.track_types.specs.Limits.{limit_of}
use Rattle.track_types.specs.declared.limit.LimitKind.TheVariants.{Symbols}
use Rattle.track_types.specs.PartsForm.{IsShaped}
use Rattle.track_types.specs.declared.parts.Parts.{Parts}
use Rattle.track_types.specs.declared.period_parts.PeriodParts.{PeriodParts}
use Rattle.rule_store.specs.Flaws.{format_fault_of_rules, rules_flaw, IsRuleFaultFor}
use Rattle.rule_store.specs.View.{RulesView, AreShapedRules}
use Rattle.rule_store.specs.declared.fault.RuleFault.{RuleFault}
use Rattle.rule_store.specs.declared.fault.RuleFault.TheVariants as rule_fault
use Rattle.snapshots.specs.View.{SnapshotView}
use Rattle.snapshots.specs.JoinFlaws.{logs_flaw}
use Rattle.snapshots.specs.Parts.{no_period, period_at, rules_in, snapshot_in, start_in, symbols_of}
use Rattle.snapshots.specs.Stores.{join_of, period_parts_of, snapshots_in, AreOf}
use Rattle.track_types.specs.declared.format_fault.FormatFault.{FormatFault}
use Rattle.track_types.specs.declared.format_fault.FormatFault.TheVariants as fault
use Rattle.track_types.specs.declared.flaw.Flaw.{Flaw}
use Rattle.snapshots.specs.IndexCost.{open_cost}
use Rattle.index_format.specs.Answers.{IsFormatFault}
use Rattle.index_file.specs.File.{parts_in}
use Rattle.track_index.specs.Opening.{bytes_cost, cost_after, first_flaw, flaw_after}
use Rattle.track_index.specs.Judged.{AreJudged}
use Rattle.track_index.specs.declared.opening.JudgedParts.{JudgedParts}
use Rattle.track_index.specs.CheckFlaws.{check_flaw, grammar_flaw, lengths_flaw, rule_flaw_of, snapshots_flaw, snapshots_with, total_flaw, AreShapedPeriods}

-- the fault of the first of two
fault-first : (a b : Option Flaw) (found : FormatFault) → IsFormatFaultFor a found → IsFormatFaultFor (option_or a b) found
fault-first a b fault.Memory is = is
fault-first a b (fault.Flaw flaw) is = rw is refl

-- the fault of the second of two, where the first is none
fault-second : (a b : Option Flaw) (found : FormatFault) → a ≡ None → IsFormatFaultFor b found
    → IsFormatFaultFor (option_or a b) found
fault-second a b found none is = rw none is

-- the fault of rules is that of their flaw in an index
fault-of_rule : (first : Option RuleFault) (found : RuleFault) → IsRuleFaultFor first found
    → IsFormatFaultFor (option_and_then rule_flaw_of first) (format_fault_of_rules found)
fault-of_rule first (rule_fault.Code index) is = rw is refl
fault-of_rule first (rule_fault.Rule rule) is = rw is refl
fault-of_rule first (rule_fault.Symbol index) is = rw is refl
fault-of_rule first rule_fault.Memory is = is

-- rules without a flaw have none in an index
pub grammar_flaw-flawless : (rules : RulesView) → rules_flaw rules ≡ None → grammar_flaw rules ≡ None
unfolding grammar_flaw
grammar_flaw-flawless rules none = rw none refl

module _ (parts : Parts) where
  -- the fault of parts by where it is met: in the rules, in the total, in a snapshot, in a log
  pub fault-rules : (found : RuleFault) → IsRuleFaultFor (rules_flaw (rules_in parts)) found
      → IsFormatFaultFor (check_flaw parts) (format_fault_of_rules found)
  unfolding check_flaw grammar_flaw
  fault-rules found is =
      fault-first (grammar_flaw (rules_in parts)) _ (format_fault_of_rules found) (fault-of_rule _ found is)

  module _ (rules : grammar_flaw (rules_in parts) ≡ None) where
    pub fault-total : (found : FormatFault) → IsFormatFaultFor (total_flaw parts) found → IsFormatFaultFor (check_flaw parts) found
    unfolding check_flaw
    fault-total found is =
        fault-second (grammar_flaw (rules_in parts)) _ found rules (fault-first (total_flaw parts) _ found is)

    module _ (total : total_flaw parts ≡ None) where
      pub fault-snapshots : (found : FormatFault) → IsFormatFaultFor (snapshots_flaw (snapshots_in parts)) found
          → IsFormatFaultFor (check_flaw parts) found
      unfolding check_flaw
      fault-snapshots found is =
          fault-second (grammar_flaw (rules_in parts)) _ found rules (fault-second (total_flaw parts) _ found total
          (fault-first (snapshots_flaw (snapshots_in parts)) _ found is))

      module _ (snaps : snapshots_flaw (snapshots_in parts) ≡ None) where
        pub fault-logs : (found : FormatFault) → IsFormatFaultFor (logs_flaw parts) found
            → IsFormatFaultFor (check_flaw parts) found
        unfolding check_flaw
        fault-logs found is =
            fault-second (grammar_flaw (rules_in parts)) _ found rules (fault-second (total_flaw parts) _ found total
            (fault-second (snapshots_flaw (snapshots_in parts)) _ found snaps is))

        pub check_flaw-judged : logs_flaw parts ≡ None → check_flaw parts ≡ None
        unfolding check_flaw
        check_flaw-judged logs = rw (rules, total, snaps) logs

-- the lengths add up where the total has no flaw
pub total_flaw-none : (parts : Parts) → total_flaw parts ≡ None → sum_by symbols_of parts.periods ≡ length parts.symbols
unfolding lengths_flaw
total_flaw-none parts none = elim (cases_Bool (eqb (sum_by symbols_of parts.periods) (length parts.symbols))) [
  | inl same ↦ eqb-true _ _ same
  | inr apart ↦ absurd (let some = rw apart at none in cc)
]

-- and only there
pub total_flaw-some : (parts : Parts) → sum_by symbols_of parts.periods ≡ length parts.symbols → total_flaw parts ≡ None
unfolding lengths_flaw
total_flaw-some parts adds =
    let same : eqb (sum_by symbols_of parts.periods) (length parts.symbols) ≡ true = eq-eqb _ _ adds in rw same refl

module _ (parts : Parts) (shaped : IsShaped parts) where
  -- rules with the form of an index's
  pub AreShaped-rules : AreShapedRules (rules_in parts)
  AreShaped-rules = record {
    ascending = shaped.alphabet;
    alphabet_fits = shaped.few_values;
    rules_fit = shaped.few_rules;
    symbols_fit = shaped.few_symbols;
    high = shaped.header.some;
    height_fits = shaped.header.limit;
    period_fits = shaped.header.periods;
  }

  -- periods with the form of an index's, once the lengths add up
  pub AreShaped-periods : total_flaw parts ≡ None → AreShapedPeriods parts.frame (length parts.objects) parts.periods
  AreShaped-periods none =
      let few : length parts.symbols ≤ limit_of Symbols = shaped.few_symbols in
      record {
        header = shaped.header;
        some = shaped.some;
        few = shaped.few;
        many = shaped.periods;
        each = shaped.each;
        total = omega (arith, total_flaw-none parts none, few);
      }

  -- all logs end where the lengths of all periods add up to
  pub start_in-all : start_in parts (periods_of parts.frame) ≡ sum_by symbols_of parts.periods
  unfolding start_in
  start_in-all =
      ap (sum_by symbols_of) (take_all (periods_of parts.frame) parts.periods (omega (arith, shaped.periods)))

  -- the parts of all snapshots are those of the periods
  periods-again : map period_parts_of (snapshots_in parts) ≡ parts.periods
  periods-again =
      let long = length-map-range_with_len (period_at parts.periods) 0 (periods_of parts.frame) in
      map-map period_parts_of (snapshot_in parts) (range_with_len 0 (periods_of parts.frame))
      ∙ ext_get_or no_period _ parts.periods (omega (arith, long, shaped.periods)) (λ i below.
      get_or-map-range_with_len (period_at parts.periods) 0 (periods_of parts.frame) i i no_period
      (omega (arith, long, below)) (omega arith))

  module _ (rules : RulesView) (snaps : List SnapshotView) (rules_are : rules ≡ rules_in parts)
      (snaps_are : snaps ≡ snapshots_in parts) where
    -- what was checked makes up the parts
    pub join_of-parts : join_of parts.frame parts.objects rules snaps ≡ parts
    join_of-parts =
        ap (λ r. join_of parts.frame parts.objects r snaps) rules_are
        ∙ ap (join_of parts.frame parts.objects (rules_in parts)) snaps_are
        ∙ ap (λ (periods : _). record {
          frame = parts.frame;
          objects = parts.objects;
          alphabet = parts.alphabet;
          rules = parts.rules;
          periods = periods;
          symbols = parts.symbols;
        }) periods-again

    pub AreOf-parts : total_flaw parts ≡ None → AreOf parts rules snaps
    AreOf-parts none = record {
      shaped = shaped;
      rules_are = rules_are;
      snaps_are = snaps_are;
      total = start_in-all ∙ total_flaw-none parts none;
    }

-- what was judged of the lengths and of the periods is what the parts have
pub total_flaw-read : (parts : Parts) (rules : RulesView) (periods : List PeriodParts) (many : ℕ)
    → rules ≡ rules_in parts → periods ≡ parts.periods → many ≡ length rules.symbols
    → lengths_flaw parts.frame periods many ≡ total_flaw parts
total_flaw-read parts rules periods many rules_are same is =
    let symbols = is ∙ ap (λ (r : RulesView). length r.symbols) rules_are in rw (same, symbols) refl

pub snapshots_in-read : (parts : Parts) (objects : List ℕ) → objects ≡ parts.objects
    → snapshots_with parts.frame (length objects) parts.periods ≡ snapshots_in parts
unfolding start_in
snapshots_in-read parts objects same = rw same refl

module _ (parts : Parts) (shaped : IsShaped parts) (judged : JudgedParts) (are : AreJudged parts judged) where
  -- what is joined are the parts
  pub joined-parts : join_of judged.frame judged.objects judged.rules judged.snaps.items ≡ parts
  joined-parts =
      ap (λ frame. join_of frame judged.objects judged.rules judged.snaps.items) are.frame_is
      ∙ ap (λ objects. join_of parts.frame objects judged.rules judged.snaps.items) are.objects_are
      ∙ join_of-parts parts shaped judged.rules judged.snaps.items are.rules_are are.snaps_are

  pub AreOf-joined : AreOf (join_of judged.frame judged.objects judged.rules judged.snaps.items) judged.rules judged.snaps.items
  AreOf-joined = subst (λ p. AreOf p judged.rules judged.snaps.items) (sym joined-parts)
      (AreOf-parts parts shaped judged.rules judged.snaps.items are.rules_are are.snaps_are are.total)

  -- the fault of its logs is that of the parts
  pub fault-joined : (found : FormatFault)
      → IsFormatFaultFor (logs_flaw (join_of judged.frame judged.objects judged.rules judged.snaps.items)) found
      → IsFormatFaultFor (check_flaw parts) found
  fault-joined found is = fault-logs parts are.flawless are.total are.snapshots found
      (subst (λ p. IsFormatFaultFor (logs_flaw p) found) joined-parts is)

  pub check_flaw-joined : logs_flaw (join_of judged.frame judged.objects judged.rules judged.snaps.items) ≡ None → check_flaw parts ≡ None
  check_flaw-joined none = check_flaw-judged parts are.flawless are.total are.snapshots
      (ap logs_flaw (sym joined-parts) ∙ none)

-- bytes from which no parts are read
pub fault-unread : (bytes : List ℕ) (found : FormatFault) → IsFormatFault (parts_in bytes) found
    → IsFormatFaultFor (first_flaw bytes) found
unfolding flaw_after
fault-unread bytes fault.Memory is = tt
fault-unread bytes (fault.Flaw flaw) is = rw is refl

module _ (bytes : List ℕ) (parts : Parts) (read : parts_in bytes ≡ Ok parts) where
  -- bytes from which parts are read have the flaw of these, and cost what these cost
  pub first_flaw-read : first_flaw bytes ≡ check_flaw parts
  unfolding flaw_after
  first_flaw-read = rw read refl

  pub bytes_cost-read : bytes_cost bytes ≡ open_cost parts
  unfolding cost_after
  bytes_cost-read = rw read refl
