use Rattle.std.proofs.Common.{◌≡◌, length, None, ap, refl, subst, sym, ◌∙◌}
use Rattle.std.proofs.lemmas.Result.{err_from_is_err_and}
use Rattle.track_types.specs.Flaws.{IsFormatFaultFor}
use Rattle.track_types.specs.declared.parts.Parts.{Parts}
use Rattle.snapshots.specs.Parts.{rules_in}
use Rattle.track_index.specs.CheckFlaws.{snapshots_flaw, total_flaw, AreShapedPeriods}
use Rattle.track_index.proofs.OpeningLemmas.{fault-rules, fault-snapshots, fault-total, grammar_flaw-flawless, snapshots_in-read, total_flaw-read, AreShaped-periods}
use Rattle.track_index.proofs.opening.judged.Goals as goal
use Rattle.track_index.proofs.opening.judged.Goals.{In_ok-check_total}

pub returns-in_err-rules-clause-flaw : goal.returns-in_err-rules-clause-flaw
returns-in_err-rules-clause-flaw c =
    let known = fault-rules c.args.parts c.in_err-rules.field-0.0 c.in_err-rules.ensures.flaw in
    let given = err_from_is_err_and c.from_residual.result c.from_residual.ensures.1 in
    rw (given.1, given.2) known

pub returns-in_err-check_total-clause-flaw : goal.returns-in_err-check_total-clause-flaw
returns-in_err-check_total-clause-flaw c =
    let same = total_flaw-read c.args.parts c.in_ok-rules.rules c.as_slice.result.now c.sizes.result.2
    c.in_ok-rules.ensures.ok c.as_slice.ensures c.sizes.ensures.symbols in
    let found = c.in_err-check_total.field-0.0 in
    let flawless = grammar_flaw-flawless (rules_in c.args.parts) c.in_ok-rules.ensures.exact in
    let known = fault-total c.args.parts flawless found
    (subst (λ first. IsFormatFaultFor first found) same c.in_err-check_total.ensures.flaw) in
    let given = err_from_is_err_and c.from_residual-in_err-check_total.result
    c.from_residual-in_err-check_total.ensures.1 in
    rw (given.1, given.2) known

-- the total has no flaw
no_total : (c : In_ok-check_total) → total_flaw c.args.parts ≡ None
no_total c =
    sym (total_flaw-read c.args.parts c.in_ok-rules.rules c.as_slice.result.now c.sizes.result.2
    c.in_ok-rules.ensures.ok c.as_slice.ensures c.sizes.ensures.symbols) ∙ c.in_ok-check_total.ensures.exact

pub check_periods-requires : goal.check_periods-requires
check_periods-requires c =
    let none = no_total (goal.at.check_periods-requires c).In_ok-check_total in
    subst (λ objects. AreShapedPeriods c.args.parts.frame (length objects) c.args.parts.periods)
    (sym c.as_slice-2.ensures) (AreShaped-periods c.args.parts c.requires none)

pub returns-in_err-snaps-clause-flaw : goal.returns-in_err-snaps-clause-flaw
returns-in_err-snaps-clause-flaw c =
    let none = no_total (goal.at.returns-in_err-snaps-clause-flaw c).In_ok-check_total in
    let found = c.in_err-snaps.field-0.0 in
    let same = snapshots_in-read c.args.parts c.as_slice-2.result.now c.as_slice-2.ensures in
    let flawless = grammar_flaw-flawless (rules_in c.args.parts) c.in_ok-rules.ensures.exact in
    let known = fault-snapshots c.args.parts flawless none found
    (subst (λ snaps. IsFormatFaultFor (snapshots_flaw snaps) found) same c.in_err-snaps.ensures.flaw) in
    let given = err_from_is_err_and c.from_residual-in_err-snaps.result c.from_residual-in_err-snaps.ensures.1 in
    rw (given.1, given.2) known

pub returns-clause-judged : goal.returns-clause-judged
returns-clause-judged c =
    let parts : Parts = c.args.parts in
    let snaps = snapshots_in-read parts c.as_slice-2.result.now c.as_slice-2.ensures in
    record {
      frame_is = refl;
      objects_are = refl;
      rules_are = c.in_ok-rules.ensures.ok;
      snaps_are = c.in_ok-snaps.ensures.ok ∙ snaps;
      flawless = grammar_flaw-flawless (rules_in parts) c.in_ok-rules.ensures.exact;
      total = no_total (goal.at.returns-clause-judged c).In_ok-check_total;
      snapshots = ap snapshots_flaw (sym snaps) ∙ c.in_ok-snaps.ensures.exact;
    }
