use Rattle.std.proofs.Common.{◌≡◌, None, ap, length, refl, subst, sym, ◌∙◌}
use Rattle.rule_store.specs.Flaws.{AreRules}
use Rattle.rule_store.specs.Table.{IsWholeTable}
use Rattle.rule_store.specs.View.{rules_with}
use Rattle.rule_store.specs.declared.entry_table.EntryTable.{EntryTable}
use Rattle.track_types.specs.declared.parts.Parts.{Parts}
use Rattle.snapshots.specs.Parts.{rules_in}
use Rattle.snapshots.proofs.NoFlawLemmas.{rules_flaw-sound}
use Rattle.track_index.specs.CheckFlaws.{snapshots_flaw, snapshots_with}
use Rattle.track_index.proofs.CheckLemmas.{unflawed-valid}
use Rattle.track_index.proofs.OpeningLemmas.{snapshots_in-read, AreShaped-periods, AreShaped-rules}
use Rattle.track_index.proofs.opening.judged_valid.Goals as goal

-- what is known of the periods under the header that is kept
pub flawless_snaps-requires-clause-shaped : goal.flawless_snaps-requires-clause-shaped
flawless_snaps-requires-clause-shaped c =
    let shaped = AreShaped-periods c.args.parts c.requires.valid.shaped (unflawed-valid c.args.parts c.requires.valid).1 in
    rw (c.in_ok-header.ensures, c.as_slice.ensures) shaped

pub flawless_snaps-requires-clause-flawless : goal.flawless_snaps-requires-clause-flawless
flawless_snaps-requires-clause-flawless c =
    let none : snapshots_flaw (snapshots_with c.args.parts.frame (length c.as_slice.result.now) c.args.parts.periods) ≡ None =
    ap snapshots_flaw (snapshots_in-read c.args.parts c.as_slice.result.now c.as_slice.ensures)
    ∙ (unflawed-valid c.args.parts c.requires.valid).2 in
    rw c.in_ok-header.ensures none

-- the height and the period are those of the table
ruled : (table : EntryTable) (parts : Parts) → IsWholeTable (rules_in parts) table
    → rules_with parts.alphabet parts.rules parts.symbols table.height table.period ≡ rules_in parts
ruled table parts whole =
    ap (λ height. rules_with parts.alphabet parts.rules parts.symbols height table.period) whole.known.height
    ∙ ap (rules_with parts.alphabet parts.rules parts.symbols parts.frame.height) whole.known.period

pub of_table-requires-clause-rules : goal.of_table-requires-clause-rules
of_table-requires-clause-rules c =
    subst AreRules (sym (ruled c.args.table c.args.parts c.requires.table)) (record {
      shaped = AreShaped-rules c.args.parts c.requires.valid.shaped;
      flawless = rules_flaw-sound (rules_in c.args.parts) c.requires.valid.sound.rules;
    })

pub of_table-requires-clause-table : goal.of_table-requires-clause-table
of_table-requires-clause-table c =
    subst (λ rules. IsWholeTable rules c.args.table) (sym (ruled c.args.table c.args.parts c.requires.table)) c.requires.table

pub returns : goal.returns
returns c =
    let none = unflawed-valid c.args.parts c.requires.valid in
    record {
      frame_is = refl;
      objects_are = refl;
      rules_are = c.of_table.ensures ∙ ruled c.args.table c.args.parts c.requires.table;
      snaps_are = c.in_ok-snaps.ensures
          ∙ ap (λ frame. snapshots_with frame (length c.as_slice.result.now) c.args.parts.periods) c.in_ok-header.ensures
          ∙ snapshots_in-read c.args.parts c.as_slice.result.now c.as_slice.ensures;
      flawless = none.0;
      total = none.1;
      snapshots = none.2;
    }
