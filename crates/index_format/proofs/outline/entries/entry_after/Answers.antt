use Rattle.std.proofs.Common.{◌≡◌, arith, sym, ◌∙◌, ap, true, false, subst, Ok}
use mathlib.Core.Bool.{false≢true}
use Rattle.index_format.specs.OutlineBlocks.{is_in_grid, stays_in}
use Rattle.rule_store.specs.Cells.{moved}
use Rattle.index_format.proofs.EntryLemmas.{log_after-unknown, log_after-known, log_past-out, log_past-long, log_past-fits, entry-inside}
use Rattle.index_format.proofs.outline.entries.entry_after.Goals as goal

pub returns-then-symbol-ground-clause-exact : goal.returns-then-symbol-ground-clause-exact
returns-then-symbol-ground-clause-exact c view whole =
    sym (log_after-unknown c.args.ground.frame.height view c.args.log.at c.args.symbol (omega (arith, c.if-symbol-ground.true, c.args.ground.all, whole.all)))

pub returns-then-not-stays_in-clause-exact : goal.returns-then-not-stays_in-clause-exact
returns-then-not-stays_in-clause-exact c view whole =
    let height = c.args.ground.frame.height in
    let entry = c.entry-entry.result in
    let known = log_after-known height view c.args.log.at c.args.symbol entry (c.entry-entry.ensures.value view whole.known)
    (omega (arith, c.if-symbol-ground.false, c.args.ground.all, whole.all)) in
    let out : stays_in height c.args.log.at.cell entry.hull ≡ false = grind (arith, c.stays_in.ensures, c.if-not-stays_in.true) in
    sym (known ∙ log_past-out height c.args.log.at entry out)

pub returns-then-entry-log-clause-exact : goal.returns-then-entry-log-clause-exact
returns-then-entry-log-clause-exact c view whole =
    let height = c.args.ground.frame.height in
    let entry = c.entry-entry.result in
    let known = log_after-known height view c.args.log.at c.args.symbol entry (c.entry-entry.ensures.value view whole.known)
    (omega (arith, c.if-symbol-ground.false, c.args.ground.all, whole.all)) in
    let stays : stays_in height c.args.log.at.cell entry.hull ≡ true = grind (arith, c.stays_in.ensures, c.if-not-stays_in.false) in
    sym (known ∙ log_past-long height c.args.log.at entry stays c.if-entry-log.true)

pub with-next-requires-clause-stays : goal.with-next-requires-clause-stays
with-next-requires-clause-stays c = grind (arith, c.stays_in.ensures, c.if-not-stays_in.false)

pub returns-then-not-is_in_grid-clause-exact : goal.returns-then-not-is_in_grid-clause-exact
returns-then-not-is_in_grid-clause-exact c view whole =
    let height = c.args.ground.frame.height in
    let log = c.args.log.at in
    let entry = c.entry-entry.result in
    let is = c.entry-entry.ensures.value view whole.known in
    let stays : stays_in height log.cell entry.hull ≡ true = grind (arith, c.stays_in.ensures, c.if-not-stays_in.false) in
    let there = subst (λ entry. is_in_grid height (moved log.cell (entry.dx, entry.dy)) ≡ true) (sym is)
    (entry-inside height view log.cell c.args.symbol c.requires (subst (λ entry. stays_in height log.cell entry.hull ≡ true) is stays)) in
    let out : is_in_grid height c.with-next.result.at.cell ≡ false = grind (arith, c.is_in_grid.ensures, c.if-not-is_in_grid.true) in
    absurd (false≢true (sym out ∙ rw c.with-next.ensures.at there))

pub returns-clause-exact : goal.returns-clause-exact
returns-clause-exact c view whole =
    let height = c.args.ground.frame.height in
    let entry = c.entry-entry.result in
    let known = log_after-known height view c.args.log.at c.args.symbol entry (c.entry-entry.ensures.value view whole.known)
    (omega (arith, c.if-symbol-ground.false, c.args.ground.all, whole.all)) in
    let stays : stays_in height c.args.log.at.cell entry.hull ≡ true = grind (arith, c.stays_in.ensures, c.if-not-stays_in.false) in
    ap Ok c.with-next.ensures.at ∙ sym (known ∙ log_past-fits height c.args.log.at entry stays c.if-entry-log.false)

pub returns-clause-read : goal.returns-clause-read
returns-clause-read c view start before symbols whole is =
    c.with-next.ensures.read view start before symbols c.args.symbol (c.entry-entry.ensures.value view whole.known) is
