use Rattle.std.proofs.Common.{arith}
use Rattle.std.proofs.lemmas.Int.{ints}
use Rattle.rule_store.specs.Log.{log_of}
use Rattle.log_cursor.proofs.FirstLemmas.{first-early, first-none, first-read}
use Rattle.log_cursor.proofs.descent.Descent.first_symbol.Goals as goal
use Rattle.log_cursor.proofs.descent.Descent.first_symbol.Goals.{then-instant-start-via-then-instant-start, then-instant-start-via-else-instant-start+then-len-eq0}

pub returns-clause-value : goal.returns-clause-value
returns-clause-value g c =
    first-read (log_of c.args.view) c.args.start c.args.instant c.args.view.rules.now c.entry.result (omega (arith, ints))
    (omega arith) c.entry.ensures.value

pub returns-then-instant-start-clause-value : goal.returns-then-instant-start-clause-value
returns-then-instant-start-clause-value g c = elim c.then-instant-start.branch [
  | then-instant-start-via-then-instant-start w ↦
      first-early (log_of c.args.view) c.args.start c.args.instant (omega (arith, ints, w.if-instant-start))
  | then-instant-start-via-else-instant-start+then-len-eq0 w ↦
      first-none (log_of c.args.view) c.args.start c.args.instant (omega (arith, ints, w.if-instant-start))
      (omega (arith, w.len.ensures, w.if-len-eq0))
]
