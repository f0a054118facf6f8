use Rattle.std.proofs.Common.{◌≡◌, [], ◌∷◌, ◌+◌, ◌<◌, ◌≤ℤ◌, ◌<ℤ◌, IsTrue, length, subst, sym, ap, ◌∙◌, arith, rules}
use Rattle.std.proofs.lemmas.Int.{ints}
use Rattle.rule_store.specs.Flaws.{AreRules}
use Rattle.rule_store.specs.View.{RulesView}
use Rattle.rule_store.specs.Expansion.{depth_of}
use Rattle.rule_store.specs.Log.{log_of, stops_after}
use Rattle.step_count.specs.Reads.{ofRule, ofSymbol}
use Rattle.log_cursor.specs.Seek.{cell_among}
use Rattle.log_cursor.specs.Touching.{holding_rule}
use Rattle.log_cursor.specs.declared.start.Start.{Start}
use Rattle.log_cursor.proofs.NeedsLemmas.{symbol-among}
use Rattle.log_cursor.proofs.StopLemmas.{word}
use Rattle.log_cursor.proofs.RuleLemmas.{depth_of-deepest}
use Rattle.log_cursor.proofs.SeekLemmas.{IsReading, cell_among-anchor, cell_among-early, seeking-entry, seeking-first, seeking-found, seeking-known, seeking-last, seeking-next, seeking-opens, seeking-start, seeking-way}
use Rattle.log_cursor.proofs.WayLemmas.{IsWayOf-placed, length-log_of}
use Rattle.log_cursor.proofs.seeking.seek.Given.{Over}
use Rattle.log_cursor.proofs.seeking.seek.Goals as goal
use Rattle.log_cursor.proofs.seeking.seek.Goals.{After-entry-entry}

pub returns-then-instant-start-2-clause-value : goal.returns-then-instant-start-2-clause-value
returns-then-instant-start-2-clause-value g c =
    sym (cell_among-anchor c.args.view.rules.now c.args.instant c.args.start (log_of c.args.view) (omega (arith, ints)))

pub returns-else-instant-start-2-clause-value : goal.returns-else-instant-start-2-clause-value
returns-else-instant-start-2-clause-value g c =
    sym (cell_among-early c.args.view.rules.now c.args.instant c.args.start (log_of c.args.view) (omega (arith, ints)))

pub loop-i-init : goal.loop-i-init
loop-i-init g c =
    let rules = c.args.view.rules.now in
    let sound : AreRules rules = subst AreRules c.rules-rules.ensures c.sizes.ensures.sound in
    let late : c.args.start.instant <ℤ word c.args.instant = omega (arith, ints, c.if-instant-start.false) in
    seeking-first rules (log_of c.args.view) c.args.start (word c.args.instant) c.args.steps.now
    (IsWayOf-placed rules c.args.start (log_of c.args.view) sound (length-log_of c.args.view sound) c.requires.placed) late

-- the symbol that was read
reading : (g : Over) (c : After-entry-entry g) → IsReading c.args.view.rules.now (log_of c.args.view) c.args.start
    (word c.args.instant) c.args.steps.now c.loop-i.i c.loop-i.at c.entry-entry.result c.entry-entry.new.steps
reading g c = record {
  steps = c.loop-i.steps;
  seeking = c.loop-i.invariant;
  within = omega (arith, c.len-i-end.ensures, c.loop-i-test.true);
  is = c.entry-entry.ensures.value;
  known = c.entry-entry.ensures.within;
  read = omega (arith, c.entry-entry.ensures.cost);
}

pub after-next-requires : goal.after-next-requires
after-next-requires g c = seeking-start (reading g (goal.at.after-next-requires g c).After-entry-entry)

pub cell_within-requires : goal.cell_within-requires
cell_within-requires g c =
    let its = reading g (goal.at.cell_within-requires g c).After-entry-entry in
    let leads = ap (λ (s : Start). s.instant) c.after-next.ensures in
    let kept : word c.args.instant ≡ c.args.instant = omega (arith, ints) in
    let log = log_of c.args.view in
    rw c.rules-rules.ensures (record {
      rules = subst AreRules c.rules-rules.ensures c.sizes.ensures.sound;
      known = seeking-known its;
      entry = seeking-entry its;
      way = seeking-way its;
      after = c.loop-i.invariant.after;
      within = omega (arith, ints, leads, c.if-instant-next.true);
      may = λ rule holds. c.requires.may (ofRule rule) (subst (λ z. IsTrue (holding_rule c.args.view.rules.now c.args.start log z rule))
          kept (seeking-opens its rule holds));
    })

pub returns-then-instant-next-clause-value : goal.returns-then-instant-next-clause-value
returns-then-instant-next-clause-value g c =
    let its = reading g (goal.at.returns-then-instant-next-clause-value g c).After-entry-entry in
    let kept : word c.args.instant ≡ c.args.instant = omega (arith, ints) in
    let reached : word c.args.instant ≤ℤ c.after-next.result.instant = omega (arith, ints, c.if-instant-next.true) in
    rw kept at (c.cell_within.ensures.value
    ∙ ap (λ (r : RulesView). cell_among (stops_after r c.loop-i.at.instant c.loop-i.at.cell
    (c.entry-entry.result.symbol ∷ [])) (word c.args.instant)) c.rules-rules.ensures
    ∙ seeking-found its c.after-next.ensures reached)

pub returns-then-instant-next-clause-cost : goal.returns-then-instant-next-clause-cost
returns-then-instant-next-clause-cost g c =
    let within : c.loop-i.i < length (log_of c.args.view) = omega (arith, c.len-i-end.ensures, c.loop-i-test.true) in
    let deep = depth_of-deepest c.args.view.rules.now c.entry-entry.result.symbol in
    let same = ap (λ (r : RulesView). depth_of r c.entry-entry.result.symbol) c.rules-rules.ensures in
    omega (
      arith,
      within,
      deep,
      same,
      c.cell_within.ensures.cost,
      c.entry-entry.ensures.cost,
      c.loop-i.invariant.cost,
    )

pub loop-i-preserved : goal.loop-i-preserved
loop-i-preserved g c =
    let its = reading g (goal.at.loop-i-preserved g c).After-entry-entry in
    let ended : c.after-next.result.instant <ℤ word c.args.instant = omega (arith, ints, c.if-instant-next.false) in
    seeking-next its c.after-next.ensures ended

pub returns-clause-value : goal.returns-clause-value
returns-clause-value g c =
    let kept : word c.args.instant ≡ c.args.instant = omega (arith, ints) in
    rw kept at (seeking-last c.loop-i.invariant (omega (arith, c.len-i-end.ensures, c.loop-i-test.false)))

pub returns-then-instant-start-2-clause-cost : goal.returns-then-instant-start-2-clause-cost
returns-then-instant-start-2-clause-cost g c = search rules

pub returns-then-instant-start-2-clause-early : goal.returns-then-instant-start-2-clause-early
returns-then-instant-start-2-clause-early g c = search rules

pub returns-else-instant-start-2-clause-cost : goal.returns-else-instant-start-2-clause-cost
returns-else-instant-start-2-clause-cost g c = search rules

pub returns-else-instant-start-2-clause-early : goal.returns-else-instant-start-2-clause-early
returns-else-instant-start-2-clause-early g c = search rules

pub entry-entry-requires-clause-within : goal.entry-entry-requires-clause-within
entry-entry-requires-clause-within g c = search rules

pub entry-entry-requires-clause-may : goal.entry-entry-requires-clause-may
entry-entry-requires-clause-may g c =
    c.requires.may (ofSymbol (c.args.view.from + c.loop-i.i))
    (symbol-among c.args.view c.loop-i.i (omega (arith, c.len-i-end.ensures, c.loop-i-test.true)))

pub returns-then-instant-next-clause-early : goal.returns-then-instant-next-clause-early
returns-then-instant-next-clause-early g c = search rules

pub returns-clause-cost : goal.returns-clause-cost
returns-clause-cost g c = search rules

pub returns-clause-early : goal.returns-clause-early
returns-clause-early g c = search rules
