use Rattle.std.proofs.Common.{◌≡◌, ℕ, List, arith, sym, ◌∙◌}
use Rattle.repair_grammar.specs.Threads.{at, AreNeighbours}
use Rattle.repair_grammar.proofs.ThreadLemmas.{neighbour_on, not_last, read_is, run_on, run_on_end}
use Rattle.repair_grammar.proofs.symbol_row.SymbolRow.is_odd_from.Goals as goal

pub run-preserved : goal.run-preserved
run-preserved c =
    let symbols : List ℕ = c.args.self.now.symbols.items in
    let is : at symbols c.run.here ≡ c.args.symbol =
    read_is symbols c.run.here c.index.result.now c.run.invariant.within c.index.ensures ∙ c.run-test.true in
    let near : AreNeighbours symbols c.run.here c.index-in-run.result.now =
    neighbour_on _ c.args.self.now.next.items c.args.self.now.previous.items _ _ c.requires.row.threads
    (not_last symbols c.run.here c.requires.row.ends c.run.invariant.within (omega (arith, is, c.requires.plain)))
    c.run.invariant.stands c.index-in-run.ensures in
    record {
      stands = near.right_stands;
      within = near.within;
      left = run_on symbols c.args.symbol c.run.here c.index-in-run.result.now c.run.odd _ near is
          c.run.invariant.left;
    }

pub run-smaller : goal.run-smaller
run-smaller c =
    let symbols : List ℕ = c.args.self.now.symbols.items in
    let is : at symbols c.run.here ≡ c.args.symbol =
    read_is symbols c.run.here c.index.result.now c.run.invariant.within c.index.ensures ∙ c.run-test.true in
    let near : AreNeighbours symbols c.run.here c.index-in-run.result.now =
    neighbour_on _ c.args.self.now.next.items c.args.self.now.previous.items _ _ c.requires.row.threads
    (not_last symbols c.run.here c.requires.row.ends c.run.invariant.within (omega (arith, is, c.requires.plain)))
    c.run.invariant.stands c.index-in-run.ensures in
    omega (arith, near.before, near.within)

pub returns : goal.returns
returns c =
    let symbols : List ℕ = c.args.self.now.symbols.items in
    let is : at symbols c.run.here ≡ c.index.result.now =
    read_is symbols c.run.here c.index.result.now c.run.invariant.within c.index.ensures in
    run_on_end symbols c.args.symbol c.run.here c.run.odd _ c.run.invariant.within c.run.invariant.stands
    (λ same. c.run-test.false (sym is ∙ same)) c.run.invariant.left
