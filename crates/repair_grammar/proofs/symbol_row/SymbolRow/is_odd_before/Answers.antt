use Rattle.std.proofs.Common.{◌≡◌, ℕ, List, arith, sym, ◌∙◌}
use Rattle.repair_grammar.specs.Threads.{at, AreNeighbours}
use Rattle.repair_grammar.proofs.ThreadLemmas.{neighbour_back, not_first, read_is, run_back, run_back_start, run_back_end}
use Rattle.repair_grammar.proofs.symbol_row.SymbolRow.is_odd_before.Goals as goal

pub run-init : goal.run-init
run-init c =
    let near : AreNeighbours c.args.self.now.symbols.items c.index.result.now c.args.place =
    neighbour_back _ c.args.self.now.next.items c.args.self.now.previous.items _ _ c.requires.row.threads c.requires.inside.0
    c.requires.inside.1 c.requires.stands c.index.ensures in
    record {
      stands = near.left_stands;
      within = omega (arith, near.before, near.within);
      left = run_back_start c.args.self.now.symbols.items c.args.symbol c.index.result.now c.args.place near;
    }

pub run-preserved : goal.run-preserved
run-preserved c =
    let symbols : List ℕ = c.args.self.now.symbols.items in
    let is : at symbols c.run.before ≡ c.args.symbol =
    read_is symbols c.run.before c.index-in-run.result.now c.run.invariant.within c.index-in-run.ensures
    ∙ c.run-test.true in
    let near : AreNeighbours symbols c.index-in-run-2.result.now c.run.before =
    neighbour_back _ c.args.self.now.next.items c.args.self.now.previous.items _ _ c.requires.row.threads
    (not_first symbols c.run.before c.requires.row.ends (omega (arith, is, c.requires.plain)))
    c.run.invariant.within c.run.invariant.stands c.index-in-run-2.ensures in
    record {
      stands = near.left_stands;
      within = omega (arith, near.before, near.within);
      left = run_back symbols c.args.symbol c.index-in-run-2.result.now c.run.before c.run.odd _ near is
          c.run.invariant.left;
    }

pub returns : goal.returns
returns c =
    let symbols : List ℕ = c.args.self.now.symbols.items in
    let is : at symbols c.run.before ≡ c.index-in-run.result.now =
    read_is symbols c.run.before c.index-in-run.result.now c.run.invariant.within c.index-in-run.ensures in
    run_back_end symbols c.args.symbol c.run.before c.run.odd _ c.run.invariant.within c.run.invariant.stands
    (λ same. c.run-test.false (sym is ∙ same)) c.run.invariant.left
