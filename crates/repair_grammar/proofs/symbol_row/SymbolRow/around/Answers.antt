use Rattle.std.proofs.Common.{◌≡◌, ℕ, ◌<◌, List, get_or, arith, sym, ◌∙◌}
use Rattle.std.proofs.lemmas.List.{get_or_default}
use Rattle.repair_grammar.specs.Threads.{at, AreNeighbours}
use Rattle.repair_grammar.proofs.ThreadLemmas.{neighbour_back, neighbour_on, not_first, not_last, read_is}
use Rattle.repair_grammar.proofs.symbol_row.SymbolRow.around.Goals as goal
use Rattle.repair_grammar.specs.declared.symbol_row.TheConstants.{END}

pub returns : goal.returns
returns c =
    let symbols : List ℕ = c.args.self.now.symbols.items in
    let next : List ℕ = c.args.self.now.next.items in
    let previous : List ℕ = c.args.self.now.previous.items in
    let left : AreNeighbours symbols c.index.result.now c.args.place =
    neighbour_back symbols next previous c.args.place c.index.result.now c.requires.row.threads
    (not_first symbols c.args.place c.requires.row.ends c.requires.stands) c.requires.inside
    (omega (arith, c.requires.stands)) c.index.ensures in
    let near : AreNeighbours symbols c.args.place c.index-2.result.now =
    neighbour_on symbols next previous c.args.place c.index-2.result.now c.requires.row.threads
    (not_last symbols c.args.place c.requires.row.ends c.requires.inside c.requires.stands)
    (omega (arith, c.requires.stands)) c.index-2.ensures in
    let same : get_or next c.args.place 0 ≡ c.index-2.result.now =
    get_or_default next c.args.place 0 c.index-2.result.now
    (omega (arith, c.requires.row.threads.nexts, c.requires.inside))
    ∙ sym c.index-2.ensures in
    let gone : at symbols c.index-2.result.now < END = rw same at c.requires.gone in
    let beyond : AreNeighbours symbols c.index-2.result.now c.index-3.result.now =
    neighbour_on symbols next previous c.index-2.result.now c.index-3.result.now c.requires.row.threads
    (not_last symbols c.index-2.result.now c.requires.row.ends near.within gone)
    near.right_stands c.index-3.ensures in
    record {
      left_near = left;
      near = near;
      next_near = beyond;
      before_is = read_is symbols c.index.result.now c.index-4.result.now
          (omega (arith, left.before, left.within)) c.index-4.ensures;
      after_is = read_is symbols c.index-3.result.now c.index-5.result.now beyond.within c.index-5.ensures;
    }
