use Rattle.std.proofs.Common.{◌≡◌, ℕ, ◌<◌, length, List, get_or, arith, refl, sym, ◌∙◌, ap}
use Rattle.std.proofs.lemmas.Bool.{eqb-true, eq-eqb}
use Rattle.std.proofs.lemmas.List.{get_or_default}
use Rattle.repair_grammar.specs.Threads.{at, AreNeighbours}
use Rattle.repair_grammar.proofs.ThreadLemmas.{neighbour_on, not_last, read_is}
use Rattle.repair_grammar.proofs.FrontierLemmas.{stands-neighbours}
use Rattle.repair_grammar.proofs.CountedLemmas.{stands-not}
use Rattle.repair_grammar.proofs.passing.stands.Goals as goal
use Rattle.repair_grammar.proofs.passing.stands.Goals.{After-row_known-2-1}

pub returns-then-place-len-clause-no : goal.returns-then-place-len-clause-no
returns-then-place-len-clause-no c = λ no. stands-not c.args.row.now.symbols.items c.args.pair c.args.place
    (λ within is. absurd (omega (arith, within, c.if-place-len.true, c.len.ensures)))

pub returns-then-index-pair-clause-no : goal.returns-then-index-pair-clause-no
returns-then-index-pair-clause-no c = λ no. stands-not c.args.row.now.symbols.items c.args.pair c.args.place
    (λ within is. c.if-index-pair.true (sym (read_is c.args.row.now.symbols.items c.args.place c.index.result.now within
    c.index.ensures) ∙ is))

within : (c : After-row_known-2-1) → c.args.place < length c.args.row.now.symbols.items
within c = omega (arith, c.if-place-len.false, c.len.ensures)

here : (c : After-row_known-2-1) → at c.args.row.now.symbols.items c.args.place ≡ c.args.pair.0
here c = read_is c.args.row.now.symbols.items c.args.place c.index.result.now (within c) c.index.ensures
    ∙ c.if-index-pair.false

near : (c : After-row_known-2-1) → AreNeighbours c.args.row.now.symbols.items c.args.place c.index-2.result.now
near c = neighbour_on c.args.row.now.symbols.items c.args.row.now.next.items c.args.row.now.previous.items c.args.place
    c.index-2.result.now c.requires.row.threads
    (not_last c.args.row.now.symbols.items c.args.place c.requires.row.ends (within c)
    (omega (arith, here c, c.requires.plain.0))) (omega (arith, here c, c.requires.plain.0)) c.index-2.ensures

pub index-requires-3 : goal.index-requires-3
index-requires-3 c = let fact = near (goal.at.index-requires-3 c).After-row_known-2-1 in omega (arith, fact.within)

pub returns : goal.returns
returns c =
    let o = (goal.at.returns c).After-row_known-2-1 in
    let symbols : List ℕ = c.args.row.now.symbols.items in
    let next : List ℕ = c.args.row.now.next.items in
    let close : AreNeighbours symbols c.args.place c.index-2.result.now = near o in
    let there : at symbols c.index-2.result.now ≡ c.index-3.result.now =
    read_is symbols c.index-2.result.now c.index-3.result.now close.within c.index-3.ensures in
    let same : get_or next c.args.place 0 ≡ c.index-2.result.now =
    get_or_default next c.args.place 0 c.index-2.result.now
    (omega (arith, c.requires.row.threads.nexts, within o)) ∙ sym c.index-2.ensures in
    record {
      yes = λ is. (within o, here o, ap (at symbols) same ∙ there ∙ eqb-true c.index-3.result.now c.args.pair.1 is);
      no = λ is. stands-neighbours symbols c.args.pair c.args.place c.index-2.result.now close
          ∙ rw (eq-eqb (at symbols c.args.place) c.args.pair.0 (here o), there, is) refl;
    }
