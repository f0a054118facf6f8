use Rattle.repair_grammar.proofs.ThreadLemmas.{threads_around}
use Rattle.repair_grammar.proofs.symbol_row.SymbolRow.join_around.Goals as goal

pub returns-clause-threads : goal.returns-clause-threads
returns-clause-threads c = threads_around c.args.self.now.symbols.items c.args.self.now.next.items
    c.args.self.now.previous.items c.args.place c.args.around.left c.args.around.gone c.args.around.right c.args.symbol
    c.args.around.before c.args.around.after c.requires.threads c.requires.around c.requires.fits
