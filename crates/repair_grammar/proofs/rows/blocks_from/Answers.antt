use Rattle.std.proofs.Common.{◌≡◌, ℕ, List, ltb, length, map, refl, ap, ◌∙◌, rules}
use Rattle.std.specs.List.{flat_map}
use Rattle.std.proofs.lemmas.Fn.{filter_same}
use Rattle.repair_grammar.specs.Threads.{live}
use Rattle.repair_grammar.specs.declared.symbol_row.TheConstants.{END}
use Rattle.repair_grammar.proofs.RowLemmas.{unmarked-all}
use Rattle.repair_grammar.proofs.rows.blocks_from.Goals as goal

pub returns : goal.returns
returns c = λ blocks below is.
    let row : List ℕ = c.args.row.items in
    let kept = filter_same _ (λ symbol. ltb symbol END) _ (λ x b f k. search rules) row c.retain.new.self.items
    c.retain.ensures.filtered in
    let symbols : c.new.result ≡ flat_map (λ block. block) blocks =
    c.new.ensures ∙ c.shrink_to_fit.ensures.items ∙ kept ∙ unmarked-all blocks row below is in
    let lengths : c.new-2.result ≡ map length blocks =
    c.new-2.ensures ∙ c.in_ok-lengths.ensures blocks below (ap live c.as_slice.ensures.value ∙ is) in
    rw (symbols, lengths) refl
