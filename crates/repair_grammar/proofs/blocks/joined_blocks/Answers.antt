use Rattle.std.proofs.Common.{◌≡◌, ◌∙◌, List, ℕ, ap, arith, length, map, refl, take}
use Rattle.std.specs.List.{flat_map}
use Rattle.std.proofs.lemmas.Grind.{common_steps}
use Rattle.std.proofs.lemmas.List.{take_all}
use Rattle.repair_grammar.proofs.blocks.joined_blocks.Goals as goal

pub loop-block-preserved : goal.loop-block-preserved
loop-block-preserved c = record { symbols = grind (arith, common_steps); lengths = grind (arith, common_steps) }

pub returns : goal.returns
returns c =
    let blocks : List (List ℕ) = c.args.blocks.now in
    let whole : take c.loop-block.block-index blocks ≡ blocks =
    take_all c.loop-block.block-index blocks (omega (arith, c.loop-block-test.false)) in
    let symbols : c.new.result ≡ flat_map (λ block. block) blocks =
    c.new.ensures ∙ c.loop-block.invariant.symbols ∙ ap (flat_map (λ block. block)) whole in
    let lengths : c.new-2.result ≡ map length blocks =
    c.new-2.ensures ∙ c.loop-block.invariant.lengths ∙ ap (map length) whole in
    rw (symbols, lengths) refl
