use Rattle.std.proofs.Common.{◌≡◌, ◌<◌, ℕ, List, ap, arith, length, refl, subst, sym, ◌∙◌}
use Rattle.std.proofs.lemmas.List.Sums.{get_or-le-sum_by}
use Rattle.repair_grammar.specs.Blocks.{blocks_in, joined_grammar, joined_blocks}
use Rattle.repair_grammar.specs.RePair.{re_pair, pair_count}
use Rattle.repair_grammar.specs.GrammarOf.{IsGrammarOf}
use Rattle.repair_grammar.specs.declared.blocks.JoinedBlocks.{JoinedBlocks}
use Rattle.repair_grammar.specs.declared.grammar.Grammar.{Grammar}
use Rattle.repair_grammar.proofs.BlockLemmas.{split_by-joined, sum-joined}
use Rattle.repair_grammar.proofs.RoundLemmas.{re_pair-done}
use Rattle.repair_grammar.proofs.SoundLemmas.{re_pair-sound}
use Rattle.repair_grammar.proofs.grammar.compress.Goals as goal
use Rattle.repair_grammar.proofs.grammar.compress.Goals.{In_ok-rules}

-- no block is long
pub joined_blocks-requires : goal.joined_blocks-requires
joined_blocks-requires c =
    rw c.as_slice.ensures (λ k d within. omega (arith, get_or-le-sum_by length c.args.blocks.now k d within, c.requires.few))

-- blocks that stand one after the other come apart again
come_apart : (joined : JoinedBlocks) (slice blocks : List (List ℕ)) → joined ≡ joined_blocks slice → slice ≡ blocks →
    blocks_in joined ≡ blocks
come_apart joined slice blocks is same = ap blocks_in is ∙ split_by-joined slice ∙ same

pub compress_joined-requires-clause-whole : goal.compress_joined-requires-clause-whole
compress_joined-requires-clause-whole c = rw c.in_ok-joined.ensures (sum-joined c.as_slice.result.now)

pub compress_joined-requires-clause-below : goal.compress_joined-requires-clause-below
compress_joined-requires-clause-below c =
    rw (come_apart c.in_ok-joined.joined c.as_slice.result.now c.args.blocks.now c.in_ok-joined.ensures c.as_slice.ensures)
    c.requires.below

pub compress_joined-requires-clause-few : goal.compress_joined-requires-clause-few
compress_joined-requires-clause-few c =
    rw (come_apart c.in_ok-joined.joined c.as_slice.result.now c.args.blocks.now c.in_ok-joined.ensures c.as_slice.ensures)
    c.requires.few

-- the grammar of the blocks, with its own one after the other
grammar_is : (c : In_ok-rules) → c.in_ok-rules.field-0 ≡ joined_grammar (re_pair c.args.alphabet c.args.blocks.now)
grammar_is c =
    c.in_ok-rules.ensures.ok
    ∙ ap (λ blocks. joined_grammar (re_pair c.args.alphabet blocks))
    (come_apart c.in_ok-joined.joined c.as_slice.result.now c.args.blocks.now c.in_ok-joined.ensures c.as_slice.ensures)

pub blocks_in-requires : goal.blocks_in-requires
blocks_in-requires c =
    rw (ap (λ grammar. grammar.blocks) (grammar_is (goal.at.blocks_in-requires c).In_ok-rules))
    (sum-joined (re_pair c.args.alphabet c.args.blocks.now).blocks)

pub returns-clause-ok : goal.returns-clause-ok
returns-clause-ok c =
    let made : Grammar = re_pair c.args.alphabet c.args.blocks.now in
    let is = grammar_is (goal.at.returns-clause-ok c).In_ok-rules in
    let blocks : c.new.result ≡ made.blocks =
    c.new.ensures ∙ c.in_ok-blocks_in.ensures ∙ ap (λ grammar. blocks_in grammar.blocks) is ∙ split_by-joined made.blocks in
    rw (ap (λ grammar. grammar.rules) is, blocks) refl

pub returns-clause-sound : goal.returns-clause-sound
returns-clause-sound c = subst (IsGrammarOf c.args.alphabet c.args.blocks.now) (sym (returns-clause-ok c))
    (re_pair-sound c.args.alphabet c.args.blocks.now c.requires.below)

pub returns-clause-done : goal.returns-clause-done
returns-clause-done c = subst (λ (grammar : Grammar). (pair : ℕ × ℕ) → pair_count grammar.blocks pair < 2)
    (sym (returns-clause-ok c)) (re_pair-done c.args.alphabet c.args.blocks.now)
