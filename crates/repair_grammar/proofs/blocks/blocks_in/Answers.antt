use Rattle.std.proofs.Common.{◌≡◌, ℕ, ◌+◌, List, [], ◌∷◌, ◌++◌, append_assoc, drop, arith, refl, sym, ◌∙◌, ap}
use Rattle.std.proofs.lemmas.List.{append-nil}
use Rattle.repair_grammar.specs.Blocks.{split_by}
use Rattle.repair_grammar.proofs.BlockLemmas.{split_by-next, split_by-none, sum-next}
use Rattle.repair_grammar.proofs.blocks.blocks_in.Goals as goal

pub each-init : goal.each-init
each-init c = record {
  blocks = rw (c.in_ok-blocks.ensures.items, c.as_slice-lengths.ensures, c.as_slice-rest.ensures) refl;
  room = rw (c.as_slice-lengths.ensures, c.as_slice-rest.ensures) (omega (arith, c.requires));
}

pub split_at-requires : goal.split_at-requires
split_at-requires c =
    omega (arith, c.each.invariant.room, sum-next c.as_slice-lengths.result.now c.each.len-index c.each-test.true)

pub each-preserved : goal.each-preserved
each-preserved c =
    let lengths : List ℕ = c.as_slice-lengths.result.now in
    let i : ℕ = c.each.len-index in
    let blocks : List (List ℕ) = c.each.blocks.items in
    let block : List ℕ = c.split_at.result.0.now in
    let later : List (List ℕ) = split_by (drop (i + 1) lengths) c.split_at.result.1.now in
    let next : split_by (drop i lengths) c.each.rest.now ≡ block ∷ later =
    split_by-next lengths i c.each-test.true c.each.rest.now block c.split_at.result.1.now c.split_at.ensures.front
    c.split_at.ensures.back in
    let made : c.new.result ≡ block = c.new.ensures ∙ c.in_ok-to_vec.ensures.items_if_clones_equal (λ x y same. same) in
    record {
      blocks = ap (λ all. all ++ later) (c.in_ok-push.ensures.items ∙ ap (λ one. blocks ++ one ∷ []) made)
          ∙ append_assoc blocks (block ∷ []) later ∙ ap (λ all. blocks ++ all) (sym next) ∙ c.each.invariant.blocks;
      room = omega (arith, c.each.invariant.room, sum-next lengths i c.each-test.true, c.split_at.ensures.back_len);
    }

pub returns : goal.returns
returns c =
    let lengths : List ℕ = c.as_slice-lengths.result.now in
    let none : split_by (drop c.each.len-index lengths) c.each.rest.now ≡ [] =
    split_by-none lengths c.each.rest.now c.each.len-index c.each-test.false in
    sym (append-nil c.each.blocks.items) ∙ ap (λ all. c.each.blocks.items ++ all) (sym none) ∙ c.each.invariant.blocks
