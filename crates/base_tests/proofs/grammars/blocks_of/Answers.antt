use Rattle.std.proofs.Common.{ℕ, List, [], ◌∷◌, length, arith}
use Rattle.std.proofs.lemmas.List.Sums.{sum_by-append, sum_by-cons}
use Rattle.repair_grammar.proofs.ExpansionLemmas.{AreBelow-none, AreBelow-push}
use Rattle.base_tests.proofs.grammars.blocks_of.Goals as goal

pub loop-list-init : goal.loop-list-init
loop-list-init c = record {
  below = rw c.new-blocks.ensures.items (AreBelow-none c.args.alphabet);
  few = rw c.new-blocks.ensures.items (omega arith);
}

pub loop-list-preserved : goal.loop-list-preserved
loop-list-preserved c =
    let blocks : List (List ℕ) = c.loop-list.blocks.items in
    let block : List ℕ = c.in_ok-block_of.field-0 in
    record {
      below = rw c.in_ok-push.ensures.items
          (AreBelow-push c.args.alphabet blocks block c.loop-list.invariant.below c.in_ok-block_of.ensures.below);
      few = rw c.in_ok-push.ensures.items (omega (
        arith,
        sum_by-append length blocks (block ∷ []),
        sum_by-cons length block [],
        c.in_ok-block_of.ensures.few,
        c.as_slice.ensures.len,
        c.len.ensures,
        c.len-in-loop-list.ensures,
        c.loop-list.invariant.few,
        c.if-len-room.false,
      ));
    }
