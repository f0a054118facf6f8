use Rattle.std.proofs.Common.{◌≡◌, ℕ, ◌+◌, ◌<◌, List, length, map, arith, sym, ◌∙◌, ap, add-zero}
use Rattle.std.specs.List.{sum_by}
use Rattle.std.proofs.lemmas.Bool.{ne_eqb}
use Rattle.repair_grammar.specs.Blocks.{blocks_in, joined_grammar}
use Rattle.repair_grammar.specs.RePair.{AreBelow, pair_count, block_after_pass}
use Rattle.repair_grammar.specs.Counts.{IsFirst, AllBelowTwo}
use Rattle.repair_grammar.specs.Kept.{keys_in}
use Rattle.repair_grammar.specs.Pairs.{count_of, places_of}
use Rattle.repair_grammar.specs.Threads.{live, marked_row, IsUnmarked}
use Rattle.repair_grammar.proofs.PassLemmas.{length-block_after_pass}
use Rattle.repair_grammar.proofs.ExpansionLemmas.{all_below-block_after_pass}
use Rattle.repair_grammar.proofs.RoundLemmas.{IsNext, next_is, first_same, re_pair-is, rounds-end}
use Rattle.repair_grammar.proofs.CoverLemmas.{counted_below, covers_after, covers_fresh}
use Rattle.repair_grammar.proofs.RowLemmas.{below_marks, new_symbols, row_words, row_ends, word_at}
use Rattle.repair_grammar.proofs.JoinLemmas.{live-all}
use Rattle.repair_grammar.proofs.PlaceLemmas.{counts_all, row_after, counted_same, covers_same}
use Rattle.repair_grammar.proofs.compressing.by_places.Goals as goal
use Rattle.repair_grammar.proofs.compressing.by_places.Goals.{In-Some, In_ok-replace_all}
use Rattle.repair_grammar.specs.declared.symbol_row.TheConstants.{END}

pub count_row-requires-clause-words : goal.count_row-requires-clause-words
count_row-requires-clause-words c =
    let is : c.as_slice.result.now ≡ marked_row (blocks_in c.args.blocks) = c.as_slice.ensures.value ∙ c.in_ok-symbols.ensures in
    rw is (word_at (marked_row (blocks_in c.args.blocks)) (row_words c.args.alphabet (blocks_in c.args.blocks)
    (omega (arith, c.requires.small)) c.requires.below))

pub count_row-requires-clause-ends : goal.count_row-requires-clause-ends
count_row-requires-clause-ends c =
    let is : c.as_slice.result.now ≡ marked_row (blocks_in c.args.blocks) = c.as_slice.ensures.value ∙ c.in_ok-symbols.ensures in
    rw is (row_ends (blocks_in c.args.blocks))

pub new-requires-clause-plain : goal.new-requires-clause-plain
new-requires-clause-plain c = rw c.in_ok-symbols.ensures
    (row_words c.args.alphabet (blocks_in c.args.blocks) (omega (arith, c.requires.small)) c.requires.below)

pub new-requires-clause-ends : goal.new-requires-clause-ends
new-requires-clause-ends c = rw c.in_ok-symbols.ensures (row_ends (blocks_in c.args.blocks))

pub settle-requires : goal.settle-requires
settle-requires c = record {
  keys = covers_fresh (count_of c.in_ok-pairs.pairs) c.in_ok-pairs.pairs.fresh.items (keys_in c.new-keys.result)
      c.in_ok-pairs.ensures.fresh;
}

pub rounds-init : goal.rounds-init
rounds-init c =
    let blocks : List (List ℕ) = blocks_in c.args.blocks in
    let fits : c.args.alphabet < END = omega (arith, c.requires.small) in
    let symbols : c.in_ok-row.row.symbols.items ≡ marked_row blocks =
    c.in_ok-row.ensures.symbols ∙ c.in_ok-symbols.ensures in
    let read : c.as_slice.result.now ≡ c.in_ok-row.row.symbols.items =
    c.as_slice.ensures.value ∙ sym c.in_ok-row.ensures.symbols in
    record {
      now = blocks;
      of_blocks = ap live symbols
          ∙ live-all (marked_row blocks) (word_at (marked_row blocks) (row_words c.args.alphabet blocks fits c.requires.below));
      row = c.in_ok-row.ensures.row;
      counted = counted_same c.in_ok-row.row.symbols.items c.in_ok-pairs.pairs c.settle.new.pairs
          c.settle.ensures.table (rw read at c.in_ok-pairs.ensures.counted);
      keys = covers_same c.in_ok-pairs.pairs c.settle.new.pairs (keys_in c.settle.new.keys) c.settle.ensures.table
          c.in_ok-settle.ensures.keys;
      below = rw (c.new-rules.ensures.items, add-zero) c.requires.below;
      few = rw c.new-rules.ensures.items (omega arith);
      left = rw c.new-rules.ensures.items (sym (re_pair-is c.args.alphabet blocks));
    }

-- the symbol of the round
abbrev limit : In-Some → ℕ
limit c = c.args.alphabet + length c.rounds.rules.items

fits : (c : In-Some) → limit c < END
fits c = omega (arith, c.rounds.invariant.few, c.requires.few, c.requires.small)

counts : (c : In-Some) (pair : ℕ × ℕ) → count_of c.rounds.pairs pair ≡ pair_count c.rounds.invariant.now pair
counts c = counts_all (limit c) c.rounds.row.symbols.items c.rounds.invariant.now (count_of c.rounds.pairs)
    (places_of c.rounds.pairs) (fits c) c.rounds.invariant.below c.rounds.invariant.of_blocks c.rounds.invariant.counted

-- the pair of the round
first : (c : In-Some) → IsFirst (pair_count c.rounds.invariant.now) c.in-Some.pair
first c = first_same (count_of c.rounds.pairs) (pair_count c.rounds.invariant.now) (counts c) c.in-Some.pair
    (rw c.in-Some.is at c.in_ok-pair.ensures.first)

parts : (c : In-Some) → (c.in-Some.pair.0 < limit c) × (c.in-Some.pair.1 < limit c)
parts c = counted_below (limit c) c.rounds.invariant.now c.in-Some.pair c.rounds.invariant.below
    (omega (arith, (first c).two))

plain : (c : In-Some) → IsUnmarked c.in-Some.pair
plain c = (omega (arith, (parts c).0, fits c), omega (arith, (parts c).1, fits c))

pub replace_all-requires-clause-plain : goal.replace_all-requires-clause-plain
replace_all-requires-clause-plain c = plain (goal.at.replace_all-requires-clause-plain c).In-Some

pub replace_all-requires-clause-fits : goal.replace_all-requires-clause-fits
replace_all-requires-clause-fits c = let o = (goal.at.replace_all-requires-clause-fits c).In-Some in
    omega (arith, c.len.ensures, fits o)

pub replace_all-requires-clause-new : goal.replace_all-requires-clause-new
replace_all-requires-clause-new c = let o = (goal.at.replace_all-requires-clause-new c).In-Some in
    let symbol : c.args.alphabet + c.len-in-Some.result ≡ limit o = omega (arith, c.len-in-Some.ensures) in
    rw symbol (new_symbols (limit o) c.rounds.row.symbols.items c.rounds.invariant.now (fits o) c.rounds.invariant.below
    c.rounds.invariant.of_blocks)

pub replace_all-requires-clause-other : goal.replace_all-requires-clause-other
replace_all-requires-clause-other c = let o = (goal.at.replace_all-requires-clause-other c).In-Some in
    ne_eqb (c.args.alphabet + c.len-in-Some.result) c.in-Some.pair.1
    (λ same. omega (arith, same, c.len-in-Some.ensures, (parts o).1))

pub replace_all-requires-clause-order : goal.replace_all-requires-clause-order
replace_all-requires-clause-order c = rw c.as_slice-in-Some.ensures.value c.in_ok-copy_places.ensures.order

pub replace_all-requires-clause-noted : goal.replace_all-requires-clause-noted
replace_all-requires-clause-noted c = let o = (goal.at.replace_all-requires-clause-noted c).In-Some in
    λ k stands. rw c.as_slice-in-Some.ensures.value (c.in_ok-copy_places.ensures.all k
    (c.rounds.invariant.counted.noted c.in-Some.pair k (plain o) stands))

-- what is left after the round
all : (c : In_ok-replace_all) → live c.replace_all.new.row.symbols.items
    ≡ block_after_pass c.in-Some.pair (c.args.alphabet + length c.rounds.rules.items) (live c.rounds.row.symbols.items)
all c =
    let symbol : c.args.alphabet + c.len-in-Some.result ≡ c.args.alphabet + length c.rounds.rules.items =
    omega (arith, c.len-in-Some.ensures) in
    c.in_ok-replace_all.ensures.all
    ∙ ap (λ new. block_after_pass c.in-Some.pair new (live c.rounds.row.symbols.items)) symbol

abbrev after : In_ok-replace_all → List (List ℕ)
after c = map (block_after_pass c.in-Some.pair (c.args.alphabet + length c.rounds.rules.items)) c.rounds.invariant.now

of_blocks : (c : In_ok-replace_all) → IsUnmarked c.in-Some.pair → live c.replace_all.new.row.symbols.items ≡ marked_row (after c)
of_blocks c is = row_after c.rounds.row.symbols.items c.replace_all.new.row.symbols.items c.in-Some.pair
    (c.args.alphabet + length c.rounds.rules.items) c.rounds.invariant.now is c.rounds.invariant.of_blocks (all c)

below : (c : In_ok-replace_all) → AreBelow (c.args.alphabet + length c.rounds.rules.items + 1) (after c)
below c = all_below-block_after_pass c.in-Some.pair (c.args.alphabet + length c.rounds.rules.items) c.rounds.invariant.now
    c.rounds.invariant.below

-- the round's rule and blocks
next : (c : In_ok-replace_all) → IsFirst (pair_count c.rounds.invariant.now) c.in-Some.pair →
    IsNext c.args.alphabet c.rounds.rules.items c.rounds.invariant.now c.push.new.self.items (after c)
next c pair_first = rw c.in_ok-push.ensures.items
    (next_is c.args.alphabet c.rounds.rules.items c.rounds.invariant.now c.in-Some.pair pair_first)

pub settle-requires-in-Some : goal.settle-requires-in-Some
settle-requires-in-Some c =
    let o = (goal.at.settle-requires-in-Some c).In-Some in
    let p = (goal.at.settle-requires-in-Some c).In_ok-replace_all in
    let fits_more : limit o + 1 < END =
    omega (arith, c.rounds.invariant.few, c.requires.few, c.requires.small) in
    record {
      keys = covers_after (limit o) c.in-Some.pair c.rounds.invariant.now (count_of c.rounds.pairs)
          (count_of c.replace_all.new.pairs) c.replace_all.new.pairs.fresh.items (keys_in c.first_pair.new.keys)
          c.rounds.invariant.below (parts o) (counts o)
          (counts_all (limit o + 1) c.replace_all.new.row.symbols.items (after p) (count_of c.replace_all.new.pairs)
          (places_of c.replace_all.new.pairs) fits_more (below p) (of_blocks p (plain o)) c.in_ok-replace_all.ensures.counted)
          c.in_ok-replace_all.ensures.come.came c.in_ok-pair.ensures.keys;
    }

pub rounds-smaller : goal.rounds-smaller
rounds-smaller c =
    let o = (goal.at.rounds-smaller c).In-Some in
    let p = (goal.at.rounds-smaller c).In_ok-replace_all in
    omega (
      arith,
      ap length (all p),
      length-block_after_pass c.in-Some.pair (limit o) (live c.rounds.row.symbols.items),
      c.rounds.invariant.counted.counts c.in-Some.pair (plain o),
      counts o c.in-Some.pair,
      (first o).two,
    )

pub rounds-preserved : goal.rounds-preserved
rounds-preserved c =
    let o = (goal.at.rounds-preserved c).In-Some in
    let p = (goal.at.rounds-preserved c).In_ok-replace_all in
    let step = next p (first o) in
    let more : c.args.alphabet + length c.push.new.self.items ≡ c.args.alphabet + length c.rounds.rules.items + 1 =
    omega (arith, step.rules_are) in
    record {
      now = after p;
      of_blocks = of_blocks p (plain o);
      row = c.in_ok-replace_all.ensures.row;
      counted = counted_same c.replace_all.new.row.symbols.items c.replace_all.new.pairs c.settle-in-Some.new.pairs
          c.settle-in-Some.ensures.table c.in_ok-replace_all.ensures.counted;
      keys = covers_same c.replace_all.new.pairs c.settle-in-Some.new.pairs (keys_in c.settle-in-Some.new.keys)
          c.settle-in-Some.ensures.table c.in_ok-settle-2.ensures.keys;
      below = rw more (below p);
      few = omega (arith, step.rules_are, step.fewer, c.rounds.invariant.few);
      left = step.left ∙ c.rounds.invariant.left;
    }

pub returns : goal.returns
returns c =
    let now : List (List ℕ) = c.rounds.invariant.now in
    let bound : ℕ = c.args.alphabet + length c.rounds.rules.items in
    let small_enough : bound < END = omega (arith, c.rounds.invariant.few, c.requires.few, c.requires.small) in
    let counted : AllBelowTwo (count_of c.rounds.pairs) = rw c.in_default.is at c.in_ok-pair.ensures.first in
    let small : AllBelowTwo (pair_count now) =
    λ pair. rw (sym (counts_all bound c.rounds.row.symbols.items now (count_of c.rounds.pairs)
    (places_of c.rounds.pairs) small_enough c.rounds.invariant.below c.rounds.invariant.of_blocks
    c.rounds.invariant.counted pair)) (counted pair) in
    let row_is : live c.into_symbols.result.items ≡ marked_row now =
    ap live c.into_symbols.ensures ∙ c.rounds.invariant.of_blocks in
    record {
      ok = rw (
        c.new-2.ensures,
        c.in_ok-blocks_from.ensures now (below_marks bound now small_enough c.rounds.invariant.below) row_is,
      ) (ap joined_grammar (sym (rounds-end (sum_by length now) c.args.alphabet
          (record { rules = c.rounds.rules.items; blocks = now }) small)
          ∙ c.rounds.invariant.left));
    }

pub blocks_from-requires-clause-ends : goal.blocks_from-requires-clause-ends
blocks_from-requires-clause-ends c = rw c.into_symbols.ensures c.rounds.invariant.row.ends

pub blocks_from-requires-clause-few : goal.blocks_from-requires-clause-few
blocks_from-requires-clause-few c = rw c.into_symbols.ensures c.rounds.invariant.row.threads.few
