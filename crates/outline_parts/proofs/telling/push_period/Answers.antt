use Rattle.std.proofs.Common.{◌≡◌, ◌∙◌, ◌+◌, ◌++◌, ap, append-nil, arith, length, map, sym}
use Rattle.std.specs.Prelude.{sum}
use Rattle.std.specs.List.{filter_map, range_with_len}
use Rattle.std.specs.Option.{option_to_list}
use Rattle.std.proofs.lemmas.List.{append_assoc, take_all}
use Rattle.bit_rank.specs.Bits.{rank_of}
use Rattle.bit_rank.proofs.RankLemmas.{rank_of-all, rank_of-zero}
use Rattle.snapshots.specs.View.{all_blocks, block_of}
use Rattle.outline_parts.specs.Told.{period_view, placed_block}
use Rattle.outline_parts.proofs.ObjectLemmas.{blocks-more}
use Rattle.outline_parts.proofs.telling.push_period.Goals as goal

pub loop-index-init : goal.loop-index-init
loop-index-init c = record {
  rank = sym (rank_of-zero c.args.period.now.present);
  start = omega arith;
  placed = sym (append-nil c.args.placed.now.items);
}

pub loop-index-preserved : goal.loop-index-preserved
loop-index-preserved c =
    let view = period_view c.args.at.frame c.args.at.number c.args.at.start c.args.period.now in
    let i = c.loop-index.index in
    let make = placed_block c.args.at.frame c.args.at.number in
    let old = c.args.placed.now.items in
    record {
      rank = c.in_ok-next.ensures.rank;
      start = c.in_ok-next.ensures.start;
      placed =
          c.in_ok-next.ensures.ok
          ∙ ap (λ front. front ++ map make (option_to_list (block_of view i))) c.loop-index.invariant.placed
          ∙ append_assoc old (map make (filter_map (block_of view) (range_with_len 0 i))) (map make (option_to_list (block_of view i)))
          ∙ ap (λ back. old ++ back) (sym (blocks-more make (block_of view) i));
    }

pub returns-clause-ok : goal.returns-clause-ok
unfolding all_blocks
returns-clause-ok c =
    let view = period_view c.args.at.frame c.args.at.number c.args.at.start c.args.period.now in
    let make = placed_block c.args.at.frame c.args.at.number in
    let all : c.loop-index.index ≡ length c.args.period.now.present = omega (arith, c.loop-index-test.false, c.loop-index.auto.index-end, c.len-index-end.ensures) in
    c.loop-index.invariant.placed
    ∙ ap (λ n. c.args.placed.now.items ++ map make (filter_map (block_of view) (range_with_len 0 n))) all

pub returns-clause-end : goal.returns-clause-end
returns-clause-end c =
    let period = c.args.period.now in
    let all : c.loop-index.index ≡ length period.present = omega (arith, c.loop-index-test.false, c.loop-index.auto.index-end, c.len-index-end.ensures) in
    let rank = c.loop-index.invariant.rank ∙ ap (rank_of period.present) all ∙ rank_of-all period.present (length period.present) (omega arith) in
    c.loop-index.invariant.start
    ∙ ap (λ ls. c.args.at.start + sum ls) (take_all c.loop-index.next.rank period.lengths (omega (arith, rank, c.requires.shaped.lengths)))
