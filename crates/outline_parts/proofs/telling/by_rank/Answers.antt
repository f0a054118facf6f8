use Rattle.std.proofs.Common.{◌∙◌, ◌<◌, arith, get_or, length, rules, sym}
use Rattle.std.proofs.lemmas.List.{length-set}
use Rattle.bit_rank.proofs.RankLemmas.{rank_of-le-place, rank_of-zero}
use Rattle.outline_parts.proofs.LeafMarkLemmas.{rank-within}
use Rattle.outline_parts.proofs.ScatterLemmas.{bit-step, placed-more, rank-more}
use Rattle.outline_parts.proofs.telling.by_rank.Goals as goal

pub loop-place-init : goal.loop-place-init
loop-place-init c = record {
  long = search rules;
  leaf = sym (rank_of-zero c.args.lasts.now);
  each = λ place below. absurd (omega arith);
}

pub offset_bounds-leaves-leaf : goal.offset_bounds-leaves-leaf
offset_bounds-leaves-leaf c =
    let low = rank-within c.args.lasts.now c.args.leaves.now c.loop-place.place c.requires.marks (omega (arith, c.loop-place-test.true)) in
    let leaf = c.loop-place.invariant.leaf in
    search rules

pub bounds-leaves-leaf : goal.bounds-leaves-leaf
bounds-leaves-leaf c =
    omega (
      arith,
      c.loop-place.invariant.leaf,
      rank-within c.args.lasts.now c.args.leaves.now c.loop-place.place c.requires.marks (omega (arith, c.loop-place-test.true)),
    )

pub overflow_add-leaf : goal.overflow_add-leaf
overflow_add-leaf c = omega (
  arith,
  c.loop-place.invariant.leaf,
  rank_of-le-place c.args.lasts.now c.loop-place.place,
  bit-step c.get.result,
)

pub loop-place-preserved : goal.loop-place-preserved
loop-place-preserved c =
    let perm = c.args.perm.now in
    let place = c.loop-place.place in
    let codes = c.loop-place.codes.items in
    let inv = c.loop-place.invariant in
    let within : place < length c.args.lasts.now = omega (arith, c.loop-place-test.true) in
    record {
      long = length-set codes (get_or perm place 0) (get_or c.args.leaves.now c.loop-place.leaf 0) ∙ inv.long;
      leaf = omega (arith, inv.leaf, rank-more c.args.lasts.now place c.get.result within c.get.ensures);
      each = placed-more perm c.args.leaves.now codes c.args.lasts.now place c.loop-place.leaf c.requires.permutes
          (omega (arith, within, c.requires.same)) inv.long inv.leaf inv.each;
    }
