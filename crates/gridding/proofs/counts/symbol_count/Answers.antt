use Rattle.std.proofs.lemmas.Grind.{common_steps}
use Rattle.std.proofs.Common.{◌≡◌, drop, get_or, arith, rules, w64, to_z, of_z, None}
use Rattle.std.specs.List.{prefix_len}
use Rattle.std.proofs.lemmas.Int.{to_z-of_z}
use Rattle.std.proofs.lemmas.List.{length-drop}
use Rattle.std.proofs.lemmas.List.Elements.{All-drop}
use Rattle.list_laws.proofs.PartLemmas.{IsStrictlySortedBy-drop}
use Rattle.track_types.specs.Quantities.{log_length}
use Rattle.track_types.specs.declared.row.Row.{Row}
use Rattle.track_types.specs.Row.{row_order}
use Rattle.gridding.specs.BlockRange.{IsInSpan, block_of_row, is_of_block}
use Rattle.gridding.proofs.ObjectCountLemmas.{no_row}
use Rattle.gridding.proofs.SymbolLemmas.{terminals-ascending, terminals-block, terminals-none}
use Rattle.gridding.proofs.counts.symbol_count.Goals as goal

pub loop-left-preserved : goal.loop-left-preserved
loop-left-preserved c =
    let first = c.args.timeline.first in
    let span = c.args.timeline.span in
    let period = c.args.timeline.period in
    let left = c.loop-left.left.now in
    let anchor : Row = get_or left 0 no_row in
    let same : to_z w64 (of_z w64 anchor.instant) ≡ anchor.instant = to_z-of_z w64 anchor.instant (search rules) in
    let inside = c.loop-left.invariant.in_span in
    let so_far = c.loop-left.invariant.so_far in
    let log : c.log_length.result ≡ log_length first span period anchor =
    rw same at c.log_length.ensures.value in
    let block_length = prefix_len (is_of_block (block_of_row first period anchor)) left in
    let rest : c.after_block-left.result.now ≡ drop block_length left =
    rw c.block_of.ensures.exact at c.after_block-left.ensures in
    let step =
    terminals-block first period span left no_row (omega arith) (omega arith) (inside 0 no_row (omega arith)).after_first in
    let fewer = length-drop block_length left in
    rw rest record {
      so_far = omega (arith, so_far, log, step.0);
      few = omega (arith, fewer, step.1, c.log_length.ensures.within);
      ascending = IsStrictlySortedBy-drop row_order _ left c.loop-left.invariant.ascending;
      in_span = All-drop (IsInSpan first span) _ left inside;
    }

pub returns : goal.returns
returns c =
    let timeline = c.args.timeline in
    let none =
    terminals-none timeline.first timeline.period timeline.span None c.loop-left.left.now c.in_default.len_below in
    let all =
    terminals-ascending timeline.first timeline.period timeline.span c.args.rows.now (omega arith)
    c.requires.ascending c.requires.in_span in
    omega (arith, c.loop-left.invariant.so_far, none, all)

pub loop-left-smaller : goal.loop-left-smaller
loop-left-smaller c = grind (arith, common_steps)

pub loop-left-init : goal.loop-left-init
loop-left-init c = search rules
