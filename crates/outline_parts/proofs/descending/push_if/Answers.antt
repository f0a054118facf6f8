use Rattle.std.proofs.Common.{append-nil, sym}
use Rattle.k2_tree.specs.Tree.{where_set}
use Rattle.outline_parts.proofs.descending.push_if.Goals as goal

pub returns-in_ok-push : goal.returns-in_ok-push
unfolding where_set
returns-in_ok-push c = rw c.if-bit.true c.in_ok-push.ensures.items

pub returns-else-bit : goal.returns-else-bit
unfolding where_set
returns-else-bit c = rw c.if-bit.false (sym (append-nil c.args.codes.now.items))
