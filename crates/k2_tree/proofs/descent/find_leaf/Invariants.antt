use Rattle.std.proofs.Common.{◌+◌, ◌/◌, ◌^◌, ◌≤◌}
use Rattle.k2_tree.specs.Widths.{widths_of}
use Rattle.k2_tree.specs.Tree.{codes_in}
use Rattle.k2_tree.specs.Cost.{descent_reads}
use Rattle.k2_tree.proofs.OnLemmas.{IsOn}
use Rattle.k2_tree.proofs.descent.find_leaf.Given as goal

abbrev pub invariant-levels : goal.invariant-levels
invariant-levels g l =
    record {
      here : IsOn l.height l.wide (codes_in (widths_of l.height l.wide) l.bits) l.level (l.code / 4 ^ l.level) l.square;
      within : l.level ≤ l.height;
      cost : l.steps + descent_reads l.level ≤ l.fn.steps + descent_reads l.height;
    }

abbrev pub decreases-levels : goal.decreases-levels
decreases-levels g l = l.level
