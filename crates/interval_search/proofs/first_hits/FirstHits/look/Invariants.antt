use Rattle.std.proofs.Common.{◌≡◌, ◌+◌, ◌≤◌, length}
use Rattle.std.specs.List.{sum_by}
use Rattle.step_count.specs.Reads.{ReadsWithin}
use Rattle.snapshots.specs.Parts.{rules_in}
use Rattle.slice_search.specs.Sought.{log_reads}
use Rattle.interval_search.specs.FirstHits.{IsLooking}
use Rattle.interval_search.proofs.first_hits.FirstHits.look.Given as goal

abbrev pub invariant-loop-block : goal.invariant-loop-block
invariant-loop-block g l = record {
  looking : IsLooking l.fn.sought.stores.now l.fn.sought.from l.fn.sought.to l.fn.sought.test.now.region
      l.fn.sought.period (g.W.Lazy.left l.blocks) l.self.known.items l.self.found.items;
  rules : l.pending.rules ≡ rules_in l.fn.sought.stores.now;
  may : ReadsWithin (g.W.Lazy.needs l.blocks) g.L.Reads.may;
  reads : l.steps + (g.W.Lazy.budget l.blocks + sum_by
      (log_reads l.fn.sought.stores.now l.fn.sought.period l.fn.sought.from l.fn.sought.to l.fn.sought.test.now.region)
      (g.W.Lazy.left l.blocks)) ≤ l.fn.steps + (g.W.Lazy.budget l.fn.blocks + sum_by
      (log_reads l.fn.sought.stores.now l.fn.sought.period l.fn.sought.from l.fn.sought.to l.fn.sought.test.now.region)
      (g.W.Lazy.left l.fn.blocks));
}

abbrev pub decreases-loop-block : goal.decreases-loop-block
decreases-loop-block g l = length (g.W.Lazy.left l.blocks)
