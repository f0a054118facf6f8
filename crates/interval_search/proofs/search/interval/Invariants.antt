use Rattle.std.proofs.Common.{◌≡◌, ◌+◌, ◌-◌, ◌≤◌}
use Rattle.std.specs.List.{range_with_len, sum_by}
use Rattle.snapshots.specs.Parts.{rules_in}
use Rattle.interval_search.specs.Cost.{interval_cost, window_cost}
use Rattle.interval_search.specs.FirstHits.{AreFirst}
use Rattle.interval_search.proofs.search.interval.Given as goal

abbrev pub invariant-loop-period : goal.invariant-loop-period
invariant-loop-period g l = record {
  least : l.initial.period ≤ l.period;
  most : l.period ≤ l.period-end;
  rules : l.pending.rules ≡ rules_in l.fn.stores;
  first : AreFirst l.fn.stores l.fn.from l.fn.to l.fn.test.region l.period l.hits.known.items l.hits.found.items;
  reads : l.steps + sum_by (window_cost l.fn.stores l.fn.from l.fn.to l.fn.test.region)
      (range_with_len l.period (l.period-end - l.period)) ≤ l.fn.steps
      + interval_cost l.fn.stores l.fn.from l.fn.to l.fn.test.region;
}
