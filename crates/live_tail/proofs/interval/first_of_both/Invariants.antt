use Rattle.std.proofs.Common.{◌≡◌, ◌+◌, ◌≤◌, ◌++◌, All, [], true, length}
use Rattle.std.specs.List.Sorted.{IsStrictlySortedBy}
use Rattle.std.specs.Option.{IfNone, IfSome, option_to_list}
use Rattle.log_cursor.specs.Touching.{first_among, touches_at}
use Rattle.track_types.specs.Near.{IsCellWithin}
use Rattle.track_types.specs.Region.{in_region}
use Rattle.track_types.specs.declared.row.Row.{Row}
use Rattle.track_types.specs.declared.stop.Stop.{Stop}
use Rattle.step_count.specs.Reads.{ReadsWithin}
use Rattle.track_index.specs.Path.{path_needs}
use Rattle.live_tail.specs.SmallRows.{rows_in}
use Rattle.live_tail.specs.Walk.{stop_order, stops_with}
use Rattle.live_tail.proofs.interval.first_of_both.Given as goal

-- none of the rows that were passed has the first stop, and the walk's next stop in the region is at hand
abbrev pub invariant-loop-row : goal.invariant-loop-row
invariant-loop-row g l = record {
  first : first_among l.test.region (stops_with (rows_in l.rest) (option_to_list l.hit ++ l.walk.stops))
      ≡ first_among l.test.region (stops_with (rows_in l.fn.own) l.fn.walk.stops);
  inside : IfSome l.hit (λ (stop : Stop). in_region l.test.region stop.cell ≡ true);
  end : IfNone l.hit (l.walk.stops ≡ []);
  up : IsStrictlySortedBy stop_order (option_to_list l.hit ++ l.walk.stops);
  near : All (λ (row : Row). IsCellWithin row.cell) (rows_in l.rest);
  may : ReadsWithin (path_needs (touches_at l.test.region) l.walk) g.L.Reads.may;
  reads : l.steps + l.walk.reads ≤ l.fn.steps + l.fn.walk.reads;
}

abbrev pub decreases-loop-row : goal.decreases-loop-row
decreases-loop-row g l = length (rows_in l.rest)
