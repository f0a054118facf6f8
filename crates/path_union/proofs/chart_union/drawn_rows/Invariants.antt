use Rattle.std.proofs.Common.{◌+◌, ◌≤◌, length}
use Rattle.track_types.specs.Limits.{limit_of}
use Rattle.track_types.specs.declared.limit.LimitKind.TheVariants.{Rows}
use Rattle.path_union.specs.Paths.{HasMoved}
use Rattle.path_union.specs.Reads.{first_beyond, up_to}
use Rattle.path_union.specs.Union.{rows_of_both}
use Rattle.path_union.proofs.chart_union.drawn_rows.Given as goal

abbrev pub invariant-loop-object : goal.invariant-loop-object
invariant-loop-object g l = record {
  moved : HasMoved (g.O.Paths.rows l.fn.older) (g.P.Paths.rows l.fn.later) (g.O.Paths.rows l.older) (g.P.Paths.rows l.later) l.rows.items;
  few : length l.rows.items ≤ limit_of Rows;
  cost : l.steps + (up_to (g.O.Paths.reads_past l.older) (g.O.Paths.budget l.older)
      (first_beyond (limit_of Rows) (rows_of_both (g.O.Paths.rows l.fn.older) (g.P.Paths.rows l.fn.later)))
      + up_to (g.P.Paths.reads_past l.later) (g.P.Paths.budget l.later)
      (first_beyond (limit_of Rows) (rows_of_both (g.O.Paths.rows l.fn.older) (g.P.Paths.rows l.fn.later))))
      ≤ l.fn.steps + (up_to (g.O.Paths.reads_past l.fn.older) (g.O.Paths.budget l.fn.older)
      (first_beyond (limit_of Rows) (rows_of_both (g.O.Paths.rows l.fn.older) (g.P.Paths.rows l.fn.later)))
      + up_to (g.P.Paths.reads_past l.fn.later) (g.P.Paths.budget l.fn.later)
      (first_beyond (limit_of Rows) (rows_of_both (g.O.Paths.rows l.fn.older) (g.P.Paths.rows l.fn.later))));
}

abbrev pub decreases-loop-object : goal.decreases-loop-object
decreases-loop-object g l = g.O.Paths.count l.older + g.P.Paths.count l.later
