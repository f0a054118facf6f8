use Rattle.std.proofs.Common.{◌≡◌, ◌++◌, ◌-◌, ◌≤◌, Err, List, length, map, ap, arith, rules, subst, sym, ◌∙◌}
use Rattle.std.proofs.lemmas.List.{length-append, length-map}
use Rattle.track_types.specs.Limits.{limit_of}
use Rattle.track_types.specs.Row.{IsAscending}
use Rattle.track_types.specs.declared.limit.LimitKind.TheVariants.{Rows}
use Rattle.track_types.specs.declared.row.Row.{Row}
use Rattle.path_union.proofs.FaultLemmas.{count_fault-more}
use Rattle.path_union.proofs.DrawingLemmas.{moved-all, moved-many, moved-path, moved-start, timely-both}
use Rattle.path_union.proofs.WalkLemmas.{if-none}
use Rattle.path_union.specs.Union.{rows_of_both}
use Rattle.track_types.specs.declared.stop.Stop.{Stop}
use Rattle.path_union.specs.Paths.{HasMoved}
use Rattle.path_union.specs.Reads.{first_beyond}
use Rattle.path_union.specs.Walk.{left_of, row_at, stops_of_both}
use Rattle.path_union.proofs.ReadsLemmas.{IsEnd, moved-ascending, moved-end, path-before, path-within}
use Rattle.path_union.proofs.chart_union.drawn_rows.Given.{Over}
use Rattle.path_union.proofs.chart_union.drawn_rows.Goals as goal
use Rattle.path_union.proofs.chart_union.drawn_rows.Goals.{After-of}

-- the stops of the next object
abbrev next_stops : (g : Over) (c : After-of g) → List Stop
next_stops g c = stops_of_both (left_of g.P.Walk.Lazy.left c.in_ok-own.own) (left_of g.O.Walk.Lazy.left c.in_ok-other.other)

-- with their rows, and those that are left
moved : (g : Over) (c : After-of g)
    → HasMoved (g.O.Paths.rows c.args.older) (g.P.Paths.rows c.args.later) (g.O.Paths.rows c.path_if-in-Some.new.paths)
    (g.P.Paths.rows c.path_if.new.paths) (c.loop-object.rows.items ++ map (row_at c.in-Some.object) (next_stops g c))
moved g c =
    moved-path (g.O.Paths.rows c.args.older) (g.P.Paths.rows c.args.later) (g.O.Paths.rows c.loop-object.older)
    (g.P.Paths.rows c.loop-object.later) c.loop-object.rows.items c.loop-object.invariant.moved c.in-Some.object _ _
    (g.P.Paths.rows c.path_if.new.paths) (g.O.Paths.rows c.path_if-in-Some.new.paths)
    c.in_ok-own.ensures.path c.in_ok-other.ensures.path

-- the row that is one too many is one of these, or behind them
end : (g : Over) (c : After-of g)
    → IsEnd c.in-Some.object (next_stops g c) (limit_of Rows - length c.loop-object.rows.items)
    (first_beyond (limit_of Rows) (rows_of_both (g.O.Paths.rows c.args.older) (g.P.Paths.rows c.args.later)))
end g c =
    moved-end (g.O.Paths.rows c.args.older) (g.P.Paths.rows c.args.later) (g.O.Paths.rows c.loop-object.older)
    (g.P.Paths.rows c.loop-object.later) c.loop-object.rows.items c.loop-object.invariant.moved c.in-Some.object _ _
    (g.P.Paths.rows c.path_if.new.paths) (g.O.Paths.rows c.path_if-in-Some.new.paths)
    c.in_ok-own.ensures.path c.in_ok-other.ensures.path (limit_of Rows) c.loop-object.invariant.few

pub loop-object-init : goal.loop-object-init
loop-object-init g c = record {
  moved = rw c.new-rows.ensures.items
      (moved-start (g.O.Paths.rows c.args.older) (g.P.Paths.rows c.args.later) c.requires.older c.requires.later);
  few = rw c.new-rows.ensures.items (omega arith);
  cost = omega arith;
}

pub append_stops-requires-clause-ascending : goal.append_stops-requires-clause-ascending
append_stops-requires-clause-ascending g c =
    let at = (goal.at.append_stops-requires-clause-ascending g c).After-of in
    rw c.of.ensures.left
    (moved-ascending (g.O.Paths.rows c.args.older) (g.P.Paths.rows c.args.later) c.requires.older c.requires.later
    (g.O.Paths.rows c.path_if-in-Some.new.paths) (g.P.Paths.rows c.path_if.new.paths) c.loop-object.rows.items c.in-Some.object
    (next_stops g at) (moved g at))

pub loop-object-preserved : goal.loop-object-preserved
loop-object-preserved g c =
    let at = (goal.at.loop-object-preserved g c).After-of in
    let rows : List Row = c.loop-object.rows.items in
    let stops : List Stop = next_stops g at in
    let drew = rw (c.of.ensures.left) at c.in_ok-append_stops.ensures.rows in
    let long = ap length drew ∙ length-append rows (map (row_at c.in-Some.object) stops) in
    let many = length-map stops (row_at c.in-Some.object) in
    let few : length stops ≤ limit_of Rows - length rows = omega (arith, long, many, c.in_ok-append_stops.ensures.few) in
    record {
      moved = rw drew (moved g at);
      few = c.in_ok-append_stops.ensures.few;
      cost = omega (
        arith,
        c.loop-object.invariant.cost,
        path-before c.in-Some.object stops (limit_of Rows - length rows) _ _ _ _ _ _ _ _ _ _ _ _ _ _ _ c.loop-object.steps
            c.append_stops.new.steps c.in_ok-own.ensures.in_time c.in_ok-own.ensures.cost c.in_ok-other.ensures.in_time
            c.in_ok-other.ensures.cost c.of.ensures.budget c.of.ensures.reads_past
            (rw (c.of.ensures.left) at c.in_ok-append_stops.ensures.cost) (end g at) few,
      );
    }

pub returns-in_err-append_stops-clause-cost : goal.returns-in_err-append_stops-clause-cost
returns-in_err-append_stops-clause-cost g c =
    let at = (goal.at.returns-in_err-append_stops-clause-cost g c).After-of in
    let rows : List Row = c.loop-object.rows.items in
    omega (
      arith,
      c.loop-object.invariant.cost,
      path-within c.in-Some.object (next_stops g at) (limit_of Rows - length rows) _ _ _ _ _ _ _ _ _ _ _ _ _ _ _ c.loop-object.steps
          c.append_stops.new.steps c.in_ok-own.ensures.in_time c.in_ok-own.ensures.cost c.in_ok-other.ensures.in_time
          c.in_ok-other.ensures.cost c.of.ensures.budget c.of.ensures.reads_past
          (rw (c.of.ensures.left) at c.in_err-append_stops.ensures.cost) (end g at),
    )

pub returns-in_err-append_stops-clause-fault : goal.returns-in_err-append_stops-clause-fault
returns-in_err-append_stops-clause-fault g c =
    let rows : List Row = c.loop-object.rows.items in
    let told : c.from_residual-in_err-append_stops.result ≡ Err c.in_err-append_stops.field-0.0 = search rules in
    rw told
    (count_fault-more _ (length (rows_of_both (g.O.Paths.rows c.args.older) (g.P.Paths.rows c.args.later)))
    c.in_err-append_stops.field-0.0
    (moved-many (g.O.Paths.rows c.args.older) (g.P.Paths.rows c.args.later) (g.O.Paths.rows c.loop-object.older)
    (g.P.Paths.rows c.loop-object.later) rows c.loop-object.invariant.moved c.in-Some.object _ _
    (g.P.Paths.rows c.path_if.new.paths) (g.O.Paths.rows c.path_if-in-Some.new.paths)
    c.in_ok-own.ensures.path c.in_ok-other.ensures.path)
    (rw (c.of.ensures.left) at
    c.in_err-append_stops.ensures.fault))

pub returns-clause-rows : goal.returns-clause-rows
returns-clause-rows g c =
    moved-all (g.O.Paths.rows c.args.older) (g.P.Paths.rows c.args.later) (g.O.Paths.rows c.loop-object.older)
    (g.P.Paths.rows c.loop-object.later) c.loop-object.rows.items c.loop-object.invariant.moved
    (if-none c.object.result _ c.in_default.ensures.none c.object.ensures.none)
    (if-none c.object-in-loop-object.result _ c.in_default.ensures.neither c.object-in-loop-object.ensures.none)

pub returns-clause-timely : goal.returns-clause-timely
returns-clause-timely g c =
    rw (moved-all (g.O.Paths.rows c.args.older) (g.P.Paths.rows c.args.later) (g.O.Paths.rows c.loop-object.older)
    (g.P.Paths.rows c.loop-object.later) c.loop-object.rows.items c.loop-object.invariant.moved
    (if-none c.object.result _ c.in_default.ensures.none c.object.ensures.none)
    (if-none c.object-in-loop-object.result _ c.in_default.ensures.neither c.object-in-loop-object.ensures.none))
    (timely-both (g.O.Paths.rows c.args.older) (g.P.Paths.rows c.args.later) c.requires.older c.requires.later)
