use Rattle.std.proofs.Common.{◌≡◌, ◌++◌, ◌∷◌, ◌-◌, ◌<◌, List, [], Some, ap, sym, subst, ◌∙◌, arith, length, map}
use Rattle.std.specs.List.Sorted.{IsStrictlySortedBy}
use Rattle.std.specs.Option.{IfSome}
use Rattle.std.specs.Prelude.{false, slice_get}
use Rattle.std.proofs.lemmas.List.{append_assoc, length-append, length-map, map-append}
use Rattle.track_types.specs.Limits.{limit_of}
use Rattle.track_types.specs.declared.limit.LimitKind.TheVariants.{Rows}
use Rattle.track_types.specs.declared.row.Row.{Row}
use Rattle.track_types.specs.declared.stop.Stop.{Stop}
use Rattle.path_union.specs.Reads.{is_past}
use Rattle.path_union.specs.Walk.{row_at, stop_order}
use Rattle.path_union.proofs.ReadsLemmas.{before-place, drawn-before}
use Rattle.path_union.proofs.row_drawing.append_stops.Goals as goal

pub loop-stop-preserved : goal.loop-stop-preserved
loop-stop-preserved g c =
    let begun : List Row = c.args.rows.now.items in
    let drawn : List Stop = c.loop-stop.invariant.drawn in
    let stop : Stop = c.in-Some.stop in
    let left : List Stop = g.W.Lazy.left c.next.new.self in
    let stops : g.W.Lazy.left c.args.walk ≡ drawn ++ stop ∷ left =
    c.loop-stop.invariant.stops ∙ ap (λ xs. drawn ++ xs) c.in-Some.ensures.found in
    let rows = ap length c.loop-stop.invariant.all in
    let long = length-append begun (map (row_at c.args.object) drawn) in
    let many = length-map drawn (row_at c.args.object) in
    let up : IsStrictlySortedBy stop_order (drawn ++ stop ∷ left) = subst (IsStrictlySortedBy stop_order) stops c.requires.ascending in
    let before : length drawn < limit_of Rows - length begun =
    omega (arith, rows, long, many, c.if-len-ge-MAX_ROWS.false, c.len.ensures) in
    let unmet : IfSome (slice_get (g.W.Lazy.left c.args.walk) (limit_of Rows - length begun)) (λ end. is_past end.instant (Some stop) ≡ false) =
    rw stops (before-place drawn left stop (limit_of Rows - length begun) up before) in
    let drew = drawn-before (slice_get (g.W.Lazy.left c.args.walk) (limit_of Rows - length begun)) (Some stop)
    (g.W.StopWalk.reads_past c.loop-stop.walk) (g.W.StopWalk.reads_past c.next.new.self)
    (g.W.Lazy.budget c.loop-stop.walk) (g.W.Lazy.budget c.next.new.self) c.loop-stop.steps c.next.new.steps
    c.in-Some.ensures.in_time c.in-Some.ensures.cost unmet in
    let again : c.loop-stop.rows.items ++ row_at c.args.object stop ∷ [] ≡ begun ++ map (row_at c.args.object) (drawn ++ stop ∷ []) =
    ap (λ xs. xs ++ row_at c.args.object stop ∷ []) c.loop-stop.invariant.all
    ∙ append_assoc begun (map (row_at c.args.object) drawn) (row_at c.args.object stop ∷ [])
    ∙ ap (λ xs. begun ++ xs) (sym (map-append (row_at c.args.object) drawn (stop ∷ []))) in
    record {
      drawn = drawn ++ stop ∷ [];
      stops = stops ∙ sym (append_assoc drawn (stop ∷ []) left);
      all = c.in_ok-push_row.ensures ∙ again;
      few = omega (arith, ap length c.in_ok-push_row.ensures, length-append c.loop-stop.rows.items (row_at c.args.object stop ∷ []), c.if-len-ge-MAX_ROWS.false, c.len.ensures);
      may = λ read needed. c.loop-stop.invariant.may read (c.in-Some.ensures.needs read needed);
      cost = omega (arith, drew, c.loop-stop.invariant.cost);
    }
