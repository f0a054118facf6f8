use Rattle.std.proofs.Common.{◌≡◌, ◌∷◌, ◌++◌, Option, Some, All, sym, subst, ap, ◌∙◌, arith, rules}
use Rattle.std.specs.Option.{option_to_list}
use Rattle.std.proofs.lemmas.List.Elements.{All-head, All-tail}
use Rattle.log_cursor.specs.Touching.{first_among}
use Rattle.track_types.specs.Near.{IsCellWithin}
use Rattle.track_types.specs.declared.row.Row.{Row}
use Rattle.track_types.specs.declared.stop.Stop.{Stop}
use Rattle.live_tail.specs.SmallRows.{rows_in}
use Rattle.live_tail.specs.Walk.{stops_with}
use Rattle.log_cursor.proofs.StopLemmas.{word}
use Rattle.live_tail.proofs.BothLemmas.{drawn-rises, drawn-same, found-before, found-both, found-end, found-past, found-row, rest-rises}
use Rattle.live_tail.proofs.interval.first_of_both.Given.{Over}
use Rattle.live_tail.proofs.interval.first_of_both.Goals as goal
use Rattle.live_tail.proofs.interval.first_of_both.Goals.{In-Some}

-- the rows begin with the one that was taken
split : (g : Over) (c : In-Some g) → (rows_in c.loop-row.rest) ≡ c.in-Some.row ∷ (rows_in c.take_first.new.self)
split g c = c.in-Some.ensures.some

-- so does what is found
found : (g : Over) (c : In-Some g) → first_among c.args.test.now.region
    (stops_with (c.in-Some.row ∷ (rows_in c.take_first.new.self)) (option_to_list c.loop-row.hit ++ c.loop-row.walk.stops))
    ≡ first_among c.args.test.now.region (stops_with (rows_in c.args.own) c.args.walk.now.stops)
found g c =
    subst (λ rest. first_among c.args.test.now.region (stops_with rest (option_to_list c.loop-row.hit ++ c.loop-row.walk.stops))
    ≡ first_among c.args.test.now.region (stops_with (rows_in c.args.own) c.args.walk.now.stops)) (split g c)
    c.loop-row.invariant.first

pub loop-row-init : goal.loop-row-init
loop-row-init g c =
    let drawn = c.draw_in-hit.ensures.drawn in
    record {
      first = sym (drawn-same c.args.test.now.region drawn c.requires.ascending _);
      inside = drawn.inside;
      end = drawn.end;
      up = drawn-rises c.args.test.now.region drawn c.requires.ascending;
      near = c.requires.near;
      may = λ read needed. c.requires.may read (c.draw_in-hit.ensures.needs read needed);
      reads = c.draw_in-hit.ensures.cost;
    }

pub returns-then-comes_before-clause-value : goal.returns-then-comes_before-clause-value
returns-then-comes_before-clause-value g c =
    let at = (goal.at.returns-then-comes_before-clause-value g c).In-Some in
    let kept : word c.in-Some.row.instant ≡ c.in-Some.row.instant = search rules in
    found-before c.args.test.now.region c.in-Some.row (rows_in c.take_first.new.self) c.loop-row.walk.stops c.loop-row.hit
    (rw kept at (sym c.comes_before.ensures ∙ c.if-comes_before.true)) c.loop-row.invariant.inside ∙ found g at

pub holds-requires : goal.holds-requires
holds-requires g c =
    let near : Row → Type 0 = λ row. IsCellWithin row.cell in
    record {
      near = All-head near c.in-Some.row (rows_in c.take_first.new.self)
          (subst (All near) (split g (goal.at.holds-requires g c).In-Some) c.loop-row.invariant.near);
    }

pub returns-then-holds-clause-value : goal.returns-then-holds-clause-value
returns-then-holds-clause-value g c =
    let at = (goal.at.returns-then-holds-clause-value g c).In-Some in
    let row = c.in-Some.row in
    let kept : word row.instant ≡ row.instant = search rules in
    ap {B = Option Stop} (λ z. Some (record { instant = z; cell = row.cell })) kept
    ∙ found-row c.args.test.now.region row (rows_in c.take_first.new.self) c.loop-row.walk.stops c.loop-row.hit
    (rw kept at (sym c.comes_before.ensures ∙ c.if-comes_before.false)) c.loop-row.invariant.end (sym c.holds.ensures ∙ c.if-holds.true)
    ∙ found g at

pub loop-row-preserved-then-stands_at : goal.loop-row-preserved-then-stands_at
loop-row-preserved-then-stands_at g c =
    let at = (goal.at.loop-row-preserved-then-stands_at g c).In-Some in
    let near : Row → Type 0 = λ row. IsCellWithin row.cell in
    let region = c.args.test.now.region in
    let drawn = c.draw_in-hit-then-stands_at.ensures.drawn in
    let kept : word c.in-Some.row.instant ≡ c.in-Some.row.instant = search rules in
    let up = rest-rises c.loop-row.hit c.loop-row.walk.stops c.loop-row.invariant.up in
    record {
      first = sym (drawn-same region drawn up _)
          ∙ sym (found-both region c.in-Some.row (rows_in c.take_first.new.self) c.loop-row.walk.stops (sym c.holds.ensures ∙ c.if-holds.false)
          c.loop-row.hit (rw kept at (sym c.stands_at.ensures ∙ c.if-stands_at.true)))
          ∙ found g at;
      inside = drawn.inside;
      end = drawn.end;
      up = drawn-rises region drawn up;
      near = All-tail near c.in-Some.row (rows_in c.take_first.new.self) (subst (All near) (split g at) c.loop-row.invariant.near);
      may = λ read needed. c.loop-row.invariant.may read (c.draw_in-hit-then-stands_at.ensures.needs read needed);
      reads = omega (arith, c.draw_in-hit-then-stands_at.ensures.cost, c.loop-row.invariant.reads);
    }

pub loop-row-preserved : goal.loop-row-preserved
loop-row-preserved g c =
    let at = (goal.at.loop-row-preserved g c).In-Some in
    let kept : word c.in-Some.row.instant ≡ c.in-Some.row.instant = search rules in
    let near : Row → Type 0 = λ row. IsCellWithin row.cell in
    record {
      first = sym (found-past c.args.test.now.region c.in-Some.row (rows_in c.take_first.new.self) c.loop-row.walk.stops
          (sym c.holds.ensures ∙ c.if-holds.false) c.loop-row.hit (rw kept at (sym c.comes_before.ensures ∙ c.if-comes_before.false))
          (rw kept at (sym c.stands_at.ensures ∙ c.if-stands_at.false)) c.loop-row.invariant.end)
          ∙ found g at;
      inside = c.loop-row.invariant.inside;
      end = c.loop-row.invariant.end;
      up = c.loop-row.invariant.up;
      near = All-tail near c.in-Some.row (rows_in c.take_first.new.self) (subst (All near) (split g at) c.loop-row.invariant.near);
      may = c.loop-row.invariant.may;
      reads = c.loop-row.invariant.reads;
    }

pub returns-clause-value : goal.returns-clause-value
returns-clause-value g c =
    let none = c.in_default.ensures.none in
    found-end c.args.test.now.region c.loop-row.walk.stops c.loop-row.hit c.loop-row.invariant.end c.loop-row.invariant.inside
    ∙ subst (λ rest. first_among c.args.test.now.region (stops_with rest (option_to_list c.loop-row.hit ++ c.loop-row.walk.stops))
    ≡ first_among c.args.test.now.region (stops_with (rows_in c.args.own) c.args.walk.now.stops)) none c.loop-row.invariant.first
