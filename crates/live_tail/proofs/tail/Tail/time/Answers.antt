use Rattle.std.proofs.Common.{◌≡◌, List, Some, ap, sym, subst, refl, ◌∙◌}
use Rattle.std.specs.Prelude.{IfSome}
use Rattle.track_types.specs.Chart.{IsChart}
use Rattle.track_types.specs.declared.row.Row.{Row}
use Rattle.live_tail.specs.SmallRows.{rows_from}
use Rattle.live_tail.specs.Tail.{chart_from}
use Rattle.live_tail.proofs.tail.Tail.time.Goals as goal

pub returns-clause-some : goal.returns-clause-some
returns-clause-some c =
    let rows : List Row = rows_from c.self.inside.origin c.self.inside.by_object.items in
    let is : c.args.self.now ≡ chart_from (Some c.in_ok-outline.outline) rows = sym c.self.view_is ∙ ap (λ own. chart_from own rows) c.in_ok-outline.was in
    let own = c.in_ok-outline.outline in
    record {
      chart = record { rows = rows; first = own.time.least; last = own.time.greatest; period = own.period; cell = own.cell; tick = own.tick };
      is = is;
      first = refl;
      last = refl;
      sound = subst (λ tail. IfSome tail IsChart) (c.self.view_is ∙ is) c.self.invariant.chart;
    }
