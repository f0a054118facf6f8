use Rattle.std.proofs.Common.{◌≡◌, ◌≤◌, ℤ, List, All, Some, filter, to_z, of_z, w64, ap, sym, subst, ◌∙◌, arith, rules}
use Rattle.std.specs.Prelude.{IsTrue}
use Rattle.std.specs.Option.{option_map}
use Rattle.std.proofs.lemmas.Int.{ints}
use Rattle.log_cursor.specs.Touching.{first_among}
use Rattle.track_types.specs.ByFilter.{is_row_between, path_of}
use Rattle.track_types.specs.Near.{IsCellWithin}
use Rattle.track_types.specs.Row.{IsAscending}
use Rattle.track_types.specs.declared.row.Row.{Row}
use Rattle.interval_search.specs.FirstHits.{hit_at}
use Rattle.live_tail.specs.Join.{rows_of_tail, rows_of_both}
use Rattle.live_tail.specs.SmallRows.{rows_in}
use Rattle.std.specs.List.Sorted.{IsStrictlySortedBy}
use Rattle.std.proofs.lemmas.List.Elements.{All-filter, All-same}
use Rattle.track_types.specs.declared.question.Question.TheVariants.{Interval, Path}
use Rattle.track_types.specs.declared.parts.Parts.{Parts}
use Rattle.track_types.specs.declared.region.Region.{Region}
use Rattle.snapshots.specs.Parts.{chart_in}
use Rattle.track_index.specs.Cost.{cost_of, needs_of}
use Rattle.live_tail.specs.Walk.{stop_order, stops_with}
use Rattle.live_tail.proofs.BothLemmas.{path-rises}
use Rattle.live_tail.proofs.JoinLemmas.{path_of-rows_of_both}
use Rattle.live_tail.proofs.interval.TailInterval.first_hit.Given.{Over}
use Rattle.live_tail.proofs.interval.TailInterval.first_hit.Goals as goal
use Rattle.live_tail.proofs.interval.TailInterval.first_hit.Goals.{After-track-own}

-- the tail's rows and the walk have the path in both
walked : (g : Over) (c : After-track-own g) → stops_with (rows_in c.track-own.result) c.in_ok-walk.walk.stops
    ≡ path_of (rows_of_both (chart_in c.args.self.now.index.index.now).rows (rows_of_tail c.args.self.now.tail.now))
    c.args.object c.args.self.now.from c.args.self.now.to
walked g c =
    let self = c.args.self.now in
    let rows : List Row = (chart_in self.index.index.now).rows in
    let tail : List Row = rows_of_tail self.tail.now in
    let low : to_z w64 (of_z w64 self.from) ≡ self.from = omega (arith, ints) in
    let high : to_z w64 (of_z w64 self.to) ≡ self.to = omega (arith, ints) in
    let own : (rows_in c.track-own.result) ≡ filter (is_row_between c.args.object self.from self.to) tail =
    c.track-own.ensures
    ∙ ap (λ z. filter (is_row_between c.args.object z (to_z w64 (of_z w64 self.to))) tail) low
    ∙ ap (λ z. filter (is_row_between c.args.object self.from z) tail) high in
    let left : c.in_ok-walk.walk.stops ≡ path_of rows c.args.object self.from self.to =
    c.in_ok-walk.ensures.left
    ∙ ap (λ z. path_of rows c.args.object z (to_z w64 (of_z w64 self.to))) low
    ∙ ap (λ z. path_of rows c.args.object self.from z) high in
    rw (own, left)
    (sym (path_of-rows_of_both rows tail c.requires.table.ascending (subst IsAscending c.rows.ensures.value c.rows.ensures.ascending)
    c.args.object self.from self.to))

pub first_of_both-requires-clause-near : goal.first_of_both-requires-clause-near
first_of_both-requires-clause-near g c =
    let near : Row → Type 0 = λ row. IsCellWithin row.cell in
    All-same near (rows_in c.track-own.result) _ c.track-own.ensures
    (All-filter _ near (rows_of_tail c.args.self.now.tail.now) (subst (All near) c.rows.ensures.value c.rows.ensures.near))

pub first_of_both-requires-clause-ascending : goal.first_of_both-requires-clause-ascending
first_of_both-requires-clause-ascending g c =
    let self = c.args.self.now in
    subst (IsStrictlySortedBy stop_order) (sym c.in_ok-walk.ensures.left)
    (path-rises (chart_in self.index.index.now).rows c.requires.table.ascending c.args.object (to_z w64 (of_z w64 self.from))
    (to_z w64 (of_z w64 self.to)))

-- the walk needs what an interval does
pub first_of_both-requires-clause-may : goal.first_of_both-requires-clause-may
first_of_both-requires-clause-may g c =
    let self = c.args.self.now in
    let parts : Parts = self.index.index.now in
    let region : Region = self.test.now.region in
    let end : ℤ = to_z w64 (of_z w64 self.to) in
    let low : to_z w64 (of_z w64 self.from) ≡ self.from = omega (arith, ints) in
    let high : end ≡ self.to = omega (arith, ints) in
    λ read needed. c.requires.may read
    (subst (λ z. IsTrue (needs_of parts (Interval self.from z region) read)) high
    (subst (λ z. IsTrue (needs_of parts (Interval z end region) read)) low (c.in_ok-walk.ensures.within region read needed)))

pub returns-in_default-clause-ok : goal.returns-in_default-clause-ok
returns-in_default-clause-ok g c =
    let at = (goal.at.returns-in_default-clause-ok g c).After-track-own in
    ap (option_map (hit_at c.args.object))
    (c.in_default.ensures.value ∙ ap (first_among c.args.self.now.test.now.region) (walked g at))

pub returns-clause-ok : goal.returns-clause-ok
returns-clause-ok g c =
    let at = (goal.at.returns-clause-ok g c).After-track-own in
    let same : to_z w64 (of_z w64 c.in-Some.stop.instant) ≡ c.in-Some.stop.instant = search rules in
    ap (λ (z : ℤ). Some (hit_at c.args.object (record { instant = z; cell = c.in-Some.stop.cell }))) same
    ∙ ap (option_map (hit_at c.args.object))
    (c.in-Some.ensures.value ∙ ap (first_among c.args.self.now.test.now.region) (walked g at))

-- the walk has no more reads to give than the path costs
bounded : (g : Over) (c : After-track-own g) → c.in_ok-walk.walk.reads ≤ cost_of c.args.self.now.index.index.now
    (Path c.args.object c.args.self.now.from c.args.self.now.to)
bounded g c =
    let self = c.args.self.now in
    let low : to_z w64 (of_z w64 self.from) ≡ self.from = omega (arith, ints) in
    let high : to_z w64 (of_z w64 self.to) ≡ self.to = omega (arith, ints) in
    rw (low, high) at c.in_ok-walk.ensures.budget

pub returns-in_default-clause-cost : goal.returns-in_default-clause-cost
returns-in_default-clause-cost g c =
    omega (arith, bounded g (goal.at.returns-in_default-clause-cost g c).After-track-own, c.in_default.ensures.cost)

pub returns-clause-cost : goal.returns-clause-cost
returns-clause-cost g c = omega (arith, bounded g (goal.at.returns-clause-cost g c).After-track-own, c.in-Some.ensures.cost)
