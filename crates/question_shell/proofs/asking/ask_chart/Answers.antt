use Rattle.std.proofs.Common.{◌≡◌, ◌≤◌, ◌∙◌, ap, arith, length, map, refl}
use Rattle.std.specs.Prelude.{option_to_list}
use Rattle.std.proofs.lemmas.List.{length-map}
use Rattle.track_types.specs.ByFilter.{hits_of, nears_of, path_of, sightings_of}
use Rattle.track_types.specs.Meeting.{meeting_of}
use Rattle.track_types.specs.Near.{IsAsked, IsCellAsked}
use Rattle.track_types.specs.Region.{IsRegionAsked}
use Rattle.track_types.specs.declared.limit.TheConstants.{MAX_REACH}
use Rattle.track_types.specs.declared.question.Question.TheVariants as question
use Rattle.question_shell.specs.declared.item.Item.TheVariants as item
use Rattle.question_shell.proofs.CountLemmas.{asked_kept, few-one, length-path_of}
use Rattle.question_shell.proofs.asking.ask_chart.Goals as goal

pub returns-in_ok-stops-in-Path-clause-ok : goal.returns-in_ok-stops-in-Path-clause-ok
returns-in_ok-stops-in-Path-clause-ok g c desk =
    let arm = c.in-Path in
    let asked : c.args.question.now ≡ question.Path arm.object arm.from arm.to = arm.is in
    let near : IsAsked arm.from × IsAsked arm.to = rw asked at c.requires.asked in
    let rows = (g.A.Answerer.chart c.args.answerer).rows in
    let walk = c.in_ok-stops-in-Path.stops in
    let path : g.A.Walk.Lazy.left walk ≡ path_of rows arm.object arm.from arm.to =
    simp (asked_kept arm.from near.0, asked_kept arm.to near.1) at c.in_ok-stops-in-Path.ensures.left in
    let budget = simp (asked_kept arm.from near.0, asked_kept arm.to near.1) at c.in_ok-stops-in-Path.ensures.budget in
    let few = length-path_of rows arm.object arm.from arm.to c.facts-facts.ensures.table.ascending near.0 near.1 in
    rw asked (record {
      slot = tt;
      items = ap (map item.Stop) path;
      few = omega (arith, few, ap length path, length-map (g.A.Walk.Lazy.left walk) item.Stop);
      refusal = refl;
      held = refl;
      reads = omega (arith, budget);
    })

pub returns-in_ok-found-in-Slice-clause-ok : goal.returns-in_ok-found-in-Slice-clause-ok
returns-in_ok-found-in-Slice-clause-ok g c desk =
    let arm = c.in-Slice in
    let asked : c.args.question.now ≡ question.Slice arm.instant arm.region = arm.is in
    let near : IsAsked arm.instant × IsRegionAsked arm.region = rw asked at c.requires.asked in
    let found : c.in_ok-found-in-Slice.found.items ≡ sightings_of (g.A.Answerer.chart c.args.answerer).rows arm.instant arm.region =
    simp (asked_kept arm.instant near.0) at c.in_ok-found-in-Slice.ensures.ok in
    let cost = simp (asked_kept arm.instant near.0) at c.slice.ensures.cost in
    rw asked (record {
      slot = tt;
      items = ap (map item.Sighting) (c.new.ensures.items ∙ found);
      few = omega (arith, c.new.ensures.few, length-map c.new.result item.Sighting);
      refusal = refl;
      held = refl;
      reads = omega (arith, cost);
    })

pub returns-in_ok-found-in-Interval-clause-ok : goal.returns-in_ok-found-in-Interval-clause-ok
returns-in_ok-found-in-Interval-clause-ok g c desk =
    let arm = c.in-Interval in
    let asked : c.args.question.now ≡ question.Interval arm.from arm.to arm.region = arm.is in
    let near : IsAsked arm.from × IsAsked arm.to × IsRegionAsked arm.region = rw asked at c.requires.asked in
    let found : c.in_ok-found-in-Interval.found.items ≡ hits_of (g.A.Answerer.chart c.args.answerer).rows arm.from arm.to arm.region =
    simp (asked_kept arm.from near.0, asked_kept arm.to near.1) at c.in_ok-found-in-Interval.ensures.ok in
    let cost = simp (asked_kept arm.from near.0, asked_kept arm.to near.1) at c.interval.ensures.cost in
    rw asked (record {
      slot = tt;
      items = ap (map item.Hit) (c.new-in-Interval.ensures.items ∙ found);
      few = omega (arith, c.new-in-Interval.ensures.few, length-map c.new-in-Interval.result item.Hit);
      refusal = refl;
      held = refl;
      reads = omega (arith, cost);
    })

pub returns-in_ok-found-in-Nearest-clause-ok : goal.returns-in_ok-found-in-Nearest-clause-ok
returns-in_ok-found-in-Nearest-clause-ok g c desk =
    let arm = c.in-Nearest in
    let asked : c.args.question.now ≡ question.Nearest arm.count arm.instant arm.cell = arm.is in
    let near : IsAsked arm.instant × IsCellAsked arm.cell = rw asked at c.requires.asked in
    let found : c.in_ok-found-in-Nearest.found.items ≡ nears_of (g.A.Answerer.chart c.args.answerer).rows arm.count arm.instant arm.cell =
    simp (asked_kept arm.instant near.0) at c.in_ok-found-in-Nearest.ensures.ok in
    let cost = simp (asked_kept arm.instant near.0) at c.nearest.ensures.cost in
    rw asked (record {
      slot = tt;
      items = ap (map item.Near) (c.new-in-Nearest.ensures.items ∙ found);
      few = omega (arith, c.new-in-Nearest.ensures.few, length-map c.new-in-Nearest.result item.Near);
      refusal = refl;
      held = refl;
      reads = omega (arith, cost);
    })

pub returns-in_ok-found-in-Meet-clause-ok : goal.returns-in_ok-found-in-Meet-clause-ok
returns-in_ok-found-in-Meet-clause-ok g c desk =
    let arm = c.in-Meet in
    let asked : c.args.question.now ≡ question.Meet arm.left arm.right arm.from arm.to arm.reach = arm.is in
    let near : IsAsked arm.from × IsAsked arm.to × (arm.reach ≤ MAX_REACH) = rw asked at c.requires.asked in
    let rows = (g.A.Answerer.chart c.args.answerer).rows in
    let found : c.in_ok-found-in-Meet.found ≡ meeting_of rows arm.left arm.right arm.from arm.to arm.reach =
    simp (asked_kept arm.from near.0, asked_kept arm.to near.1) at c.in_ok-found-in-Meet.ensures.ok in
    let cost = simp (asked_kept arm.from near.0, asked_kept arm.to near.1) at c.meet.ensures.cost in
    rw asked (record {
      slot = tt;
      items = c.one_meeting.ensures ∙ ap (λ found. map item.Meeting (option_to_list found)) found;
      few = few-one c.one_meeting.result;
      refusal = refl;
      held = refl;
      reads = omega (arith, cost);
    })
