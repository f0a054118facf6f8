use Rattle.std.proofs.Common.{◌≡◌, ◌++◌, w64, to_z, of_z, arith, ap, subst, sym, ◌∙◌}
use Rattle.std.proofs.lemmas.Int.{ints}
use Rattle.track_types.specs.declared.parts.Parts.{Parts}
use Rattle.rule_store.specs.Log.{log_of}
use Rattle.log_cursor.specs.Turn.{has_hull}
use Rattle.snapshots.specs.SoundParts.{IsValid}
use Rattle.object_track.specs.Between.{stops_between}
use Rattle.object_track.proofs.BetweenLemmas.{stops_between-none}
use Rattle.step_count.specs.Reads.{ofPeriod}
use Rattle.rule_store.specs.Needs.{places_of}
use Rattle.snapshots.specs.Parts.{snapshot_in}
use Rattle.snapshots.specs.View.{block_of}
use Rattle.track_index.proofs.NeedsLemmas.{is_left-next, placed-begun, walk-absent, walk-drawn, walk-log, walk-next}
use Rattle.track_index.proofs.PathLemmas.{drawing-absent, drawing-walk_from, drawn-in_time, drawn-walk}
use Rattle.track_index.proofs.path_walk.PathWalkLazy.draw.Goals as goal

-- the walk is over an index, whose parts are valid
valid_here : (stores parts own : Parts) → parts ≡ stores → stores ≡ own → IsValid own → IsValid parts
valid_here stores parts own its same valid = subst IsValid (sym (its ∙ same)) valid

-- the stop of the block that was begun
pub invariant_of-self : goal.invariant_of-self
invariant_of-self g c =
    let walk = c.loop-stop.self-inside in
    drawn-walk walk.index.now walk.object walk.from walk.to walk.periods.next walk.periods.end
    c.stores-stores.result.now c.args.self.now walk.block c.draw.new.self c.args.steps.now c.loop-stop.steps
    c.draw.new.steps c.in-Some.stop c.loop-stop.invariant.0 c.in-Some.ensures.found c.in-Some.ensures.rules

pub returns-in-Some-clause-in_time : goal.returns-in-Some-clause-in_time
returns-in-Some-clause-in_time g c =
    let walk = c.loop-stop.self-inside in
    drawn-in_time walk.index.now walk.object walk.from walk.to walk.periods.next walk.periods.end
    c.stores-stores.result.now c.args.self.now walk.block c.draw.new.self c.args.steps.now c.loop-stop.steps
    c.draw.new.steps c.in-Some.stop c.loop-stop.invariant.0 c.in-Some.ensures.found c.in-Some.ensures.cost
    c.in-Some.ensures.in_time

pub returns-then-self-clause-none : goal.returns-then-self-clause-none
returns-then-self-clause-none g c =
    let walk = c.loop-stop.self-inside in
    c.loop-stop.invariant.0.stops
    ∙ ap (λ stops. stops ++ stops_between walk.index.now walk.object walk.from walk.to walk.periods.next
    walk.periods.end) c.in_default.ensures.none
    ∙ stops_between-none walk.index.now walk.object walk.from walk.to walk.periods.next walk.periods.end
    (omega (arith, c.if-self.true))

pub loop-stop-preserved-in-Some-find : goal.loop-stop-preserved-in-Some-find
loop-stop-preserved-in-Some-find g c =
    let walk = c.loop-stop.self-inside in
    let placed = c.new-placed.ensures in
    let low : to_z w64 (of_z w64 walk.from) ≡ walk.from = omega (arith, ints) in
    let high : to_z w64 (of_z w64 walk.to) ≡ walk.to = omega (arith, ints) in (
      drawing-walk_from walk.index.now (valid_here c.stores-stores.result.now walk.index.now _ c.loop-stop.invariant.0.its
          c.stores-stores.ensures.value c.stores-stores.ensures.valid) walk.object walk.from walk.to walk.periods.next walk.periods.end
          (omega (arith, c.if-self.false)) c.stores-stores.result.now c.args.self.now walk.block c.draw.new.self
          c.args.steps.now c.loop-stop.steps c.draw.new.steps c.find.new.steps c.loop-stop.invariant.0
          c.in_default.ensures.none c.in_default.ensures.rules c.in_default.ensures.cost
          c.find.ensures.cost c.in-Some-find.block c.begin.new.self c.new-placed.result.log.rules.now
          (places_of c.new-placed.result.log) (log_of c.new-placed.result.log) c.new-placed.result.start (to_z w64 (of_z w64 walk.from))
          (to_z w64 (of_z w64 walk.to)) c.in-Some-find.ensures.value c.in-Some-find.ensures.block placed.rules placed.log placed.start low high
          c.begin.ensures.walk,
      λ read needed. c.loop-stop.invariant.1 read (walk-next has_hull walk.index.now walk.from walk.to walk.object
          walk.periods.next walk.periods.end c.loop-stop.invariant.0.walk.within (omega (arith, c.if-self.false)) c.begin.new.self
          walk.block c.in-Some-find.block (c.in-Some-find.ensures.value
          ∙ ap (λ (p : Parts). block_of (snapshot_in p walk.periods.next) walk.object) (sym c.loop-stop.invariant.0.its))
          (placed-begun c.stores-stores.result.now walk.index.now c.loop-stop.invariant.0.its walk.from walk.to
          (to_z w64 (of_z w64 walk.from)) (to_z w64 (of_z w64 walk.to)) low high walk.periods.next c.in-Some-find.block
          c.begin.new.self c.new-placed.result.log.rules.now (places_of c.new-placed.result.log) (log_of c.new-placed.result.log)
          c.new-placed.result.start placed.rules placed.places placed.log placed.start c.begin.ensures.walk) read needed),
    )

pub loop-stop-preserved : goal.loop-stop-preserved
loop-stop-preserved g c =
    let walk = c.loop-stop.self-inside in (
      drawing-absent walk.index.now (valid_here c.stores-stores.result.now walk.index.now _ c.loop-stop.invariant.0.its
          c.stores-stores.ensures.value c.stores-stores.ensures.valid) walk.object walk.from walk.to walk.periods.next walk.periods.end
          (omega (arith, c.if-self.false)) c.stores-stores.result.now c.args.self.now walk.block c.draw.new.self
          c.args.steps.now c.loop-stop.steps c.draw.new.steps c.find.new.steps c.loop-stop.invariant.0
          c.in_default.ensures.none c.in_default.ensures.rules c.in_default.ensures.cost
          c.find.ensures.cost c.in_default.ensures.found c.in_default-find.ensures.value,
      λ read needed. c.loop-stop.invariant.1 read (walk-absent has_hull walk.index.now walk.from walk.to walk.object
          walk.periods.next walk.periods.end c.loop-stop.invariant.0.walk.within (omega (arith, c.if-self.false)) c.draw.new.self
          walk.block c.in_default.ensures.needs read needed),
    )

-- what was not drawn is read by name as before
pub returns-in-Some-clause-needs : goal.returns-in-Some-clause-needs
returns-in-Some-clause-needs g c = λ read needed.
    let walk = c.loop-stop.self-inside in
    c.loop-stop.invariant.1 read (walk-drawn has_hull walk.index.now walk.from walk.to walk.object walk.periods.next
    walk.periods.end c.draw.new.self walk.block c.in-Some.ensures.needs read needed)

pub returns-then-self-clause-needs : goal.returns-then-self-clause-needs
returns-then-self-clause-needs g c = λ read needed.
    let walk = c.loop-stop.self-inside in
    c.loop-stop.invariant.1 read (walk-drawn has_hull walk.index.now walk.from walk.to walk.object walk.periods.next
    walk.periods.end c.draw.new.self walk.block c.in_default.ensures.needs read needed)

pub draw-requires : goal.draw-requires
draw-requires g c =
    let walk = c.loop-stop.self-inside in
    record {
      may = λ read needed. c.requires.may read (c.loop-stop.invariant.1 read (walk-log has_hull walk.index.now walk.from
          walk.to walk.object walk.periods.next walk.periods.end walk.block read needed));
    }

pub find-requires-clause-may : goal.find-requires-clause-may
find-requires-clause-may g c =
    let walk = c.loop-stop.self-inside in
    c.requires.may (ofPeriod walk.periods.next) (c.loop-stop.invariant.1 (ofPeriod walk.periods.next)
    (is_left-next walk.periods.next walk.periods.end (omega (arith, c.if-self.false))))
