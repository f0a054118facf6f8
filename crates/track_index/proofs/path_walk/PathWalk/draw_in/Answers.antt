use Rattle.std.proofs.Common.{◌≡◌, [], to_z, of_z, w64, ap, refl, arith, subst, sym, ◌∙◌}
use Rattle.std.proofs.lemmas.Int.{ints}
use Rattle.track_types.specs.declared.parts.Parts.{Parts}
use Rattle.step_count.specs.Reads.{ReadsWithin, ofPeriod}
use Rattle.rule_store.specs.Log.{log_of}
use Rattle.snapshots.specs.SoundParts.{IsValid}
use Rattle.track_index.specs.Path.{IsSeekingIn, PathView, path_needs, rest_needs}
use Rattle.log_cursor.specs.Touching.{touches_at}
use Rattle.rule_store.specs.Needs.{places_of}
use Rattle.snapshots.specs.Parts.{snapshot_in}
use Rattle.snapshots.specs.View.{block_of}
use Rattle.track_index.proofs.NeedsLemmas.{is_left-next, placed-begun, walk-absent, walk-drawn, walk-log, walk-next}
use Rattle.track_index.proofs.PathLemmas.{drawing-absent, drawing-walk_from}
use Rattle.track_index.proofs.SeekingLemmas.{drawing-here, seeking-end, seeking-hit, seeking-on, seeking-passed, seeking-walk}
use Rattle.track_index.proofs.path_walk.PathWalk.draw_in.Given.{Over}
use Rattle.track_index.proofs.path_walk.PathWalk.draw_in.Goals as goal
use Rattle.track_index.proofs.path_walk.PathWalk.draw_in.Goals.{In_default}

-- the walk is over an index, whose parts are valid
valid_here : (stores parts own : Parts) → parts ≡ stores → stores ≡ own → IsValid own → IsValid parts
valid_here stores parts own its same valid = subst IsValid (sym (its ∙ same)) valid

pub loop-stop-init : goal.loop-stop-init
loop-stop-init g c =
    let walk = c.self.inside in
    let may = touches_at c.args.test.now.region in (
      subst (λ (first : PathView). IsSeekingIn c.args.test.now.region first c.args.steps.now c.stores-stores.result.now
          walk.index.now walk.object walk.from walk.to walk.periods.next walk.periods.end walk.block c.args.steps.now) c.self.view_is
          (record {
            its = sym c.stores-stores.ensures.value;
            walk = c.self.invariant;
            passed = [];
            all = refl;
            outside = refl;
            reads = omega arith;
          }),
      subst (λ (first : PathView). ReadsWithin (rest_needs may walk.block walk.index.now walk.object walk.from walk.to
          walk.periods.next walk.periods.end) (path_needs may first))
          c.self.view_is (λ read needed. needed),
    )

-- the block that was begun has a hit
pub invariant_of-self : goal.invariant_of-self
invariant_of-self g c =
    seeking-walk c.loop-stop.invariant.0 c.in-Some.ensures.drawn c.in-Some.ensures.rules

pub returns-in-Some-clause-drawn : goal.returns-in-Some-clause-drawn
returns-in-Some-clause-drawn g c =
    seeking-hit c.loop-stop.invariant.0 c.draw_in.new.self c.in-Some.stop c.in-Some.ensures.drawn

-- it has none: all of it was passed
passed : (g : Over) (c : In_default g) → IsSeekingIn c.args.test.now.region c.args.self.now c.args.steps.now
    c.stores-stores.result.now c.loop-stop.self-inside.index.now c.loop-stop.self-inside.object c.loop-stop.self-inside.from
    c.loop-stop.self-inside.to c.loop-stop.self-inside.periods.next c.loop-stop.self-inside.periods.end
    c.draw_in.new.self c.draw_in.new.steps
passed g c =
    seeking-passed c.loop-stop.invariant.0 c.in_default.ensures.drawn c.in_default.ensures.rules c.draw_in.new.steps refl
    c.in_default.ensures.cost

pub returns-then-self-clause-drawn : goal.returns-then-self-clause-drawn
returns-then-self-clause-drawn g c =
    seeking-end (passed g (goal.at.returns-then-self-clause-drawn g c).In_default) c.in_default.ensures.drawn.end
    (omega (arith, c.if-self.true))

pub loop-stop-preserved-in-Some-find : goal.loop-stop-preserved-in-Some-find
loop-stop-preserved-in-Some-find g c =
    let walk = c.loop-stop.self-inside in
    let may = touches_at c.args.test.now.region in
    let placed = c.new-placed.ensures in
    let seeking = passed g (goal.at.loop-stop-preserved-in-Some-find g c).In_default in
    let low : to_z w64 (of_z w64 walk.from) ≡ walk.from = omega (arith, ints) in
    let high : to_z w64 (of_z w64 walk.to) ≡ walk.to = omega (arith, ints) in (
      seeking-on seeking (drawing-walk_from walk.index.now (valid_here c.stores-stores.result.now walk.index.now _
          seeking.its c.stores-stores.ensures.value c.stores-stores.ensures.valid) walk.object walk.from walk.to walk.periods.next
          walk.periods.end (omega (arith, c.if-self.false)) c.stores-stores.result.now _ c.draw_in.new.self c.draw_in.new.self
          c.draw_in.new.steps c.draw_in.new.steps c.draw_in.new.steps c.find.new.steps
          (drawing-here c.stores-stores.result.now walk.index.now walk.object walk.from walk.to walk.periods.next walk.periods.end
          c.draw_in.new.self c.draw_in.new.steps seeking.its seeking.walk)
          c.in_default.ensures.drawn.end refl (omega arith)
          c.find.ensures.cost c.in-Some-find.block c.begin.new.self c.new-placed.result.log.rules.now
          (places_of c.new-placed.result.log) (log_of c.new-placed.result.log) c.new-placed.result.start (to_z w64 (of_z w64 walk.from))
          (to_z w64 (of_z w64 walk.to)) c.in-Some-find.ensures.value c.in-Some-find.ensures.block placed.rules placed.log placed.start low high
          c.begin.ensures.walk),
      λ read needed. c.loop-stop.invariant.1 read (walk-next may walk.index.now walk.from walk.to walk.object
          walk.periods.next walk.periods.end seeking.walk.within (omega (arith, c.if-self.false)) c.begin.new.self
          walk.block c.in-Some-find.block (c.in-Some-find.ensures.value
          ∙ ap (λ (p : Parts). block_of (snapshot_in p walk.periods.next) walk.object) (sym seeking.its))
          (placed-begun c.stores-stores.result.now walk.index.now seeking.its walk.from walk.to
          (to_z w64 (of_z w64 walk.from)) (to_z w64 (of_z w64 walk.to)) low high walk.periods.next c.in-Some-find.block
          c.begin.new.self c.new-placed.result.log.rules.now (places_of c.new-placed.result.log) (log_of c.new-placed.result.log)
          c.new-placed.result.start placed.rules placed.places placed.log placed.start c.begin.ensures.walk) read needed),
    )

pub loop-stop-preserved : goal.loop-stop-preserved
loop-stop-preserved g c =
    let walk = c.loop-stop.self-inside in
    let may = touches_at c.args.test.now.region in
    let seeking = passed g (goal.at.loop-stop-preserved g c).In_default in (
      seeking-on seeking (drawing-absent walk.index.now (valid_here c.stores-stores.result.now walk.index.now _
          seeking.its c.stores-stores.ensures.value c.stores-stores.ensures.valid) walk.object walk.from walk.to walk.periods.next
          walk.periods.end (omega (arith, c.if-self.false)) c.stores-stores.result.now _ c.draw_in.new.self c.draw_in.new.self
          c.draw_in.new.steps c.draw_in.new.steps c.draw_in.new.steps c.find.new.steps
          (drawing-here c.stores-stores.result.now walk.index.now walk.object walk.from walk.to walk.periods.next walk.periods.end
          c.draw_in.new.self c.draw_in.new.steps seeking.its seeking.walk)
          c.in_default.ensures.drawn.end refl (omega arith)
          c.find.ensures.cost refl c.in_default-find.ensures.value),
      λ read needed. c.loop-stop.invariant.1 read (walk-absent may walk.index.now walk.from walk.to walk.object
          walk.periods.next walk.periods.end seeking.walk.within (omega (arith, c.if-self.false)) c.draw_in.new.self
          walk.block c.in_default.ensures.needs read needed),
    )

-- what was not drawn is read by name as before
pub returns-in-Some-clause-needs : goal.returns-in-Some-clause-needs
returns-in-Some-clause-needs g c = λ read needed.
    let walk = c.loop-stop.self-inside in
    let may = touches_at c.args.test.now.region in
    c.loop-stop.invariant.1 read (walk-drawn may walk.index.now walk.from walk.to walk.object walk.periods.next
    walk.periods.end c.draw_in.new.self walk.block c.in-Some.ensures.needs read needed)

pub returns-then-self-clause-needs : goal.returns-then-self-clause-needs
returns-then-self-clause-needs g c = λ read needed.
    let walk = c.loop-stop.self-inside in
    let may = touches_at c.args.test.now.region in
    c.loop-stop.invariant.1 read (walk-drawn may walk.index.now walk.from walk.to walk.object walk.periods.next
    walk.periods.end c.draw_in.new.self walk.block c.in_default.ensures.needs read needed)

pub draw_in-requires : goal.draw_in-requires
draw_in-requires g c =
    let walk = c.loop-stop.self-inside in
    let may = touches_at c.args.test.now.region in
    record {
      may = λ read needed. c.requires.may read (c.loop-stop.invariant.1 read (walk-log may walk.index.now walk.from
          walk.to walk.object walk.periods.next walk.periods.end walk.block read needed));
    }

pub find-requires-clause-may : goal.find-requires-clause-may
find-requires-clause-may g c =
    let walk = c.loop-stop.self-inside in
    c.requires.may (ofPeriod walk.periods.next) (c.loop-stop.invariant.1
    (ofPeriod walk.periods.next) (is_left-next walk.periods.next walk.periods.end (omega (arith, c.if-self.false))))
