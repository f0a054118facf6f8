use Rattle.std.proofs.Common.{◌≡◌, ℕ, ℤ, List, max, ap, ◌+ℤ◌, length, arith, refl, subst, sym, ◌∙◌, to_z, of_z, w64}
use Rattle.std.proofs.lemmas.Grind.{common_steps}
use Rattle.std.proofs.lemmas.Int.{ints}
use Rattle.std.specs.Prelude.{slice_index}
use Rattle.rule_store.specs.Entry.{entry_of}
use Rattle.rule_store.proofs.NeedsLemmas.{within-places}
use Rattle.track_types.specs.Near.{IsCellWithin}
use Rattle.snapshots.specs.Ahead.{stored_entry}
use Rattle.snapshots.specs.Parts.{block_log}
use Rattle.snapshots.proofs.AheadLemmas.{range-at}
use Rattle.log_bounds.specs.Bounds.{hull_speed}
use Rattle.snapshots.proofs.LogsLemmas.{length-block_log, off_grid-found, off_grid-none, reading-more}
use Rattle.snapshots.proofs.LogsLemmas.{reading-none, IsReading}
use Rattle.log_bounds.proofs.SpeedLemmas.{speed-here, speed_before-all, speed_since-more}
use Rattle.log_bounds.proofs.BoxLemmas.{box_before-all, box_before-more}
use Rattle.snapshots.proofs.logs.read_log.Given.{Over}
use Rattle.snapshots.proofs.logs.read_log.Goals as goal
use Rattle.snapshots.proofs.logs.read_log.Goals.{After-next-entry}

-- the entry is that of the log's symbol
its : (g : Over) (c : After-next-entry g)
    → c.next-entry.result ≡ entry_of c.args.ahead.now.rules
    (slice_index (block_log c.args.ahead.now.rules c.args.block.now) c.loop-place.place)
its g c =
    let rules = c.args.ahead.now.rules in
    let block = c.args.block.now in
    c.next-entry.ensures.value ∙ ap (λ r. stored_entry r c.loop-place.ahead.place) c.loop-place.invariant.read.rules_are
    ∙ ap (stored_entry rules) c.loop-place.invariant.at
    ∙ sym (ap (entry_of rules) (range-at rules.symbols block.from block.len c.loop-place.place c.loop-place-test.true))

pub loop-place-init : goal.loop-place-init
loop-place-init g c = record {
  reading = reading-none c.args.frame.now c.args.ahead.now.rules c.args.block.now.cell
      (block_log c.args.ahead.now.rules c.args.block.now) c.requires.cell;
  begins = refl;
  fastest = omega arith;
  boxed = c.of.ensures;
  at = omega (arith, c.requires.at);
  read = record { rules_are = refl; end_is = refl; later = omega arith; within = c.requires.read; reads = omega arith };
}

pub next-entry-requires-clause-may : goal.next-entry-requires-clause-may
next-entry-requires-clause-may g c =
    let ahead = c.loop-place.ahead in
    let read = c.loop-place.invariant.read in
    within-places g.L.Reads.may (ahead.read, ahead.end) (c.args.ahead.now.read, c.args.ahead.now.end)
    (omega (arith, read.later)) (omega (arith, read.end_is)) c.requires.may

pub returns-then-passes_grid-clause-err : goal.returns-then-passes_grid-clause-err
returns-then-passes_grid-clause-err g c =
    let block = c.args.block.now in
    let place = c.loop-place in
    off_grid-found c.args.frame.now c.args.ahead.now.rules block.cell (block_log c.args.ahead.now.rules block) place.place place.cell
    place.duration place.invariant.reading
    (omega (arith, c.loop-place-test.true, length-block_log c.args.ahead.now.rules block c.requires.log))
    c.next-entry.result (its g (goal.at.returns-then-passes_grid-clause-err g c).After-next-entry)
    (sym c.if-passes_grid.true ∙ c.passes_grid.ensures)

-- the bounds begin in the grid
pub with-bounds-requires-clause-from : goal.with-bounds-requires-clause-from
with-bounds-requires-clause-from g c = subst IsCellWithin (sym c.loop-place.invariant.begins) c.requires.cell

pub loop-place-preserved : goal.loop-place-preserved
loop-place-preserved g c =
    let block = c.args.block.now in
    let place = c.loop-place in
    let entry = c.next-entry.result in
    let x : ℤ = to_z w64 (of_z w64 (to_z w64 (of_z w64 place.cell.x) +ℤ to_z w64 (of_z w64 entry.dx))) in
    let log : List ℕ = block_log c.args.ahead.now.rules block in
    let its = its g (goal.at.loop-place-preserved g c).After-next-entry in
    let y : ℤ = to_z w64 (of_z w64 (to_z w64 (of_z w64 place.cell.y) +ℤ to_z w64 (of_z w64 entry.dy))) in
    record {
      reading = reading-more c.args.frame.now c.args.ahead.now.rules block.cell log place.place place.cell place.duration
          place.invariant.reading
          (omega (arith, c.loop-place-test.true, length-block_log c.args.ahead.now.rules block c.requires.log)) entry its x y c.from-duration.result (sym c.if-passes_grid.false ∙ c.passes_grid.ensures) c.next-entry.ensures.reach
          (omega (arith, ints)) (omega (arith, ints)) c.from-duration.ensures;
      begins = c.with-bounds.ensures.from ∙ place.invariant.begins;
      fastest = speed_since-more c.args.ahead.now.rules block.cell log c.args.fastest place.place place.bounds.speed
          (hull_speed block.cell place.cell place.duration entry.hull) c.with-bounds.result.speed
          (c.with-bounds.ensures.speed
          ∙ ap (λ from. max place.bounds.speed (hull_speed from place.cell place.duration entry.hull)) place.invariant.begins)
          place.invariant.fastest
          (speed-here c.args.ahead.now.rules block.cell log place.place place.cell place.duration entry
          (hull_speed block.cell place.cell place.duration entry.hull) refl place.invariant.reading.stands
          place.invariant.reading.lasted its);
      boxed = box_before-more c.args.ahead.now.rules block.cell log place.place place.cell entry place.bounds.area
          c.with-bounds.result.area
          c.with-bounds.ensures.area place.invariant.boxed place.invariant.reading.stands its;
      at = omega (arith, c.next-entry.ensures.place, place.invariant.at);
      read = record {
        rules_are = c.next-entry.ensures.rules ∙ place.invariant.read.rules_are;
        end_is = c.next-entry.ensures.end ∙ place.invariant.read.end_is;
        later = omega (arith, c.next-entry.ensures.later, place.invariant.read.later);
        within = c.next-entry.ensures.within;
        reads = omega (arith, c.next-entry.ensures.cost, place.invariant.read.reads);
      };
    }

pub returns-clause-inside : goal.returns-clause-inside
returns-clause-inside g c =
    let block = c.args.block.now in
    let log : List ℕ = block_log c.args.ahead.now.rules block in
    let last : c.loop-place.place ≡ length log =
    omega (arith, c.loop-place-test.false, length-block_log c.args.ahead.now.rules block c.requires.log) in
    off_grid-none c.args.frame.now c.args.ahead.now.rules block.cell log c.loop-place.cell c.loop-place.duration
    (subst (λ p. IsReading c.args.frame.now c.args.ahead.now.rules block.cell log p c.loop-place.cell c.loop-place.duration)
    last c.loop-place.invariant.reading)

pub returns-clause-speed : goal.returns-clause-speed
returns-clause-speed g c =
    let block = c.args.block.now in
    let log : List ℕ = block_log c.args.ahead.now.rules block in
    let last : c.loop-place.place ≡ length log =
    omega (arith, c.loop-place-test.false, length-block_log c.args.ahead.now.rules block c.requires.log) in
    c.loop-place.invariant.fastest
    ∙ ap (max c.args.fastest) (speed_before-all c.args.ahead.now.rules block.cell log c.loop-place.place last)

pub returns-clause-area : goal.returns-clause-area
returns-clause-area g c =
    let block = c.args.block.now in
    let log : List ℕ = block_log c.args.ahead.now.rules block in
    let last : c.loop-place.place ≡ length log =
    omega (arith, c.loop-place-test.false, length-block_log c.args.ahead.now.rules block c.requires.log) in
    c.loop-place.invariant.boxed ∙ box_before-all c.args.ahead.now.rules block.cell log c.loop-place.place last

pub returns-clause-ok : goal.returns-clause-ok
returns-clause-ok g c = grind (arith, common_steps)
