use Rattle.std.proofs.Common.{◌≡◌, ◌∙◌, List, Ok, ap, get_or, refl, sym, take}
use Rattle.std.specs.Prelude.{ℤ}
use Rattle.std.specs.List.{flat_map}
use Rattle.std.proofs.lemmas.List.{get_or_default, take_all}
use Rattle.std.proofs.lemmas.List.Folds.{flat_map-map}
use Rattle.list_laws.proofs.FlatLemmas.{flat_map-next}
use Rattle.track_types.specs.Quantities.{instants_of}
use Rattle.track_types.specs.declared.row.Row.{Row}
use Rattle.gridding.proofs.GriddedLemmas.{blocks_anew}
use Rattle.gridding.proofs.MergeLemmas.{no_run}
use Rattle.gridding.proofs.RecountingLemmas.{IsExtentWithin-widened, IsOfExtent-widened, apart_by_cell, apart_by_instants, reached_from, within_near, within_word}
use Rattle.gridding.specs.Blocks.{RunRef, rows_of_run, rows_of_runs, run_in, runs_in, runs_of}
use Rattle.track_types.specs.Extents.{extent_over, widened}
use Rattle.track_types.specs.declared.extents.Extent.{Extent}
use Rattle.gridding.specs.declared.packed_place.Origin.{Origin}
use Rattle.gridding.proofs.track_blocks.TrackBlocks.recounted.Goals as goal

-- the extent is of the instants of all runs, and of the row's
extent_is : (origin : Origin) (instant : ℤ) (entries found : List RunRef) (of extent : Extent) → extent ≡ widened of instant →
    of ≡ extent_over (instants_of (rows_of_runs origin (runs_in found))) → found ≡ entries →
    extent ≡ widened (extent_over (instants_of (rows_of_runs origin (runs_in entries)))) instant
extent_is origin instant entries found of extent is exact same =
    is ∙ ap (λ own. widened own instant)
    (exact ∙ ap (λ runs. extent_over (instants_of (rows_of_runs origin (runs_in runs)))) same)

pub instants_before-requires-clause-near : goal.instants_before-requires-clause-near
instants_before-requires-clause-near c =
    let within = within_near c.args.row.instant c.requires.instant in
    rw (c.widened-extent.ensures, within_word c.args.row.instant within)
    (IsExtentWithin-widened c.extent_of.result c.args.row.instant c.extent_of.ensures.near within)

pub instants_before-requires-clause-inside : goal.instants_before-requires-clause-inside
instants_before-requires-clause-inside c =
    let word = within_word c.args.row.instant (within_near c.args.row.instant c.requires.instant) in
    rw (c.widened-extent.ensures, word) (IsOfExtent-widened c.extent_of.result c.args.row.instant)

pub returns-in_default-clause-apart : goal.returns-in_default-clause-apart
returns-in_default-clause-apart c =
    let word = within_word c.args.row.instant (within_near c.args.row.instant c.requires.instant) in
    let is =
    extent_is c.args.self.now.origin c.args.row.instant c.in_ok-runs.runs.items c.as_slice.result.now c.extent_of.result
    c.widened-extent.result (rw word at c.widened-extent.ensures) c.extent_of.ensures.exact c.as_slice.ensures.value in
    apart_by_instants c.args.row c.args.self.now c.widened-extent.result (rw c.in_ok-runs.ensures at is)
    c.in_default.ensures.none

pub returns-in_default-place-clause-apart : goal.returns-in_default-place-clause-apart
returns-in_default-place-clause-apart c =
    let word = within_word c.args.row.instant (within_near c.args.row.instant c.requires.instant) in
    apart_by_cell c.args.row c.args.self.now c.reaching-origin.result c.reaching-origin.ensures.cell
    (rw word at c.reaching-origin.ensures.counted) c.in_default-place.ensures.none

pub loop-object-init : goal.loop-object-init
loop-object-init c = record { blocks = c.counted_from-tracks.ensures.none; origin = refl }

pub loop-object-preserved : goal.loop-object-preserved
loop-object-preserved c =
    let f : RunRef → List Row = λ entry. rows_of_run c.args.self.now.origin (run_in entry) in
    let entries : List RunRef = c.deref-object-items.result.now in
    let done = c.loop-object.object-index in
    let entry : RunRef = get_or entries done no_run in
    let is : entry ≡ get_or entries done entry = get_or_default entries done no_run entry c.loop-object-test.true in
    let more = flat_map-next f entries done entry c.loop-object-test.true is in
    record {
      blocks = rw more at
          (c.in_ok-add_run.ensures.put (ap Ok c.if-not-branch.false) (flat_map f (take done entries))
          c.loop-object.invariant.blocks);
      origin = c.in_ok-add_run.ensures.origin ∙ c.loop-object.invariant.origin;
    }

pub returns-then-not-branch-clause-apart : goal.returns-then-not-branch-clause-apart
returns-then-not-branch-clause-apart c =
    let word = within_word c.args.row.instant (within_near c.args.row.instant c.requires.instant) in
    let entries : List RunRef = c.deref-object-items.result.now in
    let is =
    extent_is c.args.self.now.origin c.args.row.instant entries c.as_slice.result.now c.extent_of.result
    c.widened-extent.result (rw word at c.widened-extent.ensures) c.extent_of.ensures.exact
    (c.as_slice.ensures.value ∙ sym c.deref-object-items.ensures.value) in
    let reached =
    reached_from c.args.self.now.origin c.reaching-origin.result c.args.row entries c.widened-extent.result c.in-Some.before
    c.reaching-origin.ensures.cell (rw word at c.reaching-origin.ensures.exact) is (rw word at c.in-Some.ensures.exact)
    c.loop-object.object-index no_run c.loop-object-test.true in
    absurd (c.in_ok-add_run.ensures.far (ap Ok c.if-not-branch.true)
    (rw (c.loop-object.invariant.origin ∙ c.counted_from-tracks.ensures.origin) reached))

pub returns-clause-kept : goal.returns-clause-kept
returns-clause-kept c = λ rows blocks.
    let origin = c.args.self.now.origin in
    let f : RunRef → List Row = λ entry. rows_of_run origin (run_in entry) in
    let entries : List RunRef = c.deref-object-items.result.now in
    let all : flat_map f (take c.loop-object.object-index entries) ≡ rows_of_runs origin (runs_of c.args.self.now) =
    ap (flat_map f) (take_all c.loop-object.object-index entries c.loop-object-test.false ∙ c.deref-object-items.ensures.value)
    ∙ sym (flat_map-map (rows_of_run origin) run_in c.in_ok-runs.runs.items)
    ∙ ap (rows_of_runs origin) c.in_ok-runs.ensures in
    blocks_anew rows c.args.self.now c.loop-object.tracks blocks (rw all at c.loop-object.invariant.blocks)

pub returns-clause-reached : goal.returns-clause-reached
returns-clause-reached c =
    rw (c.loop-object.invariant.origin ∙ c.counted_from-tracks.ensures.origin) c.in-Some-place.ensures.near
