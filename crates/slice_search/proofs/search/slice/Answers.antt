use Rattle.std.proofs.Common.{◌≡◌, ◌+◌, ◌<◌, ◌≤◌, IsTrue, None, Some, w64, to_z, of_z, ap, sym, subst, ◌∙◌, arith, rules}
use Rattle.std.proofs.lemmas.Int.{ints}
use Rattle.std.proofs.lemmas.List.Sorted.{IsNonDecreasingBy-from_sort_by_key}
use Rattle.step_count.specs.Reads.{ofPeriod}
use Rattle.track_types.specs.Frame.{periods_of}
use Rattle.snapshots.specs.Parts.{period_in}
use Rattle.snapshots.specs.Needs.{is_found}
use Rattle.snapshots.proofs.NeedsLemmas.{is_found-same, within-period}
use Rattle.object_track.proofs.MetLemmas.{period_in-some}
use Rattle.slice_search.specs.Cost.{period_search_cost, slice_cost}
use Rattle.slice_search.specs.Sightings.{AreSightings}
use Rattle.slice_search.specs.Sought.{latest_in}
use Rattle.slice_search.proofs.NeedsLemmas.{may-search}
use Rattle.slice_search.proofs.SliceLemmas.{object_of, sightings_of-outside, slice_cost-some, slice-sorted}
use Rattle.slice_search.proofs.search.slice.Given.{Over}
use Rattle.slice_search.proofs.search.slice.Goals as goal
use Rattle.slice_search.proofs.search.slice.Goals.{After-sightings, In-Some}

-- the period of the instant
when : (g : Over) (c : In-Some g) → period_in c.args.stores.now.frame c.args.instant ≡ Some c.in-Some.period
when g c = sym (c.in-Some.ensures.value ∙ ap (period_in c.args.stores.now.frame) (omega (arith, ints)))

-- it is one of the index's
within : (g : Over) (c : In-Some g) → c.in-Some.period < periods_of c.args.stores.now.frame
within g c =
    (period_in-some c.args.stores.now.frame c.period_of.ensures.valid.shaped.header c.args.instant c.in-Some.period (when g c)).0

pub invariant_of-sought : goal.invariant_of-sought
invariant_of-sought g c = record { known = within g (goal.at.invariant_of-sought g c).In-Some }

-- which may be read
allowed : (g : Over) (c : In-Some g) → IsTrue (g.L.Reads.may (ofPeriod c.in-Some.period))
allowed g c =
    c.requires.may (ofPeriod c.in-Some.period)
    (is_found-same (period_in c.args.stores.now.frame c.args.instant) c.in-Some.period (when g c))

pub sightings-requires-clause-may : goal.sightings-requires-clause-may
sightings-requires-clause-may g c = λ read needed.
    within-period g.L.Reads.may c.in-Some.period (allowed g (goal.at.sightings-requires-clause-may g c).In-Some) read
    (c.blocks-blocks.ensures.needs read needed)

pub sightings-requires-clause-logs : goal.sightings-requires-clause-logs
sightings-requires-clause-logs g c =
    let parts = c.args.stores.now in
    let at = (goal.at.sightings-requires-clause-logs g c).In-Some in
    let found = period_in parts.frame c.args.instant in
    let region = c.args.test.now.region in
    let same : to_z w64 (of_z w64 c.args.instant) ≡ c.args.instant = omega (arith, ints) in
    rw same (may-search g.L.Reads.may parts (is_found found) c.args.instant c.args.instant region c.requires.may
    c.in-Some.period (within g at) (is_found-same found c.in-Some.period (when g at)))

-- the reads of the search in the period
reads : (g : Over) (c : After-sightings g)
    → c.sightings.new.steps ≤ c.args.steps.now + slice_cost c.args.stores.now c.args.instant c.args.test.now.region
reads g c =
    let parts = c.args.stores.now in
    let region = c.args.test.now.region in
    let same : to_z w64 (of_z w64 c.args.instant) ≡ c.args.instant = omega (arith, ints) in
    let is : period_in parts.frame c.args.instant ≡ Some c.in-Some.period =
    sym (c.in-Some.ensures.value ∙ ap (period_in parts.frame) same) in
    omega (
      arith,
      c.sightings.ensures.cost,
      c.blocks-blocks.ensures.cost,
      ap (λ z. period_search_cost parts c.in-Some.period z z region (latest_in parts.frame c.in-Some.period z)) same,
      slice_cost-some parts c.period_of.ensures.valid.shaped.header c.args.instant region c.in-Some.period is,
    )

pub returns-in_err-found-clause-cost : goal.returns-in_err-found-clause-cost
returns-in_err-found-clause-cost g c = reads g (goal.at.returns-in_err-found-clause-cost g c).After-sightings

pub returns-clause-cost : goal.returns-clause-cost
returns-clause-cost g c = reads g (goal.at.returns-clause-cost g c).After-sightings

pub returns-in_default-clause-ok : goal.returns-in_default-clause-ok
returns-in_default-clause-ok g c =
    let parts = c.args.stores.now in
    let same : to_z w64 (of_z w64 c.args.instant) ≡ c.args.instant = omega (arith, ints) in
    let none : None ≡ c.period_of.result = search rules in
    c.new.ensures.items ∙ sightings_of-outside parts c.period_of.ensures.valid c.args.instant c.args.test.now.region
    (sym (none ∙ c.period_of.ensures.value ∙ ap (period_in parts.frame) same))

pub returns-clause-ok : goal.returns-clause-ok
returns-clause-ok g c =
    let parts = c.args.stores.now in
    let region = c.args.test.now.region in
    let at = (goal.at.returns-clause-ok g c).In-Some in
    let same : to_z w64 (of_z w64 c.args.instant) ≡ c.args.instant = omega (arith, ints) in
    let are : AreSightings parts c.in-Some.period (to_z w64 (of_z w64 c.args.instant)) region c.in_ok-found.found.items =
    record {
      blocks = _;
      their = c.in_ok-found.ensures.ok;
      sought = c.blocks-blocks.ensures.sought;
    } in
    slice-sorted parts c.period_of.ensures.valid c.args.instant c.in-Some.period (within g at) region
    c.in_ok-found.found.items c.sort_unstable_by_key.new.self.items (when g at)
    (subst (λ z. AreSightings parts c.in-Some.period z region c.in_ok-found.found.items) same are)
    c.sort_unstable_by_key.ensures.permutation
    (IsNonDecreasingBy-from_sort_by_key object_of _ c.sort_unstable_by_key.ensures.sorted (λ a r q k. search rules))
