use Rattle.std.proofs.Common.{◌≡◌, ◌∙◌, List, ◌++◌, length, drop, take, sym, ap, refl, subst, arith}
use Rattle.std.proofs.Math.Seq.{take-append_seam}
use Rattle.sample_rows.specs.Reached.{AreSpotsAt}
use Rattle.sample_rows.specs.Sample.{sample_rows}
use Rattle.sample_rows.specs.declared.spot.Spot.{Spot}
use Rattle.sample_rows.proofs.SampleLemmas.{sample_rows-few, sample_rows-more, sample_rows-one, sample_rows-some}
use Rattle.sample_rows.proofs.sampling.sample_rows.Goals as goal

pub loop-instant-init : goal.loop-instant-init
loop-instant-init c = record {
  before = 0;
  next = refl;
  many = c.in_ok-spots.ensures.many;
  reached = rw c.new-generator.ensures (c.in_ok-spots.ensures.reached c.args.seed);
  rows = c.in_ok-spots.ensures.rows c.args.seed ∙ sym (sample_rows-one c.args.objects c.args.seed);
  ranges = c.in_ok-spots.ensures.ranges;
}

pub loop-instant-preserved : goal.loop-instant-preserved
loop-instant-preserved c =
    let old = c.loop-instant.spots in
    let new = c.push_next.new.spots in
    let long : old.len ≡ length new =
    omega (arith, c.deref_mut.ensures.len, c.in_ok-push_next.ensures.many) in
    let back : take old.len (new ++ drop (length new) old.items) ≡ new =
    rw long (take-append_seam new (drop (length new) old.items)) in
    let Before : List Spot → Type 0 = λ spots.
    AreSpotsAt c.args.seed c.loop-instant.invariant.before spots c.loop-instant.generator.state in
    let reached = subst Before (sym c.deref_mut.ensures.value) c.loop-instant.invariant.reached in
    let many : length c.deref_mut.result.now ≡ c.args.objects =
    ap length c.deref_mut.ensures.value ∙ c.loop-instant.invariant.many in
    record {
      before = c.loop-instant.instant;
      next = omega arith;
      many = rw back (c.in_ok-push_next.ensures.many ∙ many);
      reached = rw back (c.in_ok-push_next.ensures.reached c.args.seed c.loop-instant.invariant.before
          c.loop-instant.invariant.next reached);
      rows = c.in_ok-push_next.ensures.rows c.args.seed c.loop-instant.invariant.before c.loop-instant.invariant.next reached
          ∙ rw (many, c.loop-instant.invariant.rows) (sym (sample_rows-more c.args.objects c.loop-instant.instant c.args.seed));
      ranges = c.in_ok-push_next.ensures.ranges c.loop-instant.invariant.ranges;
    }

pub returns-clause-some : goal.returns-clause-some
returns-clause-some c = λ none.
    let all : c.loop-instant.instant ≡ c.args.instants =
    omega (arith, c.loop-instant-test.false, c.loop-instant.auto.instant-end, c.requires.instants) in
    sample_rows-some c.args.objects c.args.instants c.args.seed c.requires.objects c.requires.instants
    (ap (λ instants. sample_rows c.args.objects instants c.args.seed) (sym all)
    ∙ sym c.loop-instant.invariant.rows ∙ none)

pub returns-clause-few : goal.returns-clause-few
returns-clause-few c =
    let all : c.loop-instant.instant ≡ c.args.instants =
    omega (arith, c.loop-instant-test.false, c.loop-instant.auto.instant-end, c.requires.instants) in
    let same : length c.loop-instant.rows.items ≡ length (sample_rows c.args.objects c.args.instants c.args.seed) =
    ap length (c.loop-instant.invariant.rows ∙ ap (λ instants. sample_rows c.args.objects instants c.args.seed) all) in
    omega (arith, same, sample_rows-few c.args.objects c.args.instants c.args.seed, c.requires.few)
