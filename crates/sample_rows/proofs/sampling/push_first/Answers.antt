use Rattle.std.proofs.Common.{◌≡◌, ◌+◌, ◌∙◌, length, sym, ap, arith}
use Rattle.std.specs.List.{range_with_len}
use Rattle.std.proofs.lemmas.List.FromFn.{length-map-range_with_len, map-range_with_len_more}
use Rattle.std.proofs.lemmas.List.Elements.{All-push}
use Rattle.track_types.specs.Near.{IsRawInRange}
use Rattle.sample_rows.specs.Sample.{first_spot, rows_at}
use Rattle.sample_rows.proofs.SampleLemmas.{AreSpotsAt-first, first_row, rows-first}
use Rattle.sample_rows.proofs.sampling.push_first.Goals as goal

pub loop-object-preserved : goal.loop-object-preserved
loop-object-preserved c =
    let n = c.loop-object.object in
    let next : 0 + n ≡ n = omega arith in
    record {
      spots = c.in_ok-push.ensures.items
          ∙ rw (c.loop-object.invariant.spots, c.first-spot.ensures) (sym (map-range_with_len_more first_spot 0 n n next));
      rows = c.in_ok-push-2.ensures.items
          ∙ rw (c.loop-object.invariant.rows, c.row.ensures.value, c.first-spot.ensures)
          (sym (map-range_with_len_more first_row 0 n n next));
      ranges = rw c.in_ok-push-2.ensures.items (All-push IsRawInRange c.loop-object.rows.items c.row.result
          c.loop-object.invariant.ranges c.row.ensures.near);
    }

pub returns-clause-reached : goal.returns-clause-reached
returns-clause-reached c = λ seed.
    let all : c.loop-object.object ≡ c.args.objects = omega arith in
    rw c.loop-object.invariant.spots (AreSpotsAt-first c.loop-object.object seed)

pub returns-clause-many : goal.returns-clause-many
returns-clause-many c =
    let all : c.loop-object.object ≡ c.args.objects = omega arith in
    ap length c.loop-object.invariant.spots ∙ length-map-range_with_len first_spot 0 c.loop-object.object ∙ all

pub returns-clause-rows : goal.returns-clause-rows
unfolding rows_at
returns-clause-rows c = λ seed.
    let all : c.loop-object.object ≡ c.args.objects = omega arith in
    c.loop-object.invariant.rows
    ∙ rw all (sym (rows-first c.args.objects seed (range_with_len 0 c.args.objects)))
