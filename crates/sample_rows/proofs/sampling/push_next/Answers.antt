use Rattle.std.proofs.Common.{◌≡◌, ◌+◌, ◌∙◌, ℕ, Bool, true, false, List, [], ◌∷◌, ◌++◌, if◌then◌else◌, sym, ap, refl}
use Rattle.std.proofs.Common.{◌≤◌, length, set, subst, arith, All, rules}
use Rattle.std.proofs.lemmas.List.{append-nil, length-set}
use Rattle.std.proofs.lemmas.List.Elements.{All-push}
use Rattle.track_types.specs.Near.{IsRawInRange}
use Rattle.track_types.specs.declared.raw_row.RawRow.{RawRow}
use Rattle.sample_rows.specs.Reached.{AreSpotsAt}
use Rattle.sample_rows.specs.Sample.{is_absent, raw_row_of, rows_at}
use Rattle.sample_rows.proofs.SampleLemmas.{IsUnderWay, IsUnderWay-begun, IsUnderWay-done, IsUnderWay-next}
use Rattle.sample_rows.proofs.sampling.push_next.Goals.{then-not-is_absent+in_ok-push, else-not-is_absent}
use Rattle.sample_rows.proofs.sampling.push_next.Goals as goal

pub loop-object-init : goal.loop-object-init
loop-object-init c = record {
  many = refl;
  way = λ seed before instant reached.
      IsUnderWay-begun seed before c.args.spots.now c.args.generator.now.state c.args.rows.now.items reached;
  ranges = λ ranges. ranges;
}

pub loop-object-preserved : goal.loop-object-preserved
loop-object-preserved c =
    let value = c.draw-value.result in
    let rows_by : Bool → ℕ → List RawRow = λ absent instant.
    if absent then [] else raw_row_of instant c.loop-object.object c.after-spot.result ∷ [] in
    let came : c.if-not-is_absent.rows.items ≡ c.loop-object.rows.items ++ rows_by (is_absent value) c.args.instant =
    elim c.if-not-is_absent.branch [
      | then-not-is_absent+in_ok-push w ↦
          let present : is_absent value ≡ false = search rules in
          rw (w.rows-is, present) (w.in_ok-push.ensures.items ∙ rw w.row.ensures.value refl)
      | else-not-is_absent w ↦
          let absent : is_absent value ≡ true = search rules in
          rw (w.rows-is, absent) (sym (append-nil c.loop-object.rows.items))
    ] in
    let ranges : All IsRawInRange c.loop-object.rows.items → All IsRawInRange c.if-not-is_absent.rows.items =
    elim c.if-not-is_absent.branch [
      | then-not-is_absent+in_ok-push w ↦ λ earlier. rw (w.rows-is, w.in_ok-push.ensures.items)
          (All-push IsRawInRange c.loop-object.rows.items w.row.result earlier w.row.ensures.near)
      | else-not-is_absent w ↦ λ earlier. rw w.rows-is earlier
    ] in
    let below : c.loop-object.object + 1 ≤ length c.loop-object.spots = omega (arith, c.loop-object-test.true, c.loop-object.invariant.many) in
    record {
      many = length-set c.loop-object.spots c.loop-object.object c.after-spot.result ∙ c.loop-object.invariant.many;
      way = λ seed before instant reached.
          let Way : List RawRow → Type 0 = λ rows. IsUnderWay seed before (c.loop-object.object + 1)
          (set c.loop-object.spots c.loop-object.object c.after-spot.result) c.draw-value.new.self.state
          c.args.rows.now.items rows in
          let next = rows_by (is_absent value) c.args.instant in
          subst Way (sym came)
          (IsUnderWay-next seed before c.loop-object.spots c.loop-object.generator.state c.loop-object.object
          c.args.rows.now.items c.loop-object.rows.items next c.draw-value.new.self.state c.after-spot.result
          (c.loop-object.invariant.way seed before instant reached) (omega (arith, below)) c.draw-value.ensures.state
          (c.after-spot.ensures ∙ rw c.draw-value.ensures.value refl)
          (ap (rows_by (is_absent value)) instant ∙ rw c.draw-value.ensures.value refl));
      ranges = λ earlier. ranges (c.loop-object.invariant.ranges earlier);
    }

pub returns-clause-reached : goal.returns-clause-reached
returns-clause-reached c = λ seed before instant reached.
    let all : c.loop-object.object ≡ length c.loop-object.spots =
    omega (arith, c.loop-object-test.false, c.loop-object.auto.object-end, c.loop-object.invariant.many) in
    let Way : ℕ → Type 0 = λ object. IsUnderWay seed before object c.loop-object.spots c.loop-object.generator.state
    c.args.rows.now.items c.loop-object.rows.items in
    let Reached : ℕ → Type 0 = λ at. AreSpotsAt seed at c.loop-object.spots c.loop-object.generator.state in
    subst Reached (sym instant)
    (IsUnderWay-done seed before c.loop-object.spots c.loop-object.generator.state c.args.rows.now.items
    c.loop-object.rows.items (subst Way all (c.loop-object.invariant.way seed before instant reached)))

pub returns-clause-rows : goal.returns-clause-rows
unfolding rows_at
returns-clause-rows c = λ seed before instant reached.
    let all : c.loop-object.object ≡ length c.args.spots.now =
    omega (arith, c.loop-object-test.false, c.loop-object.auto.object-end) in
    let many : length c.loop-object.spots ≡ c.loop-object.object = c.loop-object.invariant.many ∙ sym all in
    rw (instant, sym all) ((c.loop-object.invariant.way seed before instant reached).came ∙ rw many refl)
