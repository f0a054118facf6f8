use Rattle.std.proofs.Common.{◌≡◌, ◌≤◌, ◌^◌, ℕ, List, length, filter, ap, ◌∙◌, arith, rules}
use Rattle.std.specs.Prelude.{not}
use Rattle.std.proofs.lemmas.Fn.{filter_same}
use Rattle.track_types.specs.Quantities.{objects_of}
use Rattle.track_types.specs.declared.facts.Facts.{Facts}
use Rattle.track_types.specs.declared.parts.Parts.{Parts}
use Rattle.track_index.specs.Facts.{facts_of}
use Rattle.track_index.specs.Listed.{is_listed}
use Rattle.live_tail.specs.Facts.{joint_object_count}
use Rattle.live_tail.specs.Join.{rows_of_tail}
use Rattle.live_tail.specs.SmallRows.{rows_in}
use Rattle.live_tail.proofs.ObjectLemmas.{objects_of-any}
use Rattle.live_tail.proofs.tailed.object_count.Goals as goal
use Rattle.live_tail.proofs.tailed.object_count.Goals.{After-len}

-- the objects of the tail's rows
objects : (c : After-len) → c.in_ok-objects.objects.items ≡ objects_of (rows_in c.rows.result)
objects c =
    objects_of-any c.in_ok-objects.objects.items (rows_in c.rows.result) c.in_ok-objects.ensures.rising c.rows.ensures.ascending
    c.in_ok-objects.ensures.members

-- how many are listed
listed : (c : After-len) → c.facts.result.objects ≡ length c.args.index.now.objects
unfolding facts_of
listed c =
    ap (λ (f : Facts). f.objects) c.facts.ensures.value
    ∙ ap (λ (p : Parts). length p.objects) c.view-view.ensures

pub overflow_cast-result : goal.overflow_cast-result
overflow_cast-result c =
    let few : length c.in_ok-objects.objects.items ≤ 2 ^ 16 = omega (arith, ap length (objects (goal.at.overflow_cast-result c).After-len), c.rows.ensures.few) in
    omega (arith, c.len.ensures, c.retain.ensures.bound, few)

pub overflow_add-result : goal.overflow_add-result
overflow_add-result c =
    let few : length c.in_ok-objects.objects.items ≤ 2 ^ 16 = omega (arith, ap length (objects (goal.at.overflow_add-result c).After-len), c.rows.ensures.few) in
    omega (arith, c.len.ensures, c.retain.ensures.bound, few, listed (goal.at.overflow_add-result c).After-len, c.stores.ensures.valid.shaped.few)

pub returns : goal.returns
unfolding joint_object_count
returns c =
    let at = (goal.at.returns c).After-len in
    let known : List ℕ = c.args.index.now.objects in
    let kept = filter_same _ (λ object. not (is_listed object c.view-view.result.index.now.objects)) _ (λ x b f k. search rules)
    c.in_ok-objects.objects.items c.retain.new.self.items c.retain.ensures.filtered in
    let left : c.retain.new.self.items ≡ filter (λ object. not (is_listed object known)) (objects_of (rows_of_tail c.args.tail.now)) =
    kept ∙ ap (λ (p : Parts). filter (λ object. not (is_listed object p.objects)) c.in_ok-objects.objects.items) c.view-view.ensures
    ∙ ap (filter (λ object. not (is_listed object known))) (objects at ∙ ap objects_of c.rows.ensures.value) in
    record { is = omega (arith, listed at, c.len.ensures, ap length left) }
