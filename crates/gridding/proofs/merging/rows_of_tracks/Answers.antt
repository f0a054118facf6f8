use Rattle.std.proofs.Common.{◌≡◌, ◌∙◌, ◌≤◌, ◌<◌, ℕ, List, ap, arith, get_or, refl, take, rules}
use Rattle.std.specs.List.{flat_map}
use Rattle.std.specs.List.Sorted.{IsSortedBy, IsStableBy, IsStrictlySortedBy}
use Rattle.std.proofs.lemmas.List.{get_or_default, take_all}
use Rattle.std.proofs.lemmas.List.Elements.{All-nil}
use Rattle.std.proofs.lemmas.List.Sorted.{answers_always}
use Rattle.list_laws.proofs.FlatLemmas.{flat_map-next}
use Rattle.gridding.proofs.KeptLemmas.{found}
use Rattle.gridding.proofs.MergeLemmas.{alike-append, alike-order, is_lesser, next-object, no_run}
use Rattle.gridding.specs.Blocks.{RunRef}
use Rattle.gridding.specs.Merging.{rows_from_last, rows_of_merge}
use Rattle.gridding.proofs.merging.rows_of_tracks.Goals as goal

pub loop-object-init : goal.loop-object-init
loop-object-init c = record {
  next = λ j d low high. omega arith;
  survey = rw c.in_ok-with_capacity.ensures.items c.start.ensures;
  order = rw c.in_ok-with_capacity.ensures.items (record { ascending = unfold IsStrictlySortedBy in tt; lesser = All-nil (λ row. row.object < 0) });
  alike = λ sought. rw (c.in_ok-with_capacity.ensures.items, c.new.ensures.items) refl;
}

pub loop-object-preserved : goal.loop-object-preserved
loop-object-preserved c =
    let entries : List RunRef = c.deref-object-items.result.now in
    let done : ℕ = c.loop-object.object-index in
    let entry : RunRef = get_or entries done no_run in
    let is : entry ≡ get_or entries done entry = get_or_default entries done no_run entry c.loop-object-test.true in
    let up : IsSortedBy is_lesser entries = rw c.deref-object-items.ensures.value
    (c.in_ok-sort_by_key.ensures.sorted (λ other. other.0) (answers_always _ _ _ (λ f a r g h. search rules))) in
    let least : c.loop-object.merge.object ≤ (get_or entries done entry).0 =
    c.loop-object.invariant.next done entry (omega arith) c.loop-object-test.true in
    record {
      next = λ j d low high. rw c.in_ok-add_run.ensures.object
          (next-object entries done entry is up j d (omega arith) high);
      survey = c.in_ok-add_run.ensures.survey c.loop-object.invariant.survey;
      order = rw c.in_ok-add_run.ensures.object (c.in_ok-add_run.ensures.order (omega arith) c.loop-object.invariant.order);
      alike = λ sought. c.in_ok-add_run.ensures.alike sought
          ∙ alike-append (flat_map (rows_from_last c.args.origin) (take done entries)) (rows_of_merge c.args.origin c.loop-object.merge) (rows_from_last c.args.origin entry)
          c.loop-object.invariant.alike sought
          ∙ ap (found sought) (flat_map-next (rows_from_last c.args.origin) entries done entry c.loop-object-test.true is);
    }

pub returns : goal.returns
returns c =
    let order : List RunRef = c.reverse.new.self.items in
    let sorted : List RunRef = c.sort_by_key.new.self.items in
    let stable : IsStableBy is_lesser order sorted =
    c.in_ok-sort_by_key.ensures.stable (λ entry. entry.0) (answers_always _ _ _ (λ f a r g h. search rules)) in
    let all : take c.loop-object.object-index c.deref-object-items.result.now ≡ sorted =
    take_all c.loop-object.object-index c.deref-object-items.result.now c.loop-object-test.false
    ∙ c.deref-object-items.ensures.value in
    record {
      survey = c.in_ok-end_track.ensures.survey c.loop-object.invariant.survey;
      ascending = (c.in_ok-end_track.ensures.order c.loop-object.invariant.order).ascending;
      found = λ sought. c.in_ok-end_track.ensures.alike sought ∙ c.loop-object.invariant.alike sought
          ∙ ap (λ entries. found sought (flat_map (rows_from_last c.args.origin) entries)) all
          ∙ alike-order c.args.origin c.args.runs.items order sorted (search rules) stable sought;
    }
