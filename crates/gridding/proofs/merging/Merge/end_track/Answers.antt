use Rattle.std.proofs.Common.{◌≡◌, ◌∙◌, [], ◌∷◌, ◌++◌, List, ap, get_or, map, rules}
use Rattle.std.specs.List.{dedup}
use Rattle.std.specs.List.Sorted.{IsSortedBy, IsStableBy}
use Rattle.std.proofs.lemmas.Fn.{dedup_same}
use Rattle.std.proofs.lemmas.List.{take_all}
use Rattle.std.proofs.lemmas.List.Sorted.{answers_always}
use Rattle.gridding.proofs.MergeLemmas.{alike-before, alike-track, is_earlier, is_same_instant, no_place, order-append, placed-more, rising-track}
use Rattle.track_types.specs.declared.row.Row.{Row}
use Rattle.gridding.specs.PackedPlace.{packed_row, elapsed_of}
use Rattle.gridding.specs.declared.packed_place.PackedPlace.{PackedPlace}
use Rattle.gridding.proofs.merging.Merge.end_track.Goals.{After-clear}
use Rattle.gridding.proofs.merging.Merge.end_track.Goals as goal

-- the track's first places of each instant are after the rows that were there
put : (c : After-clear) → c.loop-place.self.1.0.items
    ≡ c.args.self.now.made.items ++ map (packed_row c.args.origin c.args.self.now.object) (dedup is_same_instant c.sort_by_key.new.self.items)
put c =
    let deduped : c.dedup_by_key.new.self.items ≡ dedup is_same_instant c.sort_by_key.new.self.items =
    dedup_same _ is_same_instant _ (λ x y b f' x' y' k. search rules) _ _ c.dedup_by_key.ensures.filtered in
    c.loop-place.invariant.rows
    ∙ ap (λ places. c.args.self.now.made.items ++ map (packed_row c.args.origin c.args.self.now.object) places)
    (take_all c.loop-place.place-index c.deref-place-items.result.now c.loop-place-test.false ∙ c.deref-place-items.ensures.value ∙ deduped)

pub loop-place-preserved : goal.loop-place-preserved
loop-place-preserved c =
    let places : List PackedPlace = c.deref-place-items.result.now in
    let made : List Row = c.args.self.now.made.items in
    let object = c.args.self.now.object in
    let row = packed_row c.args.origin object (get_or places c.loop-place.place-index no_place) in
    let put : c.push.new.self.items ≡ c.loop-place.self.1.0.items ++ (row ∷ []) = search rules in
    record {
      rows = put ∙ ap (λ rows. rows ++ (row ∷ [])) c.loop-place.invariant.rows
          ∙ placed-more c.args.origin object made places c.loop-place.place-index no_place c.loop-place-test.true;
      survey = λ of. rw c.in_ok-push.ensures.items
          (c.with-survey.ensures c.loop-place.self.1.0.items (c.loop-place.invariant.survey of));
    }

pub returns-clause-survey : goal.returns-clause-survey
returns-clause-survey c = c.loop-place.invariant.survey

pub returns-clause-order : goal.returns-clause-order
returns-clause-order c = λ before.
    let sorted : List PackedPlace = c.sort_by_key.new.self.items in
    let up : IsSortedBy is_earlier sorted =
    c.in_ok-sort_by_key.ensures.sorted elapsed_of (answers_always _ _ _ (λ f a r g h. search rules)) in
    rw (put c) (order-append c.args.origin c.args.self.now.object c.args.self.now.made.items (dedup is_same_instant sorted) (rising-track sorted up) before)

pub returns-clause-alike : goal.returns-clause-alike
returns-clause-alike c =
    let track : List PackedPlace = c.args.self.now.track.items in
    let sorted : List PackedPlace = c.sort_by_key.new.self.items in
    let object = c.args.self.now.object in
    let stable : IsStableBy is_earlier track sorted =
    c.in_ok-sort_by_key.ensures.stable elapsed_of (answers_always _ _ _ (λ f a r g h. search rules)) in
    rw (put c) (alike-before c.args.self.now.made.items (map (packed_row c.args.origin object) track) (map (packed_row c.args.origin object) (dedup is_same_instant sorted))
    (alike-track c.args.origin object track sorted stable))
