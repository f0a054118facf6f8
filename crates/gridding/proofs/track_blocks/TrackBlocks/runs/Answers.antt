use Rattle.std.proofs.Common.{◌≡◌, ◌∙◌, [], ◌∷◌, ◌++◌, None, ap, inl, inr, map, refl, rules, sym}
use Rattle.std.specs.List.{zip}
use Rattle.std.proofs.lemmas.List.{append-nil, append_assoc, map-append, nil_from_length}
use Rattle.std.proofs.lemmas.Slice.Zip.{either_empty_from_Zip}
use Rattle.list_laws.proofs.ZipLemmas.{zip-ended}
use Rattle.gridding.specs.Blocks.{RunRef, filled_of, run_in, runs_in, runs_of}
use Rattle.gridding.proofs.track_blocks.TrackBlocks.runs.Goals as goal

pub loop-object-init : goal.loop-object-init
unfolding runs_of
loop-object-init c = rw c.in_ok-runs.ensures.items (search rules)

pub loop-object-preserved : goal.loop-object-preserved
loop-object-preserved c =
    let done = c.loop-object.runs.items in
    let before = c.loop-object.object-iterator in
    let after = c.next.new.self in
    let rest = zip after.a.rest.now (map filled_of (zip after.b.a.rest.now after.b.b.rest.now)) in
    let run : RunRef = (c.in-Some.field-0-0.now, c.filled_part.result) in
    let first : run_in run ∷ rest
    ≡ zip before.a.rest.now (map filled_of (zip before.b.a.rest.now before.b.b.rest.now)) =
    rw (c.in-Some.ensures.steps.0, c.in-Some.ensures.steps.1.0, c.in-Some.ensures.steps.1.1, c.filled_part.ensures) refl in
    rw c.in_ok-push.ensures.items
    (ap (λ runs. runs ++ rest) (map-append run_in done (run ∷ []))
    ∙ append_assoc (runs_in done) (run_in run ∷ []) rest
    ∙ ap (λ left. runs_in done ++ left) first ∙ c.loop-object.invariant)

pub returns : goal.returns
returns c =
    let done = runs_in c.loop-object.runs.items in
    let iterator = c.loop-object.object-iterator in
    let blocks = iterator.b.a.rest.now in
    let lengths = iterator.b.b.rest.now in
    let places = map filled_of (zip blocks lengths) in
    let none : zip iterator.a.rest.now places ≡ [] = elim c.in-None.ensures.steps [
      | inl ended ↦ zip-ended iterator.a.rest.now places (inl (nil_from_length iterator.a.rest.now ended.1.0))
      | inr ended ↦ zip-ended iterator.a.rest.now places
          (inr (ap (map filled_of) (zip-ended blocks lengths (either_empty_from_Zip iterator.b ended.0 None refl ended.1))))
    ] in
    sym (append-nil done) ∙ ap (λ rest. done ++ rest) (sym none) ∙ c.loop-object.invariant
