use Rattle.std.proofs.Common.{◌≡◌, ◌∙◌, ◌+◌, ◌≤◌, ℕ, ap, arith, refl, sym}
use Rattle.std.proofs.lemmas.List.{append-nil}
use Rattle.gridding.proofs.KeptLemmas.{found}
use Rattle.gridding.proofs.MergeLemmas.{alike-run, order-weaker}
use Rattle.gridding.specs.Merging.{AreInOrder, FindAlike, IsSurveyed, rows_of_merge}
use Rattle.gridding.specs.declared.merging.Merge.{Merge}
use Rattle.gridding.specs.declared.packed_place.Origin.{Origin}
use Rattle.gridding.proofs.merging.Merge.add_run.Goals.{then-object-self+in_ok-end_track, else-object-self}
use Rattle.gridding.proofs.merging.Merge.add_run.Goals as goal

-- a track of the run's object is begun or goes on
record IsBegun (origin : Origin) (old : Merge) (object : ℕ) (begun : Merge) : Type 0 where
  own : begun.object ≡ object
  order : old.object ≤ object → AreInOrder old.object old.made.items → AreInOrder object begun.made.items
  alike : FindAlike (rows_of_merge origin old) (rows_of_merge origin begun)
  survey : IsSurveyed old → IsSurveyed begun

pub returns : goal.returns
returns c =
    let old : Merge = c.args.self.now in
    let object : ℕ = c.args.object in
    let begun : Merge = c.if-object-self.self in
    let start : IsBegun c.args.origin old object begun = elim c.if-object-self.branch [
      | then-object-self+in_ok-end_track w ↦ rw w.self-is (record {
        own = refl;
        order = λ up before. order-weaker (old.object + 1) object w.end_track.new.self.made.items (let differ = w.if-object-self.true in omega arith)
            (w.in_ok-end_track.ensures.order before);
        alike = λ sought. rw w.in_ok-end_track.ensures.ended
            (ap (found sought) (append-nil w.end_track.new.self.made.items) ∙ w.in_ok-end_track.ensures.alike sought);
        survey = w.in_ok-end_track.ensures.survey;
      })
      | else-object-self w ↦ rw w.self-is (record {
        own = sym w.if-object-self.false;
        order = λ up before. order-weaker old.object object old.made.items up before;
        alike = λ sought. refl;
        survey = λ of. of;
      })
    ] in
    record {
      object = start.own;
      order = λ up before. start.order up before;
      survey = λ of. start.survey of;
      alike = alike-run c.args.origin (rows_of_merge c.args.origin old) begun (record begun { track = c.push_from_last.new.track }) object c.args.places.now
          start.alike start.own refl refl c.in_ok-push_from_last.ensures;
    }
