use Rattle.std.proofs.Common.{◌≡◌, ◌∷◌, ◌++◌, [], List, All, ap, arith, get_or, map, subst, sym, take, ◌∙◌}
use Rattle.std.proofs.lemmas.Int.{ints}
use Rattle.std.proofs.lemmas.List.{map-append, take_more}
use Rattle.std.proofs.lemmas.List.Elements.{All-append, All-cons, All-nil}
use Rattle.track_types.specs.Boxes.{moved_box}
use Rattle.track_types.specs.declared.cell_box.CellBox.{CellBox}
use Rattle.box_tree.specs.Boxes.{IsFrom}
use Rattle.log_bounds.specs.declared.bounds.LogBounds.{LogBounds}
use Rattle.snapshots.proofs.bounded.areas_of.Goals as goal

pub loop-log-preserved : goal.loop-log-preserved
loop-log-preserved c =
    let base = c.args.base in
    let bounds : List LogBounds = c.args.bounds.now in
    let k = c.loop-log.log-index in
    let log : LogBounds = c.log-item.result in
    let area : CellBox = c.moved.result in
    let before = c.loop-log.invariant in
    let is = c.unpack.ensures.within in
    let read : area ≡ moved_box base (get_or bounds k log).area =
    c.moved.ensures ∙ ap (λ (l : LogBounds). moved_box base l.area) (c.unpack.ensures.value ∙ c.log-item.is) in
    let from : IsFrom base area = subst (IsFrom base) (sym c.moved.ensures) (record {
      left = omega (arith, ints, is.x1.low);
      right = omega (arith, ints, is.x2.high);
      below = omega (arith, ints, is.y1.low);
      above = omega (arith, ints, is.y2.high);
    }) in
    record {
      made = c.in_ok-push.ensures.items ∙ ap (λ xs. xs ++ area ∷ []) before.made
          ∙ ap (λ a. map (λ (l : LogBounds). moved_box base l.area) (take k bounds) ++ a ∷ []) read
          ∙ sym (map-append (λ (l : LogBounds). moved_box base l.area) (take k bounds) (get_or bounds k log ∷ []))
          ∙ ap (map (λ (l : LogBounds). moved_box base l.area)) (sym (take_more bounds k log c.loop-log-test.true));
      from = subst (All (IsFrom base)) (sym c.in_ok-push.ensures.items)
          (All-append (IsFrom base) c.loop-log.areas.items (area ∷ []) before.from
          (All-cons (IsFrom base) area [] from (All-nil (IsFrom base))));
    }
