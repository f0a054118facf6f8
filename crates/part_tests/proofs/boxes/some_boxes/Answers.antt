use Rattle.std.proofs.Common.{[], ◌∷◌, All, subst, sym}
use Rattle.std.proofs.lemmas.List.Elements.{All-append, All-cons, All-nil}
use Rattle.box_tree.specs.Boxes.{IsFrom}
use Rattle.part_tests.specs.declared.boxes.TheConstants.{BASE}
use Rattle.part_tests.proofs.boxes.some_boxes.Goals as goal

pub made-preserved : goal.made-preserved
made-preserved c =
    let l = c.made in
    subst (All (IsFrom BASE)) (sym c.in_ok-push.ensures.items) (All-append (IsFrom BASE) l.boxes.items (c.box_of.result ∷ []) l.invariant
    (All-cons (IsFrom BASE) c.box_of.result [] c.box_of.ensures (All-nil (IsFrom BASE))))
