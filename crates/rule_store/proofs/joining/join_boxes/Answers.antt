use Rattle.std.proofs.Common.{◌≡◌, [], ◌∙◌, sym, refl}
use Rattle.std.proofs.lemmas.List.{append-nil}
use Rattle.track_types.specs.Boxes.{joined_box}
use Rattle.rule_store.proofs.BoxLemmas.{box_round-append, box_round-none}
use Rattle.rule_store.proofs.joining.join_boxes.Goals as goal

pub returns-in-Some-Some : goal.returns-in-Some-Some
returns-in-Some-Some c = λ lefts rights left right.
    let a = c.in-Some-Some.a in
    let b = c.in-Some-Some.b in
    rw c.joined.ensures (box_round-append lefts rights a b (joined_box a b) (sym c.in-Some-Some.is-0 ∙ left)
    (sym c.in-Some-Some.is-1 ∙ right) refl refl refl refl)

pub returns-in-Some-None : goal.returns-in-Some-None
returns-in-Some-None c = λ lefts rights left right.
    let none : rights ≡ [] = box_round-none rights (sym c.in-Some-None.is-1 ∙ right) in
    rw (none, append-nil) left

pub returns-in-None-default : goal.returns-in-None-default
returns-in-None-default c = λ lefts rights left right.
    let none : lefts ≡ [] = box_round-none lefts (sym c.in-None-default.is-0 ∙ left) in
    rw none right
