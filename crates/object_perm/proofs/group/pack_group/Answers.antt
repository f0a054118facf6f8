use Rattle.std.proofs.Common.{◌≡◌, ◌<◌, ◌*◌, ◌%◌, ◌^◌, Some, None, get_or, ◌++◌, ◌∷◌, [], arith, ap, sym, ◌∙◌, append-nil, append_assoc, take, Vec, Global, ℕ}
use Rattle.std.specs.Int.RustNames.{bit_or}
use Rattle.object_perm.proofs.MarksLemmas.{marks_of-nil, marks_of-take_some, marks_of-take_none, targets_of-take, targets_of-take_none}
use Rattle.object_perm.specs.Marks.{targets_of}
use Rattle.object_perm.proofs.group.pack_group.Goals as goal
use Rattle.object_perm.proofs.group.pack_group.Goals.{in-Some+in_ok-push, in_default}

pub loop-bit-init : goal.loop-bit-init
loop-bit-init c = record { marks = sym marks_of-nil; targets = sym (append-nil c.args.targets.now.items) }

pub loop-bit-preserved : goal.loop-bit-preserved
loop-bit-preserved c =
    let before = c.loop-bit.invariant in
    let places = c.args.places.now in
    let bit = c.loop-bit.bit in
    let within = c.loop-bit-test.true in
    let small : bit < 32 = omega (arith, c.requires.short) in
    elim c.match-target.branch [
      | in-Some+in_ok-push w ↦
          let here : get_or places bit None ≡ Some w.in-Some.target = w.in-Some.is in
          record {
            marks = w.marks-is ∙ ap (λ marks. bit_or marks (1 * 2 ^ bit % 2 ^ 32)) before.marks
                ∙ sym (marks_of-take_some places bit w.in-Some.target within small here);
            targets = ap (λ (v : Vec ℕ Global). v.items) w.targets-is ∙ w.in_ok-push.ensures.items
                ∙ ap (λ items. items ++ w.in-Some.target ∷ []) before.targets
                ∙ append_assoc c.args.targets.now.items (targets_of (take bit places)) (w.in-Some.target ∷ [])
                ∙ ap (λ more. c.args.targets.now.items ++ more)
                (sym (targets_of-take places bit w.in-Some.target within here));
          }
      | in_default w ↦
          let here : get_or places bit None ≡ None = w.in_default.is in
          record {
            marks = w.marks-is ∙ before.marks ∙ sym (marks_of-take_none places bit within here);
            targets = ap (λ (v : Vec ℕ Global). v.items) w.targets-is ∙ before.targets
                ∙ ap (λ more. c.args.targets.now.items ++ more) (sym (targets_of-take_none places bit within here));
          }
    ]
