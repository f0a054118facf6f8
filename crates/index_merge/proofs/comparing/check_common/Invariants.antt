use Rattle.std.proofs.Common.{◌≡◌, drop}
use Rattle.std.specs.Prelude.{find}
use Rattle.track_index.specs.Listed.{is_listed}
use Rattle.index_merge.proofs.comparing.check_common.Given as goal

-- none of the objects so far is in both
abbrev pub invariant-loop-place : goal.invariant-loop-place
invariant-loop-place l =
    find (λ object. is_listed object l.right.objects) l.left.objects
    ≡ find (λ object. is_listed object l.right.objects) (drop l.place l.left.objects)
