use Rattle.std.proofs.Common.{ℕ, ◌*◌, ◌-◌, ◌^◌, ℤ, pos, ◌+ℤ◌, arith}
use Rattle.track_types.specs.Near.{IsWithin}
use Rattle.track_types.specs.declared.limit.TheConstants.{MAX_HEIGHT}
use Rattle.track_types.proofs.BoxLemmas.{same_box}
use Rattle.k2_tree.proofs.AreaLemmas.{base_within, before-lt, moved_is}
use Rattle.k2_tree.proofs.MortonLemmas.{ends_back}
use Rattle.k2_tree.proofs.square.square_area.Goals as goal

pub returns-clause-value : goal.returns-clause-value
returns-clause-value c =
    let a = c.args in
    let near = c.requires.base in
    let x : IsWithin a.base.x = base_within a.base.x near.left near.right in
    let y : IsWithin a.base.y = base_within a.base.y near.below near.above in
    let m : ℕ = MAX_HEIGHT in
    let ends = ends_back m m a.row a.column (omega arith) (before-lt a.row a.level m c.requires.upper)
    (before-lt a.column a.level m c.requires.right) in
    let first : ℤ → ℕ → ℤ = λ z k. z +ℤ pos (k * 2 ^ a.level) in
    let last : ℤ → ℕ → ℤ = λ z k. (z +ℤ pos (k * 2 ^ a.level)) +ℤ pos (2 ^ a.level - 1) in
    same_box _ _
    (moved_is first x c.first.ensures.within ends.1 c.first.ensures.value)
    (moved_is first y c.first-2.ensures.within ends.0 c.first-2.ensures.value)
    (moved_is last x c.last.ensures.within ends.1 c.last.ensures.value)
    (moved_is last y c.last-2.ensures.within ends.0 c.last-2.ensures.value)
