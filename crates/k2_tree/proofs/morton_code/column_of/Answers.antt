use Rattle.std.proofs.Common.{◌≡◌, ◌/◌, ◌^◌, ap, arith, refl, ◌∙◌}
use Rattle.std.proofs.Math.Nat.{div-one}
use Rattle.k2_tree.specs.Morton.{morton_column}
use Rattle.k2_tree.proofs.MortonLemmas.{morton_column-lt}
use Rattle.k2_tree.proofs.ColumnLemmas.{column-few, column-part}
use Rattle.k2_tree.proofs.morton_code.column_of.Goals as goal

pub loop-part-init : goal.loop-part-init
unfolding morton_column
loop-part-init c = refl

pub overflow_mul-column : goal.overflow_mul-column
overflow_mul-column c =
    let l = c.loop-part in omega (arith, column-few l.part c.args.code l.column (omega arith) l.invariant)

pub overflow_add-column : goal.overflow_add-column
overflow_add-column c =
    let l = c.loop-part in
    omega (arith, column-few l.part c.args.code l.column (omega arith) l.invariant, c.part_column.ensures.small)

pub loop-part-preserved : goal.loop-part-preserved
loop-part-preserved c =
    let l = c.loop-part in
    rw c.part_column.ensures.value (column-part l.part c.args.code l.column (omega arith) (omega arith) l.invariant)

pub returns-clause-value : goal.returns-clause-value
returns-clause-value c =
    let end : c.loop-part.part ≡ 0 = omega arith in
    (rw end at c.loop-part.invariant) ∙ ap (morton_column 24) (div-one c.args.code)

pub returns-clause-small : goal.returns-clause-small
returns-clause-small c =
    let end : c.loop-part.part ≡ 0 = omega arith in
    omega (arith, rw end at c.loop-part.invariant, morton_column-lt 24 (c.args.code / 2 ^ 0))
