use Rattle.std.proofs.Common.{ℕ, ◌-◌, ap, arith}
use Rattle.k2_tree.specs.Morton.{morton_column, morton_row}
use Rattle.k2_tree.specs.Squares.{node}
use Rattle.k2_tree.proofs.MortonLemmas.{morton_column-lt, morton_row-lt}
use Rattle.k2_tree.proofs.PlaceLemmas.{child-ends, child-fits, child-prefix, child_inside}
use Rattle.k2_tree.proofs.square.Square.child.Goals as goal

pub child_column-requires-clause-right : goal.child_column-requires-clause-right
child_column-requires-clause-right c =
    let s = c.args.self.now in child-fits c.args.width s.level s.column c.requires.inner s.right

pub child_row-requires-clause-upper : goal.child_row-requires-clause-upper
child_row-requires-clause-upper c =
    let s = c.args.self.now in child-fits c.args.width s.level s.row c.requires.inner s.upper

pub invariant_of-result : goal.invariant_of-result
invariant_of-result c =
    let s = c.args.self.now in
    let width : ℕ = c.args.width in
    let digit : ℕ = c.args.digit in
    record {
      low = omega (arith, s.low);
      right = rw c.child_column.ensures (child-ends width s.level s.column (morton_column width digit) c.requires.inner
          (morton_column-lt width digit) s.right);
      upper = rw c.child_row.ensures (child-ends width s.level s.row (morton_row width digit) c.requires.inner
          (morton_row-lt width digit) s.upper);
      near = s.near;
    }

pub returns-clause-node : goal.returns-clause-node
returns-clause-node c =
    let s = c.args.self.now in
    let width : ℕ = c.args.width in
    rw (c.child_column.ensures, c.child_row.ensures) (ap (node (s.level - width))
    (child-prefix width c.args.digit s.row s.column c.requires.some c.requires.narrow c.requires.small
    (child-fits width s.level s.column c.requires.inner s.right) (child-fits width s.level s.row c.requires.inner s.upper)))

pub returns-clause-inside : goal.returns-clause-inside
returns-clause-inside c =
    let s = c.args.self.now in
    rw (c.child_column.ensures, c.child_row.ensures)
    (child_inside s.base s.row s.column c.args.digit c.args.width s.level c.requires.inner s.right s.upper)
