-- That the tests of a search by reach are monotone.
use Rattle.std.proofs.Common.{lit≤, ◌≡◌, ℕ, ◌/◌, ◌^◌, ◌<◌, ◌≤◌, true, Bool}
use Rattle.std.proofs.Common.{ap, ◌∙◌, arith, subst}
use Rattle.std.proofs.Math.Nat.{div-one}
use Rattle.std.proofs.lemmas.Int.{ints}
use Rattle.track_types.specs.Region.{in_box, intersects_region, Intersects}
use Rattle.track_types.specs.declared.cell.Cell.{Cell}
use Rattle.track_types.specs.declared.cell_box.CellBox.{CellBox}
use Rattle.track_types.specs.declared.limit.TheConstants.{MAX_HEIGHT}
use Rattle.track_types.specs.declared.region.Region.{Region}
use Rattle.track_types.proofs.RegionLemmas.{in_box-bounds, in_box-from, intersects_region-exact}
use Rattle.k2_tree.specs.Areas.{area_at, IsBoxInside}
use Rattle.k2_tree.specs.Morton.{cell_of, morton_of, IsBase, IsGrid, IsInGrid}
use Rattle.k2_tree.specs.Squares.{node}
use Rattle.k2_tree.specs.TreeBits.{code_limit}
use Rattle.k2_tree.proofs.AreaLemmas.{in_area}
use Rattle.k2_tree.proofs.MortonLemmas.{cell_of-inside, morton_of-cell_of}
use Rattle.box_tree.specs.Tests.{AreMonotone, IsWider, tests_at}
use Rattle.box_tree.specs.Places.{ArePassed}

-- a cell lies in each square with a prefix of its number
area-inside : (base : Cell) → IsGrid MAX_HEIGHT base → (n code : ℕ) → n ≤ MAX_HEIGHT → code < code_limit
    → IsBoxInside (area_at base (node 0 code)) (area_at base (node n (code / 4 ^ n)))
area-inside base grid n code deep small =
    let cell : Cell = cell_of MAX_HEIGHT base code in
    let inside : IsInGrid MAX_HEIGHT base cell = cell_of-inside MAX_HEIGHT base code in
    let back : morton_of MAX_HEIGHT base cell ≡ code = morton_of-cell_of MAX_HEIGHT base code small in
    let outer : in_box (area_at base (node n (code / 4 ^ n))) cell ≡ true =
    subst (λ k. in_box (area_at base (node n (k / 4 ^ n))) cell ≡ true) back (in_area grid inside n deep) in
    let inner : in_box (area_at base (node 0 code)) cell ≡ true =
    subst (λ k. in_box (area_at base (node 0 k)) cell ≡ true) (ap (λ k. k / 4 ^ 0) back ∙ div-one code)
    (in_area grid inside 0 (omega arith)) in
    let a = in_box-bounds (area_at base (node n (code / 4 ^ n))) cell outer in
    let b = in_box-bounds (area_at base (node 0 code)) cell inner in
    record {
      left = omega (arith, ints, a.left, b.right);
      right = omega (arith, ints, a.right, b.left);
      below = omega (arith, ints, a.below, b.above);
      above = omega (arith, ints, a.above, b.below);
    }

-- so the squares of the grid that pass are those in which a cell passes, where the tests are monotone
pub passed-areas : (base : Cell) → IsBase base → (squares boxes : CellBox → Bool) → AreMonotone squares boxes
    → ArePassed (tests_at base squares boxes)
passed-areas base near squares boxes mono = record {
  square = λ n code deep small holds.
      mono.squares (area_at base (node 0 code)) (area_at base (node n (code / 4 ^ n)))
      (area-inside base (record {
        some = lit≤ tt;
        limit = omega arith;
        left = near.left;
        right = near.right;
        below =
            near.below;
        above = near.above;
      }) n code deep small) holds;
  area = mono.boxes;
}

-- the test of a region is
pub wider-intersects : (region : Region) → IsWider (intersects_region region)
wider-intersects region inner outer inside holds =
    let touched : Intersects region inner = (intersects_region-exact region inner).0 holds in
    let b = in_box-bounds inner touched.0 touched.1 in
    (intersects_region-exact region outer).1 (
      touched.0,
      in_box-from outer touched.0 (record {
        left = omega (arith, ints, b.left, inside.left);
        right = omega (arith, ints, b.right, inside.right);
        below = omega (arith, ints, b.below, inside.below);
        above = omega (arith, ints, b.above, inside.above);
      }),
      touched.2,
    )
