-- Walks over the squares of a tree: children that are still to be visited, open squares, the beginning, and leaves.
use Rattle.std.proofs.Common.{◌≡◌, ℕ, suc, ◌+◌, ◌-◌, ◌*◌, ◌^◌, ◌<◌, ◌≤◌, true, List, [], ◌∷◌, ◌++◌, length, map}
use Rattle.std.proofs.Common.{get_or, Option, None, Some, IfNone, IfSome, refl, sym, ap, ◌∙◌, arith, subst}
use Rattle.std.proofs.Common.{append_assoc, append-nil, length-append}
use Rattle.std.specs.Prelude.{slice_get}
use Rattle.std.specs.Option.{is_none, option_map}
use Rattle.std.proofs.lemmas.Bool.{false≢true}
use Rattle.std.proofs.lemmas.Option.{slice_get-map, slice_get_within, get_or_from_slice_get}
use Rattle.track_types.specs.declared.cell.Cell.{Cell}
use Rattle.track_types.specs.declared.limit.TheConstants.{MAX_HEIGHT}
use Rattle.k2_tree.specs.Morton.{morton_of}
use Rattle.k2_tree.specs.Widths.{digits_in, widths_under}
use Rattle.k2_tree.specs.TreeBits.{prefixes, Rises}
use Rattle.k2_tree.specs.Squares.{Node, node}
use Rattle.k2_tree.specs.Tree.{Tree, codes_of, IsTree}
use Rattle.k2_tree.specs.TreeSquares.{squares_of, least_cell_of, level_of, node_of, prefix_of, square_number, IsSquareOf}
use Rattle.k2_tree.specs.PendingChildren.{StandsAt, nodes_of, IsNextOf}
use Rattle.k2_tree.specs.SquareWalk.{AreOpen, IsOpen, IsTakenChild, IsSquareWalk, found_nodes, open_nodes, top_nodes}
use Rattle.k2_tree.specs.Pruning.{leaf_of, place_among}
use Rattle.k2_tree.proofs.MortonLemmas.{morton_of-cell_of}
use Rattle.k2_tree.proofs.RisingLemmas.{place_among-at}
use Rattle.k2_tree.proofs.PrefixLemmas.{prefixes-none, prefixes-zero}
use Rattle.k2_tree.proofs.WidthLemmas.{digits_in-widths_under}
use Rattle.k2_tree.proofs.SquareLemmas.{IsOn-from_list}
use Rattle.k2_tree.proofs.ChildLemmas.{one_top}
use Rattle.k2_tree.proofs.OnLemmas.{IsOn}
use Rattle.k2_tree.proofs.StoredLemmas.{corner_is}
use Rattle.k2_tree.specs.declared.square.Square.{Square}
use Rattle.k2_tree.specs.declared.pending_children.PendingChildren.{PendingChildren}

-- the square opened last comes first
pub open_nodes-append : (front : List PendingChildren) (last : PendingChildren)
    → open_nodes (front ++ last ∷ []) ≡ nodes_of last ++ open_nodes front
unfolding open_nodes
open_nodes-append [] last = sym (append-nil (nodes_of last))
open_nodes-append (first ∷ front) last =
    ap (λ nodes. nodes ++ nodes_of first) (open_nodes-append front last)
    ∙ append_assoc (nodes_of last) (open_nodes front) (nodes_of first)

pub open_nodes-nil : open_nodes [] ≡ []
unfolding open_nodes
open_nodes-nil = refl

module _ (squares : List Node) (base : Cell) where
  -- each level has at most one open square, and the cells none
  length-open : (level : ℕ) (stack : List PendingChildren) → AreOpen squares base level stack → length stack ≤ level
  length-open level [] are = omega arith
  length-open level (first ∷ later) are =
      omega (arith, first.inner, are.0.high, length-open (level - 1) later are.1)

  -- what holds of the square opened last, and of those before it
  pub AreOpen-parted : (level : ℕ) (front : List PendingChildren) (last : PendingChildren)
      → AreOpen squares base level (front ++ last ∷ [])
      → AreOpen squares base level front × IsOpen squares base (level - length front) last
  AreOpen-parted level [] last are = (tt, subst (λ l. IsOpen squares base l last) (omega arith) are.0)
  AreOpen-parted level (first ∷ front) last are =
      let rest = AreOpen-parted (level - 1) front last are.1 in
      let depth : level - 1 - length front ≡ level - suc (length front) = omega arith in
      ((are.0, rest.0), subst (λ l. IsOpen squares base l last) depth rest.1)

  -- one square more is open
  AreOpen-append : (level : ℕ) (front : List PendingChildren) (last : PendingChildren)
      → AreOpen squares base level front → IsOpen squares base (level - length front) last
      → AreOpen squares base level (front ++ last ∷ [])
  AreOpen-append level [] last are is = (subst (λ l. IsOpen squares base l last) (omega arith) is, tt)
  AreOpen-append level (first ∷ front) last are is =
      let depth : level - suc (length front) ≡ level - 1 - length front = omega arith in
      (are.0, AreOpen-append (level - 1) front last are.1 (subst (λ l. IsOpen squares base l last) depth is))

  -- a child that was taken from the square opened last
  pub taken : (level : ℕ) (front : List PendingChildren) {old new : PendingChildren} {child : Square}
      → AreOpen squares base level (front ++ old ∷ [])
      → IsNextOf old child new → new.square ≡ old.square → IsTakenChild squares base level child (front ++ new ∷ [])
  taken level front {old} {new} {child} are next square =
      let both = AreOpen-parted level front old are in
      let last : IsOpen squares base (level - length front) old = both.1 in
      let all : StandsAt squares old.number (node_of child ∷ nodes_of new) =
      subst (StandsAt squares old.number) next.nodes last.stands in
      let number : suc old.number ≡ new.number = omega (arith, next.later) in
      record {
        same = next.base ∙ last.same;
        stands = ap (slice_get squares) next.number ∙ all.0;
        depth = omega (arith, length-append front (new ∷ []), last.high, old.inner, next.level);
        rest = AreOpen-append level front new both.0 (record {
          high = omega (arith, ap (λ (s : Square). level_of s) square, last.high);
          same = ap (λ (s : Square). s.base) square ∙ last.same;
          stands = subst (λ j. StandsAt squares j (nodes_of new)) number all.1;
        });
      }

-- no more squares are open than there are levels above the cells
pub length-walk : {tree : Tree} {whole : Option Square} {stack : List PendingChildren} → IsSquareWalk tree whole stack
    → length stack ≤ MAX_HEIGHT
length-walk {tree} {whole} {stack} walk =
    omega (arith, length-open (squares_of tree) tree.base tree.height stack walk.later, walk.low)

-- a square of the tree is opened
pub opened : {tree : Tree} (whole : Option Square) (stack : List PendingChildren) (pending : PendingChildren) {square : Square}
    → IsSquareWalk tree whole stack → is_none whole ≡ true → IsSquareOf tree square
    → level_of square + length stack ≤ tree.height → pending.square ≡ square
    → StandsAt (squares_of tree) pending.number (nodes_of pending) → IsSquareWalk tree whole (stack ++ pending ∷ [])
opened (Some whole) stack pending walk begun of depth same stands = absurd (false≢true begun)
opened {tree} None stack pending walk begun of depth same stands = record {
  low = walk.low;
  first = tt;
  later = AreOpen-append (squares_of tree) tree.base tree.height stack pending walk.later (record {
    high = omega (arith, ap (λ (s : Square). level_of s) same);
    same = ap (λ (s : Square). s.base) same ∙ of.base;
    stands = stands;
  });
}

-- its children come first
pub opened_nodes : (whole : Option Square) (stack : List PendingChildren) (pending : PendingChildren) → is_none whole ≡ true
    → found_nodes whole ++ open_nodes (stack ++ pending ∷ [])
    ≡ nodes_of pending ++ (found_nodes whole ++ open_nodes stack)
opened_nodes (Some whole) stack pending begun = absurd (false≢true begun)
opened_nodes None stack pending begun = open_nodes-append stack pending

-- nothing is open at the beginning
pub begins_whole : {tree : Tree} (whole : Option Square) → IsTree tree → IfSome whole (λ s. IsSquareOf tree s)
    → IfSome whole (λ s. node_of s ≡ node tree.height 0) → IsSquareWalk tree whole []
begins_whole None is of top = record { low = is.grid.limit; first = tt; later = tt }
begins_whole (Some square) is of top =
    record { low = is.grid.limit; first = (refl, ap (λ (n : Node). n.level) top, of); later = tt }

-- the whole grid is visited first, where it holds a cell
pub whole_nodes : {tree : Tree} (whole : Option Square) → IsTree tree → IfNone whole (tree.cells ≡ [])
    → IfSome whole (λ s. IsSquareOf tree s) → IfSome whole (λ s. node_of s ≡ node tree.height 0)
    → found_nodes whole ≡ top_nodes tree
whole_nodes {tree} None is none of top = rw (none, prefixes-none tree.height) refl
whole_nodes {tree} (Some square) is none of top =
    let here : IsOn tree.height tree.wide (codes_of tree) tree.height 0 (square_number square) =
    IsOn-from_list is.fits (of.stands ∙ ap Some top) in
    let digits = ap (λ n. length (prefixes n (codes_of tree)))
    (digits_in-widths_under (tree.height - 2 * tree.wide) tree.height) in
    let one = one_top tree.height (codes_of tree) is.codes tree.height (omega (arith, here.square.within, digits)) in
    ap (λ n. n ∷ []) top ∙ ap (map (node tree.height)) (sym one)

-- a square of the lowest level is one of the numbers
own_number : {height wide : ℕ} {codes : List ℕ} {q j : ℕ} → Rises 0 codes → IsOn height wide codes 0 q j
    → (i : ℕ) × (i < length codes) × (get_or codes i 0 ≡ q)
own_number {height} {wide} {codes} up on =
    let all : prefixes (digits_in (widths_under (height - 2 * wide) 0)) codes ≡ codes =
    ap (λ n. prefixes n codes) (digits_in-widths_under (height - 2 * wide) 0) ∙ prefixes-zero codes up in
    (on.square.place, (rw all at on.square.within), (rw all at on.square.stands))

-- the leaf of a square that is a cell
pub leaf_is : {tree : Tree} {s : Square} {leaf : ℕ} → IsTree tree → IsSquareOf tree s → level_of s ≡ 0
    → slice_get tree.cells leaf ≡ Some (least_cell_of s) → (leaf, least_cell_of s) ≡ leaf_of tree (prefix_of s)
leaf_is {tree} {s} {leaf} is of end found =
    let codes : List ℕ = codes_of tree in
    let q : ℕ = prefix_of s in
    let square = own_number is.codes.rising
    (subst (λ n. IsOn tree.height tree.wide codes n q (square_number s)) end (IsOn-from_list is.fits of.stands)) in
    let small : q < 4 ^ tree.height = rw square.2 at (is.codes.small square.0 0 square.1) in
    let corner = corner_is tree.height s end of.base is.grid.limit small in
    let number : slice_get codes leaf ≡ Some q =
    slice_get-map (morton_of tree.height tree.base) tree.cells leaf
    ∙ ap (option_map (morton_of tree.height tree.base)) (found ∙ ap Some corner)
    ∙ ap Some (morton_of-cell_of tree.height tree.base q small) in
    let place : place_among codes q ≡ leaf =
    ap (place_among codes) (sym (get_or_from_slice_get codes leaf q 0 number))
    ∙ place_among-at 0 leaf codes is.codes.rising (slice_get_within codes leaf q number) in
    rw (← corner, place) refl
