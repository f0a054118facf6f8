-- Walks over nodes: what opening a node changes.
use Rattle.std.proofs.Common.{◌≡◌, ℕ, zero, suc, ◌+◌, ◌-◌, ◌*◌, ◌^◌, ◌<◌, ◌≤◌, Bool, true, List, [], ◌∷◌, ◌++◌}
use Rattle.std.proofs.Common.{length, map, filter, reverse, refl, sym, ap, ◌∙◌, arith, All, subst, length-append}
use Rattle.std.proofs.Common.{Option, None, Some, IfSome, ◌==◌, ◌⊎◌, inl, inr}
use Rattle.std.specs.List.{flat_map, range_with_len, sum_by}
use Rattle.std.specs.Int.{bit_at}
use Rattle.std.specs.Option.{option_to_list}
use Rattle.std.proofs.lemmas.List.{append-nil, length-map, map-append, reverse-append, length-reverse}
use Rattle.std.proofs.lemmas.List.FromFn.{length-range_with_len}
use Rattle.std.proofs.lemmas.Grind.{flat_map-append}
use Rattle.std.proofs.lemmas.List.Folds.{flat_map-map}
use Rattle.std.proofs.lemmas.List.Elements.{All-nil, All-cons, All-head, All-tail, All-append, filter-append}
use Rattle.std.proofs.lemmas.List.Sums.{sum_by-append}
use Rattle.list_laws.proofs.FlatLemmas.{sum_by-map}
use Rattle.k2_tree.specs.Squares.{Node, node}
use Rattle.k2_tree.specs.Morton.{morton_column, morton_row}
use Rattle.k2_tree.proofs.MortonLemmas.{morton_column-lt, morton_row-lt}
use Rattle.box_tree.specs.Held.{Held, IsBranch, IsBucket, IsKindFor, Nodes, Stand, mask_digits}
use Rattle.box_tree.specs.Levels.{children, digits, run, squares_in}
use Rattle.box_tree.specs.Places.{Ascends, Places, Square, square_worth, place_passes, square_places, square_with}
use Rattle.box_tree.specs.Tree.{IsNodeOf, TreeView, child_limit, levels_below, levels_of, node_square, node_prefix, slots}
use Rattle.box_tree.specs.Walk.{Fits, IsGivenWay, OpensSquare, IsNodeWalk, NodeWalkView, child_refs, turns_in}
use Rattle.box_tree.specs.Walk.{node_walk_of}
use Rattle.box_tree.specs.declared.node_kind.NodeKind.TheVariants.{Bucket, Branch}
use Rattle.box_tree.specs.declared.node_ref.NodeRef.{NodeRef}
use Rattle.box_tree.proofs.DigitsLemmas.{mask_digits-small}
use Rattle.box_tree.proofs.NodeLemmas.{length-kept, square_worth-branch, square_worth-bucket}
use Rattle.box_tree.proofs.NodeLemmas.{square_worth-cell, squares_in-own}
use Rattle.box_tree.proofs.RunLemmas.{run-children}
use Rattle.k2_tree.proofs.PlaceLemmas.{child-ends, child-fits, child-prefix}
use Rattle.box_tree.proofs.TreeLemmas.{slots-parts}

-- what a bucket has
pub bucket-parts : (places : Places) (nodes : Nodes) (levels : List ℕ) (prefix low high : ℕ)
    → IsKindFor places nodes levels prefix (Bucket low high)
    → IsBucket places.codes (digits levels) prefix low high × ((levels ≡ []) ⊎ (high ≤ low + 16))
unfolding IsKindFor
bucket-parts places nodes [] prefix low high is = (is, inl refl)
bucket-parts places nodes (level ∷ levels) prefix low high is = (is.0, inr is.1)

-- a cell is no branch
pub branch-some : (places : Places) (nodes : Nodes) (narrow below prefix end mask : ℕ)
    → IsKindFor places nodes (levels_below narrow below) prefix (Branch end mask) → 1 ≤ below
unfolding IsKindFor levels_below
branch-some places nodes narrow zero prefix end mask is = absurd is
branch-some places nodes narrow (suc below) prefix end mask is = omega arith

-- what a branch has
pub branch-parts : (places : Places) (nodes : Nodes) (level : ℕ) (levels : List ℕ) (prefix end mask : ℕ)
    → IsKindFor places nodes (level ∷ levels) prefix (Branch end mask)
    → IsBranch places.codes (digits levels) level prefix end mask (Held places nodes levels)
unfolding IsKindFor
branch-parts places nodes level levels prefix end mask is = is

-- a mask has at most as many digits as there are children
pub length-mask_digits : (level mask : ℕ) → length (mask_digits level mask) ≤ 4 ^ level
unfolding mask_digits
length-mask_digits level mask =
    omega (
      arith,
      length-kept (λ d. bit_at mask d == 1) (range_with_len 0 (4 ^ level)),
      length-range_with_len 0
          (4 ^ level),
    )

-- the squares within the children are fewer
turns-branch : (places : Places) (level : ℕ) (levels : List ℕ) (prefix : ℕ)
    → sum_by (turns_in places) (map (square_with levels) (children places.codes (digits levels) level prefix))
    < turns_in places (square_with (level ∷ levels) prefix)
unfolding squares_in
turns-branch places level levels prefix =
    omega (arith, sum_by-map (turns_in places) (square_with levels) (children places.codes (digits levels) level prefix))

-- the children of a node that is split by a level
module _ (tree : TreeView) (parent : NodeRef) (width : ℕ) (its : IsNodeOf tree parent)
    (split : levels_of tree.narrow parent ≡ width ∷ levels_below tree.narrow (parent.below - 1)) (some : 1 ≤ width)
    (few : width ≤ 2) where
  abbrev lower : List ℕ
  lower = levels_below tree.narrow (parent.below - 1)

  abbrev longer : ℕ → ℕ
  longer digit = 4 ^ width * node_prefix parent + digit

  abbrev child : ℕ → ℕ → NodeRef
  child number digit = record {
    node = number;
    below = parent.below - 1;
    level = parent.level - width;
    column = 2 ^ width * parent.column + morton_column width digit;
    row = 2 ^ width * parent.row + morton_row width digit;
  }

  level-parts : width + digits lower ≡ parent.level
  level-parts = ap digits (sym split) ∙ its.level

  deep : width ≤ parent.level
  deep = omega (arith, level-parts)

  -- a child's prefix has its digit last
  pub child-at : (number digit : ℕ) → digit < 4 ^ width → node_prefix (child number digit) ≡ longer digit
  child-at number digit low =
      child-prefix width digit parent.row parent.column some few low
      (child-fits width parent.level parent.column deep its.right)
      (child-fits width parent.level parent.row deep its.upper)

  -- children that stand are nodes of the tree
  children-nodes : (first : ℕ) (ds : List ℕ) → All (λ d. d < 4 ^ width) ds
      → Stand (Held tree.places tree.nodes lower) first (map longer ds)
      → All (IsNodeOf tree) (child_refs parent width first ds)
  unfolding Stand
  children-nodes first [] low stand = All-nil (IsNodeOf tree)
  children-nodes first (d ∷ ds) low stand =
      let P : ℕ → Type 0 = λ d. d < 4 ^ width in
      All-cons (IsNodeOf tree) (child first d) (child_refs parent width (first + 1) ds)
      (record {
        level = omega (arith, level-parts);
        deep = omega (arith, its.deep);
        right = child-ends width parent.level parent.column (morton_column width d) deep (morton_column-lt width d) its.right;
        upper = child-ends width parent.level parent.row (morton_row width d) deep (morton_row-lt width d) its.upper;
        held = subst (λ q. Held tree.places tree.nodes lower q first)
            (sym (child-at first d (All-head P d ds low))) stand.0;
      })
      (children-nodes (first + 1) ds (All-tail P d ds low) stand.1)

  -- their squares
  children-squares : (first : ℕ) (ds : List ℕ) → All (λ d. d < 4 ^ width) ds
      → map (node_square tree.narrow) (child_refs parent width first ds) ≡ map (square_with lower) (map longer ds)
  children-squares first [] low = refl
  children-squares first (d ∷ ds) low =
      let P : ℕ → Type 0 = λ d. d < 4 ^ width in
      ap (λ q. square_with lower q ∷ map (node_square tree.narrow) (child_refs parent width (first + 1) ds))
      (child-at first d (All-head P d ds low))
      ∙ ap (λ squares. square_with lower (longer d) ∷ squares) (children-squares (first + 1) ds (All-tail P d ds low))

  -- each is one level lower
  children-lower : (first : ℕ) (ds : List ℕ) → 1 ≤ parent.below
      → All (λ (below : NodeRef). below.below + 1 ≡ parent.below) (child_refs parent width first ds)
  children-lower first [] inner = All-nil (λ (below : NodeRef). below.below + 1 ≡ parent.below)
  children-lower first (d ∷ ds) inner =
      All-cons (λ (below : NodeRef). below.below + 1 ≡ parent.below) (child first d)
      (child_refs parent width (first + 1) ds)
      (omega arith) (children-lower (first + 1) ds inner)

  -- the branch gives way to them
  pub given-way : (end mask : ℕ) (old new : List NodeRef) → 1 ≤ parent.below
      → IsBranch tree.places.codes (digits lower) width (node_prefix parent) end mask (Held tree.places tree.nodes lower)
      → new ≡ child_refs parent width (end - length (mask_digits width mask)) (mask_digits width mask) ++ old
      → IsGivenWay tree parent old new
  given-way end mask old new inner is pushed =
      let ds : List ℕ = mask_digits width mask in
      let sq : NodeRef → Square = node_square tree.narrow in
      let first : end - length ds ≡ is.first = omega (arith, is.stand) in
      let refs : List NodeRef = child_refs parent width is.first ds in
      let cs : List ℕ = children tree.places.codes (digits lower) width (node_prefix parent) in
      let low = mask_digits-small width mask in
      let stand : Stand (Held tree.places tree.nodes lower) is.first (map longer ds) =
      subst (Stand (Held tree.places tree.nodes lower) is.first) (sym is.told) is.each in
      let squares : map sq refs ≡ map (square_with lower) cs =
      children-squares is.first ds low ∙ ap (map (square_with lower)) is.told in
      let whole : sq parent ≡ square_with (width ∷ lower) (node_prefix parent) =
      ap (λ ls. square_with ls (node_prefix parent)) split in
      let long : length refs ≡ length ds =
      sym (length-map refs sq) ∙ ap length squares ∙ length-map cs (square_with lower) ∙ sym (ap length is.told)
      ∙ length-map ds longer in
      record {
        children = refs;
        pushed = pushed ∙ ap (λ n. child_refs parent width n ds ++ old) first;
        nodes = children-nodes is.first ds low stand;
        few = omega (arith, long, length-mask_digits width mask, ap child_limit split);
        places = ap (square_places tree.places) whole ∙ run-children tree.places.codes (digits lower) width (node_prefix parent)
            ∙ sym (flat_map-map (square_places tree.places) (square_with lower) cs)
            ∙ ap (flat_map (square_places tree.places)) (sym squares)
            ∙ flat_map-map (square_places tree.places) sq refs;
        levels = children-lower is.first ds inner;
        reads = λ test holds.
            let at : test (node (width + digits lower) (node_prefix parent)) ≡ true =
            ap (λ n. test (node n (node_prefix parent))) level-parts ∙ holds in
            let paid = square_worth-branch test tree.places width lower (node_prefix parent) few at in
            let summed = sym (sum_by-map (square_worth test tree.places) sq refs)
            ∙ ap (sum_by (square_worth test tree.places)) squares in
            let own = ap (square_worth test tree.places) whole in
            omega (arith, paid, summed, own);
        turns =
            let fewer = turns-branch tree.places width lower (node_prefix parent) in
            let summed = sym (sum_by-map (turns_in tree.places) sq refs) ∙ ap (sum_by (turns_in tree.places)) squares in
            let own = ap (turns_in tree.places) whole in
            omega (arith, fewer, summed, own);
      }

module _ (old new : NodeWalkView) (done : old.high ≤ old.low) (tree : new.tree ≡ old.tree) where
  abbrev its : Places
  its = old.tree.places

  none-before : range_with_len old.low (old.high - old.low) ≡ []
  none-before = let none : old.high - old.low ≡ 0 = omega arith in rw none refl

  -- a bucket is opened
  pub bucket-opened : (levels : List ℕ) (prefix low high : ℕ) → Ascends 0 its.codes
      → IsBucket its.codes (digits levels) prefix low high → (levels ≡ []) ⊎ (high ≤ low + 16)
      → new.pending ≡ old.pending → new.low ≡ low → new.high ≡ high → OpensSquare old new (square_with levels prefix)
  unfolding run
  bucket-opened levels prefix low high up is size pending low_is high_is = record {
    left = λ tests. rw (tree, pending, low_is, high_is, none-before, is.low_is, is.high_is)
        (filter-append (place_passes tests its) (run its.codes (digits levels) prefix) (flat_map (square_places its) old.pending));
    reads = λ test holds. rw (tree, pending, low_is, high_is) (let paid = pays test holds size in omega arith);
    turns = rw (tree, pending) (let own = squares_in-own (λ _. true) its.codes levels prefix refl in omega arith);
  }
    where
      pays : (test : Node → Bool) → test (node (digits levels) prefix) ≡ true → (levels ≡ []) ⊎ (high ≤ low + 16)
          → 3 * (high - low) + 3 ≤ square_worth test its (square_with levels prefix)
      pays test holds (inr few) = square_worth-bucket test its levels prefix low high holds few
      pays test holds (inl cell) =
          subst (λ ls. 3 * (high - low) + 3 ≤ square_worth test its (square_with ls prefix)) (sym cell)
          (square_worth-cell test its prefix low high up (rw cell at holds) (rw cell at is))

-- a branch is opened: its children wait in its place
module _ (tree : TreeView) (low high : ℕ) (stack new : List NodeRef) (parent : NodeRef)
    (way : IsGivenWay tree parent (reverse stack) (reverse new)) where
  abbrev before : NodeWalkView
  before = node_walk_of tree stack low high

  abbrev after : NodeWalkView
  after = node_walk_of tree new low high

  abbrev sq : NodeRef → Square
  sq = node_square tree.narrow

  waiting : after.pending ≡ map sq way.children ++ before.pending
  waiting = ap (map sq) way.pushed ∙ map-append sq way.children (reverse stack)

  -- its places are left, and the reads that it is worth pay for theirs
  pub branch-opened : high ≤ low → IsNodeOf tree parent → OpensSquare before after (sq parent)
  branch-opened done its = record {
    left = λ tests.
        let none : high - low ≡ 0 = omega arith in
        rw (none, waiting) (ap (filter (place_passes tests tree.places))
        (flat_map-append (square_places tree.places) (map sq way.children) before.pending
        ∙ ap (λ run. run ++ flat_map (square_places tree.places) before.pending)
        (flat_map-map (square_places tree.places) sq way.children ∙ sym way.places))
        ∙ filter-append (place_passes tests tree.places) (square_places tree.places (sq parent))
        (flat_map (square_places tree.places) before.pending));
    reads = λ test holds.
        let paid = way.reads test (ap (λ n. test (node n (node_prefix parent))) (sym its.level) ∙ holds) in
        let summed = sum_by-map (square_worth test tree.places) sq way.children in
        let both = ap (sum_by (square_worth test tree.places)) waiting
        ∙ sum_by-append (square_worth test tree.places) (map sq way.children) before.pending in
        omega (arith, paid, summed, both);
    turns =
        let fewer = way.turns in
        let summed = sum_by-map (turns_in tree.places) sq way.children in
        let both = ap (sum_by (turns_in tree.places)) waiting
        ∙ sum_by-append (turns_in tree.places) (map sq way.children) before.pending in
        omega (arith, fewer, summed, both);
  }

  -- children one level lower fit where there is room for them
  children-fit : (total : ℕ) (deeper cs : List NodeRef) → All (λ child. child.below + 1 ≡ parent.below) cs
      → Fits tree.narrow total deeper
      → length deeper + length cs + slots (levels_below tree.narrow (parent.below - 1)) ≤ total + 1
      → Fits tree.narrow total (cs ++ deeper)
  children-fit total deeper [] each fits room = fits
  children-fit total deeper (c ∷ cs) each fits room =
      let P : NodeRef → Type 0 = λ child. child.below + 1 ≡ parent.below in
      let below : c.below ≡ parent.below - 1 = omega (arith, All-head P c cs each) in (
        rw below (omega (arith, length-append cs deeper)),
        children-fit total deeper cs (All-tail P c cs each) fits (omega arith),
      )

  -- the parts of the walk still belong together
  pub branch-walk : IsNodeWalk tree stack low high
      → length stack + slots (levels_of tree.narrow parent) ≤ slots tree.places.levels
      → 1 ≤ parent.below → IsNodeWalk tree new low high
  branch-walk walk room inner = record {
    nodes = subst (All (IsNodeOf tree)) (sym way.pushed)
        (All-append (IsNodeOf tree) way.children (reverse stack) way.nodes walk.nodes);
    fits = subst (Fits tree.narrow (slots tree.places.levels)) (sym way.pushed)
        (children-fit (slots tree.places.levels) (reverse stack) way.children way.levels walk.fits
        (omega (arith, length-reverse stack, way.few, room, slots-parts tree.narrow parent.below inner)));
    few = walk.few;
    within = walk.within;
    are = walk.are;
    near = walk.near;
  }

-- a node was taken off a walk's stack
pub popped : (tree : TreeView) (low high : ℕ) (old new : List NodeRef) (taken : Option NodeRef)
    → old ≡ new ++ option_to_list taken
    → IsNodeWalk tree old low high → IsNodeWalk tree new low high
popped tree low high old new None is walk = rw (is ∙ append-nil new) at walk
popped tree low high old new (Some ref) is walk =
    let turned : reverse old ≡ ref ∷ reverse new = ap reverse is ∙ reverse-append new (ref ∷ []) in
    record {
      nodes = All-tail (IsNodeOf tree) ref (reverse new) (subst (All (IsNodeOf tree)) turned walk.nodes);
      fits = (subst (Fits tree.narrow (slots tree.places.levels)) turned walk.fits).1;
      few = walk.few;
      within = walk.within;
      are = walk.are;
      near = walk.near;
    }

-- a node that was taken off is one of the tree's
pub popped-node : (tree : TreeView) (low high : ℕ) (old new : List NodeRef) (taken : Option NodeRef)
    → old ≡ new ++ option_to_list taken
    → IsNodeWalk tree old low high → IfSome taken (λ ref. IsNodeOf tree ref)
popped-node tree low high old new None is walk = tt
popped-node tree low high old new (Some ref) is walk =
    let turned : reverse old ≡ ref ∷ reverse new = ap reverse is ∙ reverse-append new (ref ∷ []) in
    All-head (IsNodeOf tree) ref (reverse new) (subst (All (IsNodeOf tree)) turned walk.nodes)
