-- The blocks of a period as places of a tree of boxes: their Morton numbers ascend, and are those of the tree of
-- anchors.
use Rattle.std.proofs.Common.{◌≡◌, ℕ, zero, suc, ◌+◌, ◌*◌, ◌^◌, ◌<◌, ◌≤◌, Bool, true, false, List, [], ◌∷◌, length, get_or, map, All, Option, None, Some, IfSome, inl, inr, refl, ap, sym, subst, ◌∙◌, arith}
use Rattle.std.specs.Prelude.{fold, if◌then◌else◌, slice_index, nat_lt}
use Rattle.std.specs.List.{list_any, range_with_len}
use Rattle.std.specs.Option.{option_map}
use Rattle.std.proofs.lemmas.Bool.{cases_Bool, false≢true}
use Rattle.std.proofs.lemmas.Bool.Decides.{nat_tests}
use Rattle.std.proofs.lemmas.Int.{ints}
use Rattle.std.proofs.lemmas.List.{get_or-map, get_or_default, length-map, same_lists}
use Rattle.std.proofs.lemmas.List.Elements.{All-cons, All-head, All-map, All-nil, All-tail}
use Rattle.std.proofs.lemmas.List.Folds.{list_any_at}
use Rattle.std.proofs.lemmas.List.FromFn.{get_or-range_with_len, get_or-map-range_with_len, length-map-range_with_len, length-range_with_len}
use Rattle.std.proofs.lemmas.Option.{none-some, same_Some, slice_get_within}
use Rattle.std.proofs.lemmas.Simd.{map-map}
use Rattle.std.proofs.Math.Nat.{pow-le-pow_right}
use Rattle.std.proofs.lemmas.Nat.{pow_pos}
use Rattle.list_laws.proofs.OptionLemmas.{All-made}
use Rattle.list_laws.proofs.RangeLemmas.{All-from_filter_map}
use Rattle.bit_rank.specs.Bits.{select_of}
use Rattle.bit_rank.proofs.RankLemmas.{rank_of-le, IsSelected-select_of}
use Rattle.track_types.specs.Frame.{grid_of, wide_of, IsFrame}
use Rattle.track_types.specs.declared.cell.Cell.{Cell}
use Rattle.track_types.specs.declared.cell_box.CellBox.{CellBox}
use Rattle.track_types.specs.declared.frame.Frame.{Frame}
use Rattle.track_types.specs.declared.limit.TheConstants.{MAX_HEIGHT, MAX_OBJECTS}
use Rattle.track_types.specs.Boxes.{cell_box, joined_box, moved_box}
use Rattle.k2_tree.specs.Areas.{IsBoxInside}
use Rattle.k2_tree.proofs.InsideLemmas.{joined-inside}
use Rattle.k2_tree.specs.Morton.{morton_of, IsInGrid}
use Rattle.k2_tree.specs.Tree.{codes_of}
use Rattle.k2_tree.specs.TreeBits.{code_limit, Rises}
use Rattle.k2_tree.proofs.MortonLemmas.{morton_of-lt}
use Rattle.k2_tree.proofs.RisingLemmas.{Rises-place}
use Rattle.box_tree.specs.Boxes.{IsFrom}
use Rattle.box_tree.specs.Levels.{digits}
use Rattle.box_tree.specs.Places.{box_at, no_box, Ascends, ArePlaces}
use Rattle.box_tree.specs.Tree.{levels_below, places_with, slots, AreLevels}
use Rattle.box_tree.specs.declared.node_ref.TheConstants.{SLOTS}
use Rattle.rule_store.specs.View.{RulesView}
use Rattle.rule_store.specs.Entry.{entry_of}
use Rattle.log_bounds.specs.Bounds.{cell_before}
use Rattle.snapshots.specs.Parts.{block_log}
use Rattle.snapshots.specs.Sound.{IsBlock, IsSnapshot}
use Rattle.snapshots.specs.SoundParts.{IsInGridAt, IsSoundLog}
use Rattle.log_bounds.specs.Bounds.{log_box, symbol_box, placed_boxes}
use Rattle.snapshots.specs.Tracks.{blocks_by_leaf, track_box}
use Rattle.snapshots.specs.TrackTree.{morton_of_block, level_count, narrow_count, block_places}
use Rattle.snapshots.specs.View.{SnapshotView, all_blocks, block_at, block_of, leaf_at, tree_in}
use Rattle.snapshots.specs.declared.anchored.Anchored.{Anchored}
use Rattle.snapshots.proofs.BlockFactsLemmas.{All-all_blocks}
use Rattle.snapshots.proofs.BlockLemmas.{leaf_known}
use Rattle.snapshots.proofs.ByObjectLemmas.{all_blocks-placed, length-all_blocks}
use Rattle.snapshots.proofs.LeafOrderLemmas.{by_leaf-are}
use Rattle.snapshots.proofs.PlacesLemmas.{few_places}
use Rattle.snapshots.proofs.SoundLemmas.{wide_of-few, wide_of-fits}

-- how many digits levels have, of which so many take one each and so many two, and how many nodes wait at most
record AreMixed (ones twos : ℕ) (levels : List ℕ) : Type 0 where
  pub digits_are : digits levels ≡ ones + 2 * twos
  pub slots_are : slots levels ≡ 3 * ones + 15 * twos
  pub narrow : All (λ level. level ≤ 2) levels

-- the levels of a tree, the lowest of which take one digit
levels_narrow : (narrow below : ℕ) → below ≤ narrow → AreMixed below 0 (levels_below narrow below)
unfolding levels_below
levels_narrow narrow zero low = record { digits_are = refl; slots_are = refl; narrow = All-nil (λ level. level ≤ 2) }
levels_narrow narrow (suc below) low =
    let rest = levels_narrow narrow below (omega arith) in
    let low_test : nat_lt below narrow ≡ true = grind (arith, nat_tests) in
    let one : (if nat_lt below narrow then 1 else 2) ≡ 1 = rw low_test refl in
    subst (λ level. AreMixed (suc below) 0 (level ∷ levels_below narrow below)) (sym one) (record {
      digits_are = omega (arith, rest.digits_are);
      slots_are = omega (arith, rest.slots_are);
      narrow = All-cons (λ level. level ≤ 2) 1 (levels_below narrow below) (omega arith) rest.narrow;
    })

levels_mixed : (narrow wide : ℕ) → AreMixed narrow wide (levels_below narrow (narrow + wide))
unfolding levels_below
levels_mixed narrow zero =
    let none : narrow ≡ narrow + 0 = omega arith in
    subst (λ n. AreMixed narrow 0 (levels_below narrow n)) none (levels_narrow narrow narrow (omega arith))
levels_mixed narrow (suc wide) =
    let rest = levels_mixed narrow wide in
    let more : suc (narrow + wide) ≡ narrow + suc wide = omega arith in
    let high : nat_lt (narrow + wide) narrow ≡ false = grind (arith, nat_tests) in
    let two : (if nat_lt (narrow + wide) narrow then 1 else 2) ≡ 2 = rw high refl in
    subst (λ n. AreMixed narrow (suc wide) (levels_below narrow n)) more
    (subst (λ level. AreMixed narrow (suc wide) (level ∷ levels_below narrow (narrow + wide))) (sym two) (record {
      digits_are = omega (arith, rest.digits_are);
      slots_are = omega (arith, rest.slots_are);
      narrow = All-cons (λ level. level ≤ 2) 2 (levels_below narrow (narrow + wide)) (omega arith) rest.narrow;
    }))

-- those of a header's trees
levels_in : (frame : Frame) → AreMixed (narrow_count frame) (wide_of frame) (levels_below (narrow_count frame) (level_count frame))
levels_in frame =
    let all : narrow_count frame + wide_of frame ≡ level_count frame = omega (arith, wide_of-fits frame) in
    subst (λ n. AreMixed (narrow_count frame) (wide_of frame) (levels_below (narrow_count frame) n)) all
    (levels_mixed (narrow_count frame) (wide_of frame))

digits_in_frame : (frame : Frame) → digits (levels_below (narrow_count frame) (level_count frame)) ≡ frame.height
digits_in_frame frame = omega (arith, (levels_in frame).digits_are, wide_of-fits frame)

pub are_levels : (frame : Frame) → IsFrame frame → AreLevels (level_count frame) (narrow_count frame) frame.height
are_levels frame is =
    let room : SLOTS ≡ 128 = refl in
    record {
      digits_are = digits_in_frame frame;
      few = is.limit;
      room = omega (arith, (levels_in frame).slots_are, is.limit, wide_of-few frame, wide_of-fits frame, room);
    }

-- numbers that are made of a range ascend where each is at most the next
ascends-range : (f : ℕ → ℕ) (a n low : ℕ) → (0 < n → low ≤ f a) → ((p : ℕ) → a ≤ p → p + 1 < a + n → f p ≤ f (p + 1))
    → Ascends low (map f (range_with_len a n))
ascends-range f a zero low first grows = tt
ascends-range f a (suc n) low first grows = (
  first (omega arith),
  ascends-range f (a + 1) n (f a) (λ some. grows a (omega arith) (omega arith))
      (λ p from to. grows p (omega arith) (omega arith)),
)

-- what stands at a place of a rising list is at most what stands at a later one
rises-le : (n i j : ℕ) (xs : List ℕ) → Rises n xs → i ≤ j → j < length xs → get_or xs i 0 ≤ get_or xs j 0
rises-le n i j [] up low within = absurd (omega arith)
rises-le n zero zero (x ∷ xs) up low within = omega arith
rises-le n zero (suc j) (x ∷ xs) up low within =
    let later = Rises-place (suc x) j xs up.1 (omega arith) in omega (arith, later)
rises-le n (suc i) zero (x ∷ xs) up low within = absurd (omega arith)
rises-le n (suc i) (suc j) (x ∷ xs) up low within = rises-le (suc x) i j xs up.1 (omega arith) (omega arith)

-- what some element of one list passes, some of another does that has each of them
any-within : (p : ℕ → Bool) (xs ys : List ℕ)
    → ((k : ℕ) → k < length xs → (j : ℕ) × (j < length ys) × (get_or ys j 0 ≡ get_or xs k 0))
    → list_any p xs ≡ true → list_any p ys ≡ true
any-within p [] ys each any = absurd (false≢true any)
any-within p (x ∷ xs) ys each any = elim (cases_Bool (p x)) [
  | inl here ↦
      let at = each 0 (omega arith) in
      list_any_at p ys at.0 0 at.1 (ap p at.2 ∙ here)
  | inr not ↦ any-within p xs ys (λ k within. each (suc k) (omega arith)) (grind (arith, not, any))
]

both-any : (a b : Bool) → (a ≡ true → b ≡ true) → (b ≡ true → a ≡ true) → a ≡ b
both-any true b to from = sym (to refl)
both-any false true to from = from refl
both-any false false to from = refl

module _ (view : SnapshotView) (is : IsSnapshot view) where
  -- the Morton number at a place is that of its leaf
  pub code-at : (place : ℕ) → place < length view.parts.perm
      → morton_of_block view.frame (block_at view place) ≡ get_or (codes_of (tree_in view)) (leaf_at view place) 0
  code-at place within =
      sym (get_or-map (morton_of view.frame.height view.frame.base) (tree_in view).cells
      (leaf_at view place) view.frame.base 0
      (leaf_known view place is within))

  codes_made : map (morton_of_block view.frame) (blocks_by_leaf view)
      ≡ map (λ place. morton_of_block view.frame (block_at view place)) (range_with_len 0 (length view.parts.perm))
  codes_made = map-map (morton_of_block view.frame) (block_at view) (range_with_len 0 (length view.parts.perm))

  codes-ascend : Ascends 0 (map (morton_of_block view.frame) (blocks_by_leaf view))
  codes-ascend =
      subst (Ascends 0) (sym codes_made)
      (ascends-range (λ place. morton_of_block view.frame (block_at view place)) 0 (length view.parts.perm) 0
      (λ some. omega arith)
      (λ p from to.
      let a = code-at p (omega arith) in
      let b = code-at (p + 1) (omega arith) in
      let long : length (codes_of (tree_in view)) ≡ length (tree_in view).cells =
      length-map (tree_in view).cells (morton_of view.frame.height view.frame.base) in
      rw (a, b) (rises-le 0 (leaf_at view p) (leaf_at view (p + 1))
      (codes_of (tree_in view)) is.sound.tree.is_tree.codes.rising
      (rank_of-le view.parts.lasts p (p + 1) (omega arith))
      (omega (arith, long, leaf_known view (p + 1) is (omega arith))))))

  -- the blocks are places of a tree of boxes, whatever their boxes
  pub are_places_with : (boxes : List CellBox) → length boxes ≡ length view.parts.perm
      → ArePlaces (places_with (level_count view.frame) (narrow_count view.frame)
      (map (morton_of_block view.frame) (blocks_by_leaf view)) boxes)
  are_places_with boxes same =
      let frame : Frame = view.frame in
      let blocks : List Anchored = blocks_by_leaf view in
      let levels = levels_in frame in
      let limit : 4 ^ frame.height ≤ 4 ^ MAX_HEIGHT = pow-le-pow_right (omega arith) is.shaped.header.limit in
      record {
        ascend = codes-ascend;
        same = same ∙ sym (length-map blocks (morton_of_block frame)
            ∙ length-map-range_with_len (block_at view) 0 (length view.parts.perm));
        small = All-map (λ code. code < code_limit) (morton_of_block frame) blocks
            (λ k d within. omega (arith, limit, morton_of-lt frame.height frame.base (get_or blocks k d).cell));
        inside = All-map (λ code. code < 4 ^ digits (levels_below (narrow_count frame) (level_count frame)))
            (morton_of_block frame) blocks
            (λ k d within. rw (digits_in_frame frame) (morton_of-lt frame.height frame.base (get_or blocks k d).cell));
        narrow = levels.narrow;
      }

  pub are_places : (rules : RulesView) → ArePlaces (block_places view.frame rules (blocks_by_leaf view))
  are_places rules =
      are_places_with (map (track_box rules) (blocks_by_leaf view)) (length-map (blocks_by_leaf view) (track_box rules)
      ∙ length-map-range_with_len (block_at view) 0 (length view.parts.perm))

  -- their numbers are those of the tree of anchors
  pub same_codes : (p : ℕ → Bool) → list_any p (map (morton_of_block view.frame) (blocks_by_leaf view))
      ≡ list_any p (codes_of (tree_in view))
  same_codes p =
      let n : ℕ = length view.parts.perm in
      let made : List ℕ = map (λ place. morton_of_block view.frame (block_at view place)) (range_with_len 0 n) in
      let codes : List ℕ = codes_of (tree_in view) in
      let long : length codes ≡ length (tree_in view).cells =
      length-map (tree_in view).cells (morton_of view.frame.height view.frame.base) in
      let count = length-map-range_with_len (λ place. morton_of_block view.frame (block_at view place)) 0 n in
      let read : (place : ℕ) → place < n → get_or made place 0 ≡ get_or codes (leaf_at view place) 0 =
      λ place within. get_or-map-range_with_len (λ k. morton_of_block view.frame (block_at view k)) 0 n place place 0 within
      (omega arith)
      ∙ code-at place within in
      ap (list_any p) codes_made ∙ both-any (list_any p made) (list_any p codes)
      (any-within p made codes (λ k within.
      let inside : k < n = omega (arith, count) in
      (leaf_at view k, omega (arith, long, leaf_known view k is inside), sym (read k inside))))
      (any-within p codes made (λ leaf within.
      let selected = IsSelected-select_of view.parts.lasts (leaf + 1) (omega arith)
      (omega (arith, is.sound.cells, long)) in
      let place : ℕ = select_of view.parts.lasts (leaf + 1) in
      let inside : place < n =
      omega (arith, slice_get_within view.parts.lasts place true selected.one, is.shaped.lasts, is.shaped.perm) in
      let its : leaf_at view place ≡ leaf = omega (arith, selected.rank) in
      (place, omega (arith, count), read place inside ∙ ap (λ l. get_or codes l 0) its)))

  -- what holds of all blocks holds of them in leaf order
  pub All-by_leaf : (P : Anchored → Type 0) → All P (all_blocks view) → All P (blocks_by_leaf view)
  unfolding all_blocks
  All-by_leaf P all = λ k d within.
      let block : Anchored = get_or (blocks_by_leaf view) k d in
      let its = by_leaf-are view is k d within in
      let inside : block.index < view.objects =
      omega (arith, slice_get_within view.parts.present block.index true its.present, is.shaped.presence) in
      subst (λ found. IfSome found P) its.its
      (All-from_filter_map P (block_of view) 0 view.objects all block.index (omega arith) (omega arith))

-- boxes in one are, and so is the least box with all of them
fold-within : (whole area : CellBox) (areas : List CellBox) → IsBoxInside area whole
    → All (λ other. IsBoxInside other whole) areas
    → IsBoxInside (fold joined_box area areas) whole
fold-within whole area [] own each = own
fold-within whole area (other ∷ areas) own each =
    let first : IsBoxInside other whole = All-head (λ b. IsBoxInside b whole) other areas each in
    fold-within whole (joined_box area other) areas (joined-inside area other whole own first)
    (All-tail (λ b. IsBoxInside b whole) other areas each)

-- a placed box is in the grid
placed-inside : (frame : Frame) (cell : Cell) (hull : Option CellBox) (area : CellBox)
    → IfSome hull (IsInGridAt frame cell)
    → option_map (moved_box cell) hull ≡ Some area → IsBoxInside area (grid_of frame)
placed-inside frame cell None area placed is = absurd (none-some area is)
placed-inside frame cell (Some hull) area placed is =
    let some : 1 ≤ 2 ^ frame.height = pow_pos frame.height in
    subst (λ a. IsBoxInside a (grid_of frame)) (same_Some (moved_box cell hull) area is) (record {
      left = placed.left;
      right = omega (arith, ints, placed.right, some);
      below = placed.below;
      above = omega (arith, ints, placed.above, some);
    })

-- the track of a block whose log is sound lies in the grid
pub track-inside : (view : SnapshotView) (rules : RulesView) (block : Anchored) → IsBlock view block
    → IsSoundLog view.frame rules view.number block → IsBoxInside (track_box rules block) (grid_of view.frame)
unfolding log_box
track-inside view rules block its sound =
    let frame : Frame = view.frame in
    let log : List ℕ = block_log rules block in
    let some : 1 ≤ 2 ^ frame.height = pow_pos frame.height in
    fold-within (grid_of frame) (cell_box block.cell) (placed_boxes rules block.cell log (length log)) (record {
      left = its.cell.left;
      right = omega (arith, ints, its.cell.left, its.cell.right, some);
      below = its.cell.below;
      above = omega (arith, ints, its.cell.below, its.cell.above, some);
    }) (All-made (symbol_box rules block.cell log) (λ place. place < length log) (λ b. IsBoxInside b (grid_of frame))
    (λ place area within made. placed-inside frame (cell_before rules block.cell log place)
    (entry_of rules (slice_index log place)).hull area (sound.placed place within) made)
    (range_with_len 0 (length log)) (λ k d within.
    let inside : k < length log = omega (arith, length-range_with_len 0 (length log)) in
    omega (arith, get_or-range_with_len 0 (length log) k d inside)))

-- so the tracks of all blocks lie from the grid's base on
pub tracks-from : (view : SnapshotView) (rules : RulesView) → IsSnapshot view
    → All (IsSoundLog view.frame rules view.number) (all_blocks view)
    → All (IsFrom view.frame.base) (map (track_box rules) (all_blocks view))
tracks-from view rules is sound =
    let blocks : List Anchored = all_blocks view in
    let frame : Frame = view.frame in
    let side : 2 ^ frame.height ≤ 2 ^ MAX_HEIGHT = pow-le-pow_right (omega arith) is.shaped.header.limit in
    All-map (IsFrom frame.base) (track_box rules) blocks (λ k d within.
    let inside = track-inside view rules (get_or blocks k d) (All-all_blocks view is k d within) (sound k d within) in
    record {
      left = inside.left;
      right = omega (arith, ints, inside.right, side);
      below = inside.below;
      above = omega (arith, ints, inside.above, side);
    })

-- what holds of all areas holds of those at some places
pub All-picked : (P : CellBox → Type 0) (areas : List CellBox) (places : List ℕ) → All P areas
    → All (λ place. place < length areas) places → All P (map (box_at areas) places)
All-picked P areas places each within =
    All-map P (box_at areas) places (λ k d below. each (get_or places k d) no_box (within k d below))

-- the boxes of tracks by object, picked in leaf order
pub tracks-picked : (view : SnapshotView) (rules : RulesView) (areas : List CellBox) → IsSnapshot view
    → areas ≡ map (track_box rules) (all_blocks view)
    → map (box_at areas) view.parts.perm ≡ map (track_box rules) (blocks_by_leaf view)
tracks-picked view rules areas is are =
    let perm : List ℕ = view.parts.perm in
    let count = length-map-range_with_len (block_at view) 0 (length perm) in
    same_lists (map (box_at areas) perm) (map (track_box rules) (blocks_by_leaf view))
    (length-map perm (box_at areas) ∙ sym (length-map (blocks_by_leaf view) (track_box rules) ∙ count))
    (λ place d below.
    let within : place < length perm = omega (arith, length-map perm (box_at areas)) in
    let rank : ℕ = slice_index perm place in
    let block : Anchored = block_at view place in
    let inside : rank < length (all_blocks view) =
    omega (arith, is.sound.permutes.within place within, length-all_blocks view is) in
    get_or-map (box_at areas) perm place 0 d within
    ∙ ap (λ (xs : List CellBox). box_at xs rank) are
    ∙ get_or-map (track_box rules) (all_blocks view) rank block no_box inside
    ∙ ap (track_box rules) (all_blocks-placed view is place block within)
    ∙ sym (get_or-map (track_box rules) (blocks_by_leaf view) place block d (omega (arith, count, within))
    ∙ ap (track_box rules)
    (get_or-map-range_with_len (block_at view) 0 (length perm) place place block within (omega arith))))

-- the cells of blocks are in the grid
pub by_leaf-inside : (view : SnapshotView) → IsSnapshot view
    → All (λ block. IsInGrid view.frame.height view.frame.base block.cell) (blocks_by_leaf view)
by_leaf-inside view is = λ k d within. (by_leaf-are view is k d within).cell

-- there are few of them
pub length-by_leaf : (view : SnapshotView) → length (blocks_by_leaf view) ≡ length view.parts.perm
length-by_leaf view = length-map-range_with_len (block_at view) 0 (length view.parts.perm)

-- what it takes that found blocks are kept
pub record IsStorable (frame : Frame) (blocks : List Anchored) (codes : List ℕ) (boxes : List CellBox) : Type 0 where
  pub header : IsFrame frame
  pub places : ArePlaces (places_with (level_count frame) (narrow_count frame) (map (morton_of_block frame) blocks) boxes)
  pub from : All (IsFrom frame.base) boxes
  pub codes_are : codes ≡ map (morton_of_block frame) blocks
  pub few : length blocks < 2 ^ 31

-- those of a snapshot are storable with the boxes that are picked of areas from the grid's base on
pub IsStorable-picked : (view : SnapshotView) (areas : List CellBox) (frame : Frame) (blocks : List Anchored) (codes : List ℕ)
    (boxes : List CellBox) → IsSnapshot view → length areas ≡ length view.parts.perm → All (IsFrom view.frame.base) areas
    → frame ≡ view.frame → blocks ≡ blocks_by_leaf view
    → codes ≡ map (morton_of_block view.frame) (blocks_by_leaf view) → boxes ≡ map (box_at areas) view.parts.perm
    → IsStorable frame blocks codes boxes
IsStorable-picked view areas frame blocks codes boxes is long from frame_is blocks_are codes_are boxes_are =
    let perm : List ℕ = view.parts.perm in
    let few : length perm ≤ MAX_OBJECTS = few_places view is in
    subst (λ (f : Frame). IsStorable f blocks codes boxes) (sym frame_is)
    (subst (λ bs. IsStorable view.frame bs codes boxes) (sym blocks_are)
    (subst (IsStorable view.frame (blocks_by_leaf view) codes) (sym boxes_are) (record {
      header = is.shaped.header;
      places = are_places_with view is (map (box_at areas) perm) (length-map perm (box_at areas));
      from = All-picked (IsFrom view.frame.base) areas perm from
          (λ k d within. omega (arith, long, get_or_default perm k d 0 within, is.sound.permutes.within k within));
      codes_are = codes_are;
      few = omega (arith, few, length-by_leaf view);
    })))
