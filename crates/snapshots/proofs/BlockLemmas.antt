-- The block of an object, step by step.
use Rattle.std.proofs.Common.{◌≡◌, ℕ, ◌+◌, ◌-◌, ◌<◌, Bool, true, false, List, length, get_or, take, sum}
use Rattle.std.proofs.Common.{Some, sym, ap, ◌∙◌, arith, cond}
use Rattle.std.specs.List.{range_with_len}
use Rattle.std.proofs.lemmas.List.{get_or-map, length-map}
use Rattle.std.proofs.lemmas.List.FromFn.{get_or-range_with_len, length-range_with_len}
use Rattle.std.proofs.lemmas.Option.{get_or_from_slice_get, slice_get_within}
use Rattle.std.specs.Prelude.{slice_get, slice_index_or, slice_index}
use Rattle.packed_bits.specs.Bits.{ones_of}
use Rattle.bit_rank.specs.Bits.{rank_of, select_of}
use Rattle.bit_rank.proofs.RankLemmas.{rank_of-step, rank_of-le-ones_of}
use Rattle.object_perm.specs.Permutation.{inverse_of}
use Rattle.track_types.specs.declared.cell.Cell.{Cell}
use Rattle.snapshots.specs.View.{SnapshotView, block_at, block_by, block_of, block_with, leaf_at, rank_in, tree_in}
use Rattle.snapshots.specs.Sound.{IsSnapshot}
use Rattle.snapshots.specs.Stored.{starts_of}
use Rattle.snapshots.specs.declared.anchored.Anchored.{Anchored}
use Rattle.snapshots.proofs.FlawlessLemmas.{leaf_within}

-- a present object's place among the present ones is below their number
pub rank_within : (present : List Bool) (index : ℕ) → slice_get present index ≡ Some true → index < length present
    → rank_of present index < ones_of present
rank_within present index is within =
    let on : get_or present index false ≡ true = get_or_from_slice_get present index true false is in
    let step = rank_of-step present index within ∙ ap (λ b. rank_of present index + cond b 1 0) on in
    omega (arith, rank_of-le-ones_of present (index + 1))

-- a present object has a rank, which is a place in leaf order
pub rank_in-within : (view : SnapshotView) (index : ℕ) → IsSnapshot view
    → slice_get view.parts.present index ≡ Some true
    → rank_in view index < length view.parts.perm
rank_in-within view index is here =
    let inside = slice_get_within view.parts.present index true here in
    omega (arith, rank_within view.parts.present index here inside, is.shaped.perm)

-- where a log begins
pub start_at : (start rank : ℕ) (lengths : List ℕ) → rank < length lengths
    → get_or (starts_of start lengths) rank 0 ≡ start + sum (take rank lengths)
start_at start rank lengths within =
    get_or-map (λ r. start + sum (take r lengths)) (range_with_len 0 (length lengths)) rank 0 0
    (omega (arith, length-range_with_len 0 (length lengths)))
    ∙ ap (λ r. start + sum (take r lengths)) (get_or-range_with_len 0 (length lengths) rank 0 within ∙ omega arith)

pub length-starts_of : (start : ℕ) (lengths : List ℕ) → length (starts_of start lengths) ≡ length lengths
length-starts_of start lengths =
    length-map (range_with_len 0 (length lengths)) (λ r. start + sum (take r lengths))
    ∙ length-range_with_len 0 (length lengths)

-- blocks with the same fields are the same
pub same_block : (a b : Anchored) → a.index ≡ b.index → a.offset ≡ b.offset → a.cell ≡ b.cell → a.from ≡ b.from
    → a.len ≡ b.len → a ≡ b
same_block a b index offset cell from len =
    ap (λ i. with_fields i a.offset a.cell a.from a.len) index
    ∙ ap (λ o. with_fields b.index o a.cell a.from a.len) offset
    ∙ ap (λ c. with_fields b.index b.offset c a.from a.len) cell
    ∙ ap (λ f. with_fields b.index b.offset b.cell f a.len) from
    ∙ ap (λ l. with_fields b.index b.offset b.cell b.from l) len
  where
    with_fields : ℕ → ℕ → Cell → ℕ → ℕ → Anchored
    with_fields i o c f l = record { index = i; offset = o; cell = c; from = f; len = l }

-- the block at a place is what is read of its object, where the cell is that of the place's leaf
pub block_at-read : (view : SnapshotView) (index rank place : ℕ) (cell : Cell)
    → index ≡ select_of view.parts.present (rank + 1) → rank ≡ slice_index view.parts.perm place
    → slice_get (tree_in view).cells (leaf_at view place) ≡ Some cell → block_by view index rank cell ≡ block_at view place
block_at-read view index rank place cell selected ranked found =
    let here = get_or_from_slice_get (tree_in view).cells (leaf_at view place) cell view.frame.base found in
    ap (λ i. block_by view i rank cell) selected
    ∙ ap (block_by view (select_of view.parts.present (rank + 1)) rank) (sym here)
    ∙ ap (λ r. block_with view (select_of view.parts.present (r + 1)) r place) ranked

-- a present object has its block
pub block_found : (view : SnapshotView) (index : ℕ) (block : Anchored) → slice_get view.parts.present index ≡ Some true
    → block ≡ block_with view index (rank_of view.parts.present index)
    (inverse_of view.parts.perm (rank_of view.parts.present index))
    → Some block ≡ block_of view index
block_found view index block present is =
    let on : slice_index_or view.parts.present index false ≡ true =
    get_or_from_slice_get view.parts.present index true false present in
    rw on (ap Some is)

-- each place in leaf order has a leaf of the tree
pub leaf_known : (view : SnapshotView) (place : ℕ) → IsSnapshot view → place < length view.parts.perm
    → leaf_at view place < length (tree_in view).cells
leaf_known view place is within =
    let inside : place < length view.parts.lasts = omega (arith, is.shaped.perm, is.shaped.lasts) in
    let last = get_or_from_slice_get view.parts.lasts (length view.parts.lasts - 1) true false
    (is.sound.last (omega arith)) in
    omega (arith, is.sound.cells, leaf_within view.parts.lasts place last inside)

-- as many logs begin as objects are present
pub length-starts : (view : SnapshotView) (starts : List ℕ) → IsSnapshot view
    → starts ≡ starts_of view.start view.parts.lengths → length starts ≡ ones_of view.parts.present
length-starts view starts is begin =
    ap length begin ∙ length-starts_of view.start view.parts.lengths ∙ is.shaped.lengths
