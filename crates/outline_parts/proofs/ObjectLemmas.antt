-- The block of an object of a period, as an outline has it, from what is stored of the period.
use Rattle.std.proofs.Common.{◌≡◌, ℕ, ◌+◌, ◌^◌, ◌<◌, ◌≤◌, true, false, List, [], ◌∷◌, ◌++◌, length, get_or, map, pos, Some, Option}
use Rattle.std.proofs.Common.{refl, sym, ap, ◌∙◌, append-nil, arith}
use Rattle.std.specs.Prelude.{slice_get, slice_index, slice_index_or, sum, take}
use Rattle.std.specs.List.{filter_map, range_with_len}
use Rattle.std.specs.Option.{option_to_list}
use Rattle.std.proofs.lemmas.List.{map-append}
use Rattle.std.proofs.lemmas.List.Sums.{sum_by_more}
use Rattle.list_laws.proofs.OptionLemmas.{append-option}
use Rattle.list_laws.proofs.RangeLemmas.{filter_map-range_more}
use Rattle.track_types.specs.Frame.{periods_of}
use Rattle.track_types.specs.declared.parts.Parts.{Parts}
use Rattle.track_types.specs.declared.period_parts.PeriodParts.{PeriodParts}
use Rattle.snapshots.specs.Parts.{no_period, period_at, snapshot_in, start_in, symbols_of}
use Rattle.snapshots.specs.SoundParts.{IsValid}
use Rattle.snapshots.proofs.ReachLemmas.{IsSnapshot-valid}
use Rattle.std.proofs.Math.Nat.{pow-le-pow_right}
use Rattle.std.proofs.lemmas.Int.{ints}
use Rattle.std.proofs.lemmas.List.{get_or-map, get_or_default, length-map}
use Rattle.std.proofs.lemmas.Option.{get_or_from_slice_get}
use Rattle.packed_bits.specs.Bits.{ones_of}
use Rattle.bit_rank.specs.Bits.{rank_of}
use Rattle.bit_rank.proofs.RankLemmas.{rank_of-le-ones_of}
use Rattle.object_perm.specs.Permutation.{inverse_of}
use Rattle.object_perm.proofs.OntoLemmas.{inverse_of-within}
use Rattle.track_types.specs.declared.cell.Cell.{Cell}
use Rattle.track_types.specs.declared.frame.Frame.{Frame}
use Rattle.track_types.specs.declared.limit.TheConstants.{MAX_HEIGHT}
use Rattle.k2_tree.specs.Morton.{cell_of}
use Rattle.k2_tree.specs.Tree.{codes_in}
use Rattle.k2_tree.proofs.MortonLemmas.{morton_column-lt, morton_row-lt}
use Rattle.log_bounds.specs.Bounds.{IsWord}
use Rattle.rule_store.proofs.CellLemmas.{same_cell}
use Rattle.snapshots.specs.Sound.{IsSnapshot}
use Rattle.snapshots.specs.View.{SnapshotView, block_of, leaf_at, tree_in, widths_in}
use Rattle.outline_parts.specs.OutlineOf.{cell_in}
use Rattle.outline_parts.specs.Told.{AreByRank, period_view, placed_block}
use Rattle.outline_parts.specs.declared.opening.PlacedBlock.{PlacedBlock}
use Rattle.outline_parts.proofs.LeafMarkLemmas.{AreMarks, rank-within}
use Rattle.outline_parts.proofs.ScatterLemmas.{rank-more}

-- the cell at (0, 0)
abbrev pub corner : Cell
corner = record { x = pos 0; y = pos 0 }

-- a cell by its number, counted from the base
cell-counted : (frame : Frame) (code : ℕ) → cell_in frame (cell_of frame.height frame.base code) ≡ cell_of frame.height corner code
unfolding cell_of
cell-counted frame code = same_cell _ _ _ _ (omega (arith, ints)) (omega (arith, ints))

-- 32 bits hold its column and its line
pub cell-words : (height code : ℕ) → height ≤ MAX_HEIGHT → IsWord (cell_of height corner code).x × IsWord (cell_of height corner code).y
unfolding cell_of
cell-words height code fits =
    let most : 2 ^ height ≤ 2 ^ MAX_HEIGHT = pow-le-pow_right {n = 2} (omega arith) fits in (
      record { low = omega (arith, ints); high = omega (arith, ints, most, morton_column-lt height code) },
      record { low = omega (arith, ints); high = omega (arith, ints, most, morton_row-lt height code) },
    )

-- a block with these fields
abbrev placed_with : ℕ → ℕ → ℕ → Cell → ℕ → ℕ → PlacedBlock
placed_with period index offset cell long start = record {
  block = record { period = period; index = index; offset = offset; cell = cell; length = long };
  start = start;
}

module _ (view : SnapshotView) (is : IsSnapshot view) (codes : List ℕ) (are : AreByRank view codes) where
  told : List ℕ
  told = codes_in (widths_in view.frame) view.parts.tree

  -- the cell of a rank
  cell-told : (rank : ℕ) → rank < length view.parts.perm →
      cell_in view.frame (slice_index_or (tree_in view).cells (leaf_at view (inverse_of view.parts.perm rank)) view.frame.base)
      ≡ cell_of view.frame.height corner (slice_index codes rank)
  unfolding told
  cell-told rank within =
      let place : ℕ = inverse_of view.parts.perm rank in
      let inside = inverse_of-within view.parts.perm rank is.sound.permutes within in
      let marks : AreMarks view.parts.lasts told = record {
        last = is.sound.last;
        many = is.sound.cells ∙ length-map told (cell_of view.frame.height view.frame.base);
      } in
      let known = rank-within view.parts.lasts told place marks (omega (arith, is.shaped.perm, is.shaped.lasts)) in
      ap (cell_in view.frame) (get_or-map (cell_of view.frame.height view.frame.base) told (leaf_at view place) 0 view.frame.base known)
      ∙ cell-counted view.frame (slice_index told (leaf_at view place))
      ∙ ap (cell_of view.frame.height corner) (sym (are.each rank (omega (arith, are.long))))

  module _ (index : ℕ) (within : index < length view.parts.present) where
    -- an object that is not present
    pub absent-told : slice_get view.parts.present index ≡ Some false →
        map (placed_block view.frame view.number) (option_to_list (block_of view index)) ≡ []
    absent-told read =
        let off : slice_index_or view.parts.present index false ≡ false =
        get_or_from_slice_get view.parts.present index false false read in
        rw off refl

    -- the rank of one that is
    pub rank-known : slice_get view.parts.present index ≡ Some true → rank_of view.parts.present index < ones_of view.parts.present
    rank-known read =
        omega (arith, rank-more view.parts.present index true within read, rank_of-le-ones_of view.parts.present (index + 1))

    -- its block
    pub present-told : (rank start : ℕ) → slice_get view.parts.present index ≡ Some true → rank ≡ rank_of view.parts.present index →
        start ≡ view.start + sum (take rank view.parts.lengths) →
        map (placed_block view.frame view.number) (option_to_list (block_of view index))
        ≡ placed_with view.number index (slice_index view.parts.offsets rank)
        (cell_of view.frame.height corner (slice_index codes rank)) (slice_index view.parts.lengths rank) start ∷ []
    present-told rank start read ranked begins =
        let on : slice_index_or view.parts.present index false ≡ true =
        get_or_from_slice_get view.parts.present index true false read in
        let own : ℕ = rank_of view.parts.present index in
        let known = rank-known read in
        rw (begins, ranked, on) (ap (λ cell. placed_with view.number index (slice_index view.parts.offsets own) cell
        (slice_index view.parts.lengths own) (view.start + sum (take own view.parts.lengths)) ∷ [])
        (cell-told own (omega (arith, known, is.shaped.perm))))

-- what is made of one number more
pub blocks-more : {X Y : Type 0} (f : X → Y) (make : ℕ → Option X) (n : ℕ) →
    map f (filter_map make (range_with_len 0 (n + 1)))
    ≡ map f (filter_map make (range_with_len 0 n)) ++ map f (option_to_list (make n))
blocks-more f make n =
    ap (map f) (filter_map-range_more make n ∙ ap (λ back. filter_map make (range_with_len 0 n) ++ back) (sym (append-option (make n) [])))
    ∙ ap (λ back. map f (filter_map make (range_with_len 0 n) ++ back)) (append-nil (option_to_list (make n)))
    ∙ map-append f (filter_map make (range_with_len 0 n)) (option_to_list (make n))

-- the snapshot of a period of parts
pub view-same : (parts : Parts) (number start : ℕ) (period : PeriodParts) → IsValid parts →
    number < periods_of parts.frame → start ≡ start_in parts number → period ≡ period_at parts.periods number →
    period_view parts.frame number start period ≡ snapshot_in parts number
view-same parts number start period valid below begins is =
    let snapshot = IsSnapshot-valid parts valid number below in
    let objects : length period.present ≡ length parts.objects = ap (λ (p : PeriodParts). length p.present) is ∙ snapshot.shaped.presence in
    rw (objects, begins, is) refl

-- where the logs of the next period begin
pub start-behind : (parts : Parts) (number : ℕ) → number < length parts.periods →
    start_in parts (number + 1) ≡ start_in parts number + sum (period_at parts.periods number).lengths
unfolding start_in
start-behind parts number below = sum_by_more symbols_of parts.periods number no_period below

-- a period that was read
pub period-read : (periods all : List PeriodParts) (period : PeriodParts) (number : ℕ) → all ≡ periods → number < length all →
    period ≡ get_or all number period → period ≡ period_at periods number
period-read periods all period number same within is =
    is ∙ get_or_default all number period no_period within ∙ ap (λ (xs : List PeriodParts). get_or xs number no_period) same
