-- The parts of a period as its blocks' headers make them: they are shaped and sound, and give each object its block
-- again.
use Rattle.std.proofs.Common.{All, ◌≡◌, ℕ, ◌+◌, ◌^◌, ◌<◌, ◌≤◌, ◌==◌, Bool, true, false, List, length, get_or, map, take, None, Some}
use Rattle.std.proofs.Common.{refl, sym, ap, ◌∙◌, arith}
use Rattle.std.specs.Prelude.{slice_index, slice_index_or, sum}
use Rattle.std.specs.List.{list_any}
use Rattle.std.specs.List.Sorted.{IsStrictlyIncreasing}
use Rattle.std.proofs.lemmas.List.{get_or-map, length-map}
use Rattle.std.proofs.lemmas.List.Elements.{All-map}
use Rattle.std.proofs.lemmas.List.FromFn.{length-map-range_with_len}
use Rattle.packed_bits.specs.Bits.{ones_of}
use Rattle.packed_bits.proofs.OnesLemmas.{ones_of-le-length}
use Rattle.bit_rank.specs.Bits.{rank_of}
use Rattle.object_perm.specs.Permutation.{inverse_of}
use Rattle.object_perm.proofs.InverseLemmas.{at-inverse_of}
use Rattle.object_perm.proofs.OntoLemmas.{inverse_of-within}
use Rattle.track_types.specs.Frame.{instants_in, wide_of}
use Rattle.track_types.specs.Limits.{limit_of}
use Rattle.track_types.specs.PartsForm.{AreShort, IsShapedPeriod}
use Rattle.track_types.specs.declared.frame.Frame.{Frame}
use Rattle.track_types.specs.declared.limit.LimitKind.TheVariants.{Objects}
use Rattle.track_types.specs.declared.limit.TheConstants.{MAX_PERIOD}
use Rattle.k2_tree.specs.Morton.{IsGrid, IsInGrid, cell_of, morton_of}
use Rattle.k2_tree.specs.Tree.{Tree, tree_with}
use Rattle.k2_tree.specs.TreeBits.{AreCodes}
use Rattle.k2_tree.specs.Widths.{fan}
use Rattle.k2_tree.proofs.BuiltLemmas.{few_bits}
use Rattle.k2_tree.proofs.MortonLemmas.{cell_of-morton_of, morton_of-lt}
use Rattle.movement_log.specs.declared.head.Head.{Head}
use Rattle.snapshots.specs.Sound.{IsSoundPeriod}
use Rattle.snapshots.specs.View.{SnapshotView, block_of, leaf_at, tree_in, view_with}
use Rattle.snapshots.specs.declared.anchored.Anchored.{Anchored}
use Rattle.snapshots.proofs.SoundLemmas.{wide_of-fits}
use Rattle.chart_parts.specs.LeafOrder.{distinct_codes, ends_of, leaf_codes, leaf_order}
use Rattle.chart_parts.specs.PeriodWith.{codes_of_heads, no_head, period_with, presence_of}
use Rattle.chart_parts.proofs.LeafEndLemmas.{All-distinct_codes, Rises-distinct_codes, distinct_codes-at_rank, ends_of-last, length-ends_of, ones_of-leaf_ends, rank_of-leaf_ends}
use Rattle.chart_parts.proofs.LeafOrderLemmas.{PermutesPlaces-leaf_order, leaf_order-before, leaf_order-within, length-leaf_codes, length-leaf_order}
use Rattle.chart_parts.proofs.SnapshotLemmas.{StandsFor-morton_bits, tree_of-morton_bits}
use Rattle.outline_parts.proofs.KeyBitLemmas.{key-of_bit, ones_of-keys}

-- the place of an object among all objects
abbrev pub index_of : Head → ℕ
index_of head = head.index

-- what is known of the blocks of a period
pub record AreOfPeriod (frame : Frame) (objects number : ℕ) (heads : List Head) (lengths : List ℕ) : Type 0 where
  pub grid : IsGrid frame.height frame.base
  pub some : objects ≤ limit_of Objects
  pub short : frame.period ≤ MAX_PERIOD
  pub rise : IsStrictlyIncreasing (map index_of heads)
  pub below : All (λ head. index_of head < objects) heads
  pub inside : All (λ head. IsInGrid frame.height frame.base head.cell) heads
  pub offsets : All (λ head. head.offset < instants_in frame number) heads
  pub same : length lengths ≡ length heads
  pub short_lengths : AreShort lengths

module _ (frame : Frame) (objects number : ℕ) (heads : List Head) (lengths : List ℕ)
    (are : AreOfPeriod frame objects number heads lengths) where
  abbrev codes : List ℕ
  codes = codes_of_heads frame heads

  abbrev wide : ℕ
  wide = wide_of frame

  abbrev present : List Bool
  present = presence_of objects heads

  many-codes : length codes ≡ length heads
  many-codes = length-map heads (λ (head : Head). morton_of frame.height frame.base head.cell)

  -- there is a one for each header
  pub ones-present : ones_of (presence_of objects heads) ≡ length heads
  ones-present = ones_of-keys index_of objects heads are.rise are.below

  -- there are no more of them than objects
  pub few-heads : length heads ≤ objects
  few-heads =
      let long = length-map-range_with_len (λ index. list_any (λ (head : Head). head.index == index) heads) 0 objects in
      omega (arith, ones-present, ones_of-le-length present, long)

  are-codes : AreCodes frame.height (distinct_codes codes)
  are-codes = record {
    rising = Rises-distinct_codes codes;
    small =
        All-distinct_codes codes (λ code. code < fan ^ frame.height)
        (All-map (λ code. code < fan ^ frame.height) (λ (head : Head). morton_of frame.height frame.base head.cell) heads
        (λ k d within. morton_of-lt frame.height frame.base (get_or heads k d).cell));
  }

  few-distinct : length (distinct_codes codes) ≤ objects
  few-distinct =
      omega (
        arith,
        ones_of-leaf_ends codes,
        ones_of-le-length (ends_of (leaf_codes codes)),
        length-ends_of (leaf_codes codes),
        length-leaf_codes codes,
        many-codes,
        few-heads,
      )

  -- the parts are shaped
  pub IsShapedPeriod-heads : IsShapedPeriod objects (period_with frame objects heads lengths)
  IsShapedPeriod-heads =
      let ones = ones-present in
      let few : objects ≤ limit_of Objects = are.some in record {
        presence = length-map-range_with_len (λ index. list_any (λ (head : Head). head.index == index) heads) 0 objects;
        offsets = length-map heads (λ (head : Head). head.offset) ∙ sym ones;
        bits = few_bits frame.height wide (distinct_codes codes) are.grid.limit (wide_of-fits frame)
            (omega (arith, few-distinct));
        lasts = length-ends_of (leaf_codes codes) ∙ length-leaf_codes codes ∙ many-codes ∙ sym ones;
        perm = length-leaf_order codes ∙ many-codes ∙ sym ones;
        lengths = are.same ∙ sym ones;
        short_offsets = All-map (λ n. n < 2 ^ 32) (λ (head : Head). head.offset) heads
            (λ k d within. let low = are.offsets k d within in let period = are.short in omega arith);
        short_perm = λ k d within. omega (arith, leaf_order-within codes k d within, many-codes, few-heads);
        short_lengths = are.short_lengths;
      }

  module _ (start : ℕ) where
    -- the snapshot of these parts
    abbrev pub heads_view : SnapshotView
    heads_view = view_with frame number objects start (period_with frame objects heads lengths)

    tree-is : tree_in heads_view ≡ tree_with frame.height wide frame.base (map (cell_of frame.height frame.base) (distinct_codes codes))
    tree-is = tree_of-morton_bits frame.height wide frame.base (distinct_codes codes) are.grid (wide_of-fits frame) are-codes

    -- the parts are sound
    pub IsSoundPeriod-heads : IsSoundPeriod heads_view
    IsSoundPeriod-heads = record {
      offsets = All-map (λ offset. offset < instants_in frame number) (λ (head : Head). head.offset) heads are.offsets;
      tree = StandsFor-morton_bits frame.height wide frame.base (distinct_codes codes) are.grid (wide_of-fits frame) are-codes;
      cells =
          ones_of-leaf_ends codes ∙ sym (length-map (distinct_codes codes) (cell_of frame.height frame.base))
          ∙ ap (λ (tree : Tree). length tree.cells) (sym tree-is);
      last = ends_of-last (leaf_codes codes);
      permutes = PermutesPlaces-leaf_order codes;
      order = λ p q less within same.
          let inside : q < length codes = omega (arith, length-leaf_order codes) in
          let alike : slice_index codes (slice_index (leaf_order codes) p) ≡ slice_index codes (slice_index (leaf_order codes) q) =
          sym (distinct_codes-at_rank codes p (omega arith)) ∙ ap (slice_index (distinct_codes codes)) same
          ∙ distinct_codes-at_rank codes q inside in
          (leaf_order-before codes p q less inside).tied alike;
    }

    -- the block of the header at a place
    abbrev pub block_at_head : ℕ → Anchored
    block_at_head k = record {
      index = (get_or heads k no_head).index;
      offset = (get_or heads k no_head).offset;
      cell = (get_or heads k no_head).cell;
      from = start + sum (take k lengths);
      len = slice_index lengths k;
    }

    -- the cell of the header at a place is found by its place in leaf order
    cell-at : (k : ℕ) → k < length heads →
        slice_index_or (tree_in heads_view).cells (leaf_at heads_view (inverse_of (leaf_order codes) k)) frame.base
        ≡ (get_or heads k no_head).cell
    cell-at k within =
        let place : ℕ = inverse_of (leaf_order codes) k in
        let all = length-leaf_order codes in
        let inside : place < length (leaf_order codes) =
        inverse_of-within (leaf_order codes) k (PermutesPlaces-leaf_order codes) (omega (arith, all, many-codes)) in
        let here : slice_index (leaf_order codes) place ≡ k = at-inverse_of (leaf_order codes) k inside in
        let leaf : ℕ = rank_of (ends_of (leaf_codes codes)) place in
        let known : leaf < length (distinct_codes codes) = rank_of-leaf_ends codes place (omega (arith, all)) in
        let code : slice_index (distinct_codes codes) leaf ≡ morton_of frame.height frame.base (get_or heads k no_head).cell =
        distinct_codes-at_rank codes place (omega (arith, all)) ∙ ap (slice_index codes) here
        ∙ get_or-map (λ (head : Head). morton_of frame.height frame.base head.cell) heads k no_head 0 within in
        ap (λ (tree : Tree). slice_index_or tree.cells leaf frame.base) tree-is
        ∙ get_or-map (cell_of frame.height frame.base) (distinct_codes codes) leaf 0 frame.base known
        ∙ ap (cell_of frame.height frame.base) code
        ∙ cell_of-morton_of frame.height frame.base (get_or heads k no_head).cell (are.inside k no_head within)

    -- an object that is present has the block of its header
    pub block_of-present : (i : ℕ) → i < objects → slice_index_or (presence_of objects heads) i false ≡ true →
        (rank_of (presence_of objects heads) i < length heads)
        × ((get_or heads (rank_of (presence_of objects heads) i) no_head).index ≡ i)
        × (block_of heads_view i ≡ Some (block_at_head (rank_of (presence_of objects heads) i)))
    block_of-present i within on =
        let found = key-of_bit index_of objects heads are.rise are.below i no_head within on in
        let rank : ℕ = rank_of present i in
        let offset = get_or-map (λ (head : Head). head.offset) heads rank no_head 0 found.0 in
        let cell = cell-at rank found.0 in (
          found.0,
          found.1,
          rw on (ap Some (rw (offset, cell) (ap (λ index. record {
            index = index;
            offset = (get_or heads rank no_head).offset;
            cell = (get_or heads rank no_head).cell;
            from = start + sum (take rank lengths);
            len = slice_index lengths rank;
          }) (sym found.1)))),
        )

    -- one that is not has none
    pub block_of-absent : (i : ℕ) → slice_index_or (presence_of objects heads) i false ≡ false → block_of heads_view i ≡ None
    block_of-absent i off = rw off refl
