-- The blocks that the parts of an outline have in a period are the outline's own, with their logs.
use Rattle.std.proofs.Common.{◌≡◌, ◌⊎◌, ℕ, ◌+◌, ◌<◌, ◌==◌, Bool, true, false, List, [], ◌∷◌, length, filter, get_or, map, None, Some}
use Rattle.std.proofs.Common.{refl, sym, ap, ◌∙◌, arith, inl, inr, subst}
use Rattle.std.specs.Prelude.{slice_index_or}
use Rattle.std.specs.List.{list_any, slice_range}
use Rattle.std.specs.List.Sorted.{IsStrictlyIncreasing}
use Rattle.std.specs.Option.{option_map, option_to_list}
use Rattle.std.proofs.lemmas.Bool.{cases_Bool, cases_lt}
use Rattle.std.proofs.lemmas.Int.{ints}
use Rattle.std.proofs.lemmas.List.{get_or-map, get_or_past, length-map}
use Rattle.std.proofs.lemmas.List.FromFn.{get_or-map-range_with_len, length-map-range_with_len}
use Rattle.std.proofs.lemmas.Option.{none-some, same_Some}
use Rattle.bit_rank.specs.Bits.{rank_of}
use Rattle.track_types.specs.Frame.{periods_of}
use Rattle.track_types.specs.declared.cell.Cell.{Cell}
use Rattle.track_types.specs.declared.frame.Frame.{Frame}
use Rattle.rule_store.proofs.CellLemmas.{same_cell}
use Rattle.movement_log.specs.declared.head.Head.{Head}
use Rattle.index_format.specs.IsOutline.{IsOutline}
use Rattle.index_format.specs.declared.outline.Outline.{Outline}
use Rattle.index_format.specs.declared.outline.OutlineBlock.{OutlineBlock}
use Rattle.snapshots.specs.Parts.{log_in, snapshot_in, start_in}
use Rattle.snapshots.specs.View.{SnapshotView, block_of, view_with}
use Rattle.snapshots.specs.declared.anchored.Anchored.{Anchored}
use Rattle.chart_parts.specs.PeriodWith.{no_head, presence_of}
use Rattle.outline_parts.specs.OutlineOf.{block_in, cell_in, logged_block}
use Rattle.outline_parts.specs.PartsOfOutline.{cell_from, head_of, parts_of_outline}
use Rattle.outline_parts.proofs.KeyBitLemmas.{filter-key, filter-no_key, list_any-made}
use Rattle.outline_parts.proofs.OutlineLemmas.{Logged, are-mine, heads_of, its, its-sorted, lengths_of, mine, no_block, object_in, period_in}
use Rattle.outline_parts.proofs.PairOrderLemmas.{each-inner, rising-of_inner}
use Rattle.outline_parts.proofs.PeriodLemmas.{AreOfPeriod, block_at_head, block_of-absent, block_of-present, heads_view}
use Rattle.outline_parts.proofs.SymbolLemmas.{period_at-outline, slice_range-outline}

-- a bit that is read as a one is there
pub bit-within : (bits : List Bool) (i : ℕ) → slice_index_or bits i false ≡ true → i < length bits
bit-within bits i on = elim (cases_lt i (length bits)) [
  | inl within ↦ within
  | inr past ↦ absurd (let off : slice_index_or bits i false ≡ false = get_or_past bits i false past in cc)
]

-- a cell that is counted from the base, once it is placed in the grid, is counted so again
pub cell-again : (frame : Frame) (cell : Cell) → cell_in frame (cell_from frame cell) ≡ cell
cell-again frame cell = same_cell _ _ cell.x cell.y (omega (arith, ints)) (omega (arith, ints))

-- the block of these fields
abbrev block_with : ℕ → ℕ → ℕ → Cell → ℕ → OutlineBlock
block_with period index offset cell long =
    record { period = period; index = index; offset = offset; cell = cell; length = long }

-- a block with its log, by its fields
pub same-logged : (it : Logged) (period index offset : ℕ) (cell : Cell) (long : ℕ) (log : List ℕ) → period ≡ it.0.period →
    index ≡ it.0.index → offset ≡ it.0.offset → cell ≡ it.0.cell → long ≡ it.0.length → log ≡ it.1 →
    (block_with period index offset cell long, log) ≡ it
same-logged it period index offset cell long log periods indexes offsets cells lengths logs =
    rw (periods, indexes, offsets, cells, lengths, logs) refl

module _ (outline : Outline) (is : IsOutline outline) (number : ℕ) (below : number < periods_of outline.frame) where
  abbrev mine-here : List Logged
  mine-here = mine outline is number

  -- the block at a place among those of the period
  abbrev pub told_at : ℕ → Logged
  told_at k = get_or (mine outline is number) k (no_block, [])

  -- a block that is the one of the outline at a place
  pub record IsTold (k : ℕ) (block : Anchored) : Type 0 where
    pub within : k < length (mine outline is number)
    pub index : block.index ≡ (told_at k).0.index
    pub offset : block.offset ≡ (told_at k).0.offset
    pub cell : block.cell ≡ cell_from outline.frame (told_at k).0.cell
    pub len : block.len ≡ (told_at k).0.length
    pub log : slice_range (parts_of_outline outline).symbols block.from (block.from + block.len) ≡ (told_at k).1

  abbrev heads : List Head
  heads = heads_of outline is number

  abbrev lengths : List ℕ
  lengths = lengths_of outline is number

  abbrev objects : ℕ
  objects = length outline.objects

  abbrev start : ℕ
  start = start_in (parts_of_outline outline) number

  abbrev are : AreOfPeriod outline.frame objects number heads lengths
  are = are-mine outline is number

  -- the snapshot of a period
  abbrev pub outline_view : SnapshotView
  outline_view = heads_view outline.frame (length outline.objects) number (heads_of outline is number) (lengths_of outline is number)
      (are-mine outline is number) (start_in (parts_of_outline outline) number)

  long-heads : length heads ≡ length mine-here
  long-heads = length-map mine-here (λ (it : Logged). head_of outline.frame it.0)

  told-head : (k : ℕ) → k < length mine-here → get_or heads k no_head ≡ head_of outline.frame (told_at k).0
  told-head k within = get_or-map (λ (it : Logged). head_of outline.frame it.0) mine-here k (no_block, []) no_head within

  IsTold-head : (k : ℕ) → k < length mine-here → IsTold k (block_at_head outline.frame objects number heads lengths are start k)
  IsTold-head k within =
      let head = told-head k within in
      record {
        within = within;
        index = ap (λ (h : Head). h.index) head;
        offset = ap (λ (h : Head). h.offset) head;
        cell = ap (λ (h : Head). h.cell) head;
        len = get_or-map (λ (it : Logged). it.0.length) mine-here k (no_block, []) 0 within;
        log = slice_range-outline outline is number below k within;
      }

  -- an object has no block, and the outline has none of it; or it has the outline's
  pub told-cases : (i : ℕ) → i < length outline.objects →
      ((block_of outline_view i ≡ None) × (filter (λ it. object_in it == i) (mine outline is number) ≡ []))
      ⊎ ((k : ℕ) × (block : Anchored) × (block_of outline_view i ≡ Some block) × IsTold k block × ((told_at k).0.index ≡ i))
  told-cases i within = elim (cases_Bool (slice_index_or (presence_of objects heads) i false)) [
    | inl on ↦
        let found = block_of-present outline.frame objects number heads lengths are start i within on in
        let k : ℕ = rank_of (presence_of objects heads) i in
        let inside : k < length mine-here = omega (arith, found.0, long-heads) in
        inr (
          k,
          block_at_head outline.frame objects number heads lengths are start k,
          found.2,
          IsTold-head k inside,
          sym (ap (λ (h : Head). h.index) (told-head k inside)) ∙ found.1,
        )
    | inr off ↦
        let bit : list_any (λ (head : Head). head.index == i) heads ≡ false =
        sym (get_or-map-range_with_len (λ index. list_any (λ (head : Head). head.index == index) heads) 0 objects i i false
        within (omega arith)) ∙ off in
        inl (
          block_of-absent outline.frame objects number heads lengths are start i off,
          filter-no_key object_in mine-here i
              (sym (list_any-made (λ (it : Logged). head_of outline.frame it.0) (λ (head : Head). head.index == i) mine-here) ∙ bit),
        )
  ]

  -- a block that an object has is the outline's
  pub told-block : (i : ℕ) (block : Anchored) → block_of outline_view i ≡ Some block → (k : ℕ) × IsTold k block
  told-block i block has = elim (cases_Bool (slice_index_or (presence_of objects heads) i false)) [
    | inr off ↦ absurd (none-some block (sym (block_of-absent outline.frame objects number heads lengths are start i off) ∙ has))
    | inl on ↦
        let low = bit-within (presence_of objects heads) i on in
        let long = length-map-range_with_len (λ index. list_any (λ (head : Head). head.index == index) heads) 0 objects in
        elim (told-cases i (omega arith)) [
          | inl none ↦ absurd (none-some block (sym none.0 ∙ has))
          | inr some ↦ (some.0, subst (IsTold some.0) (same_Some some.1 block (sym some.2 ∙ has)) some.3)
        ]
  ]

  rising : IsStrictlyIncreasing (map object_in mine-here)
  rising = rising-of_inner object_in period_in number (its outline is) (its-sorted outline is)

  -- the snapshot of the period in the outline's parts
  pub snapshot-outline : snapshot_in (parts_of_outline outline) number ≡ outline_view
  unfolding parts_of_outline
  snapshot-outline =
      ap (view_with outline.frame number (length outline.objects) (start_in (parts_of_outline outline) number))
      (period_at-outline outline is number below)

  -- a block of the outline is told again
  told-again : (k : ℕ) (block : Anchored) → IsTold k block → logged_block (parts_of_outline outline) number block ≡ told_at k
  unfolding parts_of_outline
  told-again k block told =
      let period : number ≡ (told_at k).0.period =
      sym (each-inner object_in period_in number (its outline is) k (no_block, []) told.within) in
      let cell : cell_in outline.frame block.cell ≡ (told_at k).0.cell =
      ap (cell_in outline.frame) told.cell ∙ cell-again outline.frame (told_at k).0.cell in
      same-logged (told_at k) number block.index block.offset (cell_in outline.frame block.cell) block.len
      (log_in (parts_of_outline outline) block) period told.index told.offset cell told.len told.log

  -- what the parts tell of an object in the period is what the outline has of it
  pub block_in-outline : (i : ℕ) → i < length outline.objects →
      option_to_list (block_in (parts_of_outline outline) number i) ≡ filter (λ it. object_in it == i) (mine outline is number)
  unfolding block_in
  block_in-outline i within =
      ap (λ view. option_to_list (option_map (logged_block (parts_of_outline outline) number) (block_of view i))) snapshot-outline
      ∙ elim (told-cases i within) [
        | inl none ↦ rw none.0 (sym none.1)
        | inr some ↦
            let k : ℕ = some.0 in
            let block : Anchored = some.1 in
            let told : IsTold k block = some.3 in
            let own : (told_at k).0.index ≡ i = some.4 in
            ap (λ one. option_to_list (option_map (logged_block (parts_of_outline outline) number) one)) some.2
            ∙ ap (λ one. one ∷ []) (told-again k block told)
            ∙ sym (filter-key object_in mine-here k (no_block, []) rising told.within)
            ∙ ap (λ j. filter (λ it. object_in it == j) mine-here) own
      ]
