-- The blocks of an outline with their logs: by object, then period, and those of each period.
use Rattle.std.proofs.Common.{All, ◌≡◌, ℕ, zero, suc, ◌+◌, ◌^◌, ◌<◌, ◌==◌, Bool, true, pos, List, [], ◌∷◌, length, get_or, map}
use Rattle.std.proofs.Common.{sym, ap, ◌∙◌, arith, subst}
use Rattle.std.specs.List.Sorted.{IsStrictlyIncreasing, IsStrictlySortedBy}
use Rattle.std.specs.declared.cmp.Ordering.TheVariants.{Less}
use Rattle.std.proofs.lemmas.Bool.{and_parts}
use Rattle.std.proofs.lemmas.Bool.Decides.{nat_tests}
use Rattle.std.proofs.lemmas.Int.{ints}
use Rattle.std.proofs.lemmas.List.{get_or-map, length-map}
use Rattle.std.proofs.lemmas.List.Elements.{All-filter, All-map}
use Rattle.std.proofs.lemmas.List.Sums.{get_or-le-sum_by}
use Rattle.std.proofs.lemmas.Nat.{pow_pos}
use Rattle.std.proofs.lemmas.Simd.{map-map}
use Rattle.list_laws.proofs.MapLemmas.{All-from_map, filter-map}
use Rattle.track_types.specs.Frame.{instants_in}
use Rattle.track_types.specs.declared.cell.Cell.{Cell}
use Rattle.track_types.specs.declared.frame.Frame.{Frame}
use Rattle.k2_tree.specs.Morton.{IsInGrid}
use Rattle.rule_store.specs.View.{RulesView}
use Rattle.movement_log.specs.declared.head.Head.{Head}
use Rattle.index_format.specs.IsOutline.{IsBlock, IsOutline, all_follow, blocks_with_logs, comes_after}
use Rattle.index_format.specs.OutlineBlocks.{is_in_grid}
use Rattle.index_format.specs.OutlineFile.{frame_rules}
use Rattle.index_format.specs.declared.outline.Outline.{Outline}
use Rattle.index_format.specs.declared.outline.OutlineBlock.{OutlineBlock}
use Rattle.index_format.proofs.GridLemmas.{in_grid-bounds}
use Rattle.snapshots.proofs.SoundLemmas.{IsGrid-frame}
use Rattle.chart_parts.specs.PeriodWith.{blocks_of_period}
use Rattle.outline_parts.specs.PartsOfOutline.{cell_from, head_of, headed, logged_in}
use Rattle.outline_parts.proofs.LoggedLemmas.{block_length, blocks-logged}
use Rattle.outline_parts.proofs.PairOrderLemmas.{each-inner, pair_less, pair_order, rising-of_inner, sorted-from_next}
use Rattle.outline_parts.proofs.PeriodLemmas.{AreOfPeriod, index_of}

-- a block with its log
abbrev pub Logged : Type 0
Logged = OutlineBlock × List ℕ

-- the object of a block, by its place
abbrev pub object_in : Logged → ℕ
object_in it = it.0.index

-- the period of a block
abbrev pub period_in : Logged → ℕ
period_in it = it.0.period

-- what a place past the end reads
abbrev pub no_block : OutlineBlock
no_block = record { period = 0; index = 0; offset = 0; cell = record { x = pos 0; y = pos 0 }; length = 0 }

-- where each element follows the one before, so does the one at a place
pub follow-at : {A : Type 0} (follows : A → A → Bool) (xs : List A) (d : A) (k : ℕ) → all_follow follows xs ≡ true →
    k + 1 < length xs → follows (get_or xs k d) (get_or xs (k + 1) d) ≡ true
unfolding all_follow
follow-at follows [] d k follow within = absurd (omega arith)
follow-at follows (x ∷ []) d k follow within = absurd (omega arith)
follow-at follows (x ∷ y ∷ xs) d zero follow within = (and_parts _ _ follow).0
follow-at follows (x ∷ y ∷ xs) d (suc k) follow within =
    let next : suc k + 1 ≡ suc (k + 1) = omega arith in
    rw next (follow-at follows (y ∷ xs) d k (and_parts _ _ follow).1 (omega arith))

-- a cell that is counted from the base of the grid
pub in_grid : (frame : Frame) (cell : Cell) → is_in_grid frame.height cell ≡ true →
    IsInGrid frame.height frame.base (cell_from frame cell)
in_grid frame cell inside =
    let is = in_grid-bounds frame.height cell inside in
    let some : 0 < 2 ^ frame.height = pow_pos frame.height in
    record {
      left = omega (arith, ints, is.left);
      right = omega (arith, ints, is.left, is.right, some);
      below = omega (arith, ints, is.below);
      above = omega (arith, ints, is.below, is.above, some);
    }

module _ (outline : Outline) (is : IsOutline outline) where
  -- the blocks with their logs
  abbrev pub its : List Logged
  its = blocks_with_logs outline.blocks outline.symbols

  -- what their logs are judged by
  abbrev pub outline_rules : RulesView
  outline_rules = frame_rules outline.frame outline.alphabet outline.rules

  -- a block is one of the outline's
  abbrev pub IsIts : Logged → Type 0
  IsIts = IsBlock outline.frame outline_rules (length outline.objects)

  next-follows : (k : ℕ) → k + 1 < length its →
      pair_order object_in period_in (get_or its k (no_block, [])) (get_or its (k + 1) (no_block, [])) ≡ Less
  next-follows k within =
      let d : Logged = (no_block, []) in
      let blocks : List OutlineBlock = outline.blocks in
      let firsts = blocks-logged blocks outline.symbols in
      let long : length blocks ≡ length its = sym (ap length firsts) ∙ length-map its (λ (it : Logged). it.0) in
      let at : (j : ℕ) → j < length its → get_or blocks j no_block ≡ (get_or its j d).0 = λ j inside.
      ap (λ all. get_or all j no_block) (sym firsts) ∙ get_or-map (λ (it : Logged). it.0) its j d no_block inside in
      let follow : comes_after (get_or its k d).0 (get_or its (k + 1) d).0 ≡ true =
      ap (λ block. comes_after block (get_or its (k + 1) d).0) (sym (at k (omega arith)))
      ∙ ap (comes_after (get_or blocks k no_block)) (sym (at (k + 1) within))
      ∙ follow-at comes_after blocks no_block k is.order (omega arith) in
      pair_less object_in period_in (get_or its k d) (get_or its (k + 1) d) (grind (arith, nat_tests, follow))
      (λ same. grind (arith, nat_tests, follow, same))

  -- they are in order
  pub its-sorted : IsStrictlySortedBy (pair_order object_in period_in) its
  its-sorted = sorted-from_next object_in period_in its (no_block, []) next-follows

  -- those of a period, by object
  abbrev pub mine : ℕ → List Logged
  mine number = logged_in number its

  pub each-mine : (number : ℕ) → All IsIts (mine number)
  each-mine number = All-filter (λ (it : Logged). it.0.period == number) IsIts its is.each

  -- their headers and the lengths of their logs
  abbrev pub heads_of : ℕ → List Head
  heads_of number = map (λ it. head_of outline.frame it.0) (mine number)

  abbrev pub lengths_of : ℕ → List ℕ
  lengths_of number = map (λ it. it.0.length) (mine number)

  in-period : (number : ℕ) → blocks_of_period number (map (headed outline.frame) outline.blocks)
      ≡ map (λ it. headed outline.frame it.0) (mine number)
  in-period number =
      ap (λ blocks. blocks_of_period number (map (headed outline.frame) blocks)) (sym (blocks-logged outline.blocks outline.symbols))
      ∙ ap (blocks_of_period number) (map-map (headed outline.frame) (λ (it : Logged). it.0) its)
      ∙ filter-map (λ (block : Head × ℕ). block.0.period == number) (λ (it : Logged). headed outline.frame it.0) its

  pub heads-mine : (number : ℕ) →
      map (λ block. block.0) (blocks_of_period number (map (headed outline.frame) outline.blocks)) ≡ heads_of number
  heads-mine number =
      ap (map (λ block. block.0)) (in-period number)
      ∙ map-map (λ (block : Head × ℕ). block.0) (λ (it : Logged). headed outline.frame it.0) (mine number)

  pub lengths-mine : (number : ℕ) →
      map (λ block. block.1) (blocks_of_period number (map (headed outline.frame) outline.blocks)) ≡ lengths_of number
  lengths-mine number =
      ap (map (λ block. block.1)) (in-period number)
      ∙ map-map (λ (block : Head × ℕ). block.1) (λ (it : Logged). headed outline.frame it.0) (mine number)

  short-its : All (λ it. it.0.length < 2 ^ 32) its
  short-its =
      All-from_map (λ (block : OutlineBlock). block.length < 2 ^ 32) (λ (it : Logged). it.0) its
      (subst (All (λ (block : OutlineBlock). block.length < 2 ^ 32)) (sym (blocks-logged outline.blocks outline.symbols))
      (λ k d within. omega (arith, get_or-le-sum_by block_length outline.blocks k d within, is.symbols, is.few_symbols)))

  -- the blocks of a period, in any frame like the outline's
  module _ (number : ℕ) where
    pub are-mine : AreOfPeriod outline.frame (length outline.objects) number (heads_of number) (lengths_of number)
    are-mine =
        let each = each-mine number in
        let here = each-inner object_in period_in number its in
        record {
          grid = IsGrid-frame outline.frame is.header;
          some = is.few;
          short = is.header.periods.limit;
          rise = subst IsStrictlyIncreasing (sym (map-map index_of (λ (it : Logged). head_of outline.frame it.0) (mine number)))
              (rising-of_inner object_in period_in number its its-sorted);
          below = All-map (λ head. index_of head < length outline.objects) (λ (it : Logged). head_of outline.frame it.0)
              (mine number) (λ k d within. (each k d within).object);
          inside = All-map (λ head. IsInGrid outline.frame.height outline.frame.base head.cell)
              (λ (it : Logged). head_of outline.frame it.0) (mine number)
              (λ k d within. in_grid outline.frame (get_or (mine number) k d).0.cell (each k d within).anchor);
          offsets = All-map (λ head. head.offset < instants_in outline.frame number)
              (λ (it : Logged). head_of outline.frame it.0) (mine number)
              (λ k d within.
              let its_offset = (each k d within).offset in
              let its_period : (get_or (mine number) k d).0.period ≡ number = here k d within in
              rw its_period at its_offset);
          same = length-map (mine number) (λ (it : Logged). it.0.length)
              ∙ sym (length-map (mine number) (λ (it : Logged). head_of outline.frame it.0));
          short_lengths = All-map (λ n. n < 2 ^ 32) (λ (it : Logged). it.0.length) (mine number)
              (All-filter (λ (it : Logged). it.0.period == number) (λ it. it.0.length < 2 ^ 32) its short-its);
        }
