-- The blocks of a period, judged one after the other by object.
use Rattle.std.proofs.Common.{◌≡◌, ℕ, zero, suc, ◌+◌, ◌^◌, ◌<◌, ◌≤◌, List, [], ◌∷◌, length, get_or, take, None, Some, Option, inl, inr, refl, ap, sym, ◌∙◌, arith, subst}
use Rattle.std.specs.Prelude.{sum}
use Rattle.std.proofs.lemmas.Bool.{cases_lt}
use Rattle.std.proofs.lemmas.List.{get_or_default}
use Rattle.std.proofs.lemmas.List.Sums.{sum_by_more, sum_by_more_le}
use Rattle.std.proofs.lemmas.Int.{ints}
use Rattle.std.proofs.Math.Nat.{pow-le-pow_right}
use Rattle.track_types.specs.Frame.{IsFrame}
use Rattle.track_types.specs.Near.{IsCellWithin}
use Rattle.track_types.specs.declared.cell.Cell.{Cell}
use Rattle.track_types.specs.declared.frame.Frame.{Frame}
use Rattle.k2_tree.specs.Morton.{IsInGrid}
use Rattle.bit_rank.specs.Bits.{select_of}
use Rattle.bit_rank.proofs.RankLemmas.{IsSelected-select_of}
use Rattle.list_laws.specs.First.{first_given}
use Rattle.list_laws.proofs.FirstLemmas.{first_given-none}
use Rattle.track_types.specs.declared.flaw.Flaw.{Flaw}
use Rattle.track_types.specs.declared.limit.TheConstants.{MAX_HEIGHT}
use Rattle.rule_store.specs.View.{RulesView}
use Rattle.snapshots.specs.Flaws.{IsSnapFaultFor}
use Rattle.snapshots.specs.JoinFlaws.{block_flaw, blocks_flaw, log_flaw}
use Rattle.snapshots.specs.Sound.{IsBlock, IsSnapshot}
use Rattle.snapshots.specs.View.{SnapshotView, all_blocks, present_block, rank_in}
use Rattle.snapshots.specs.declared.anchored.Anchored.{Anchored}
use Rattle.snapshots.specs.declared.fault.SnapFault.{SnapFault}
use Rattle.snapshots.specs.declared.fault.SnapFault.TheVariants as fault
use Rattle.snapshots.proofs.BlockFactsLemmas.{All-all_blocks}
use Rattle.snapshots.proofs.ByObjectLemmas.{all_blocks-at, length-all_blocks}

-- what a member gives, after others that give nothing, is first
first_given-at : {X Y : Type 0} (give : X → Option Y) (xs : List X) (place : ℕ) (d : X) (y : Y) → place < length xs
    → ((j : ℕ) → j < place → give (get_or xs j d) ≡ None) → give (get_or xs place d) ≡ Some y
    → first_given give xs ≡ Some y
unfolding first_given
first_given-at give [] place d y within before gives = absurd (omega arith)
first_given-at give (x ∷ xs) zero d y within before gives = rw gives refl
first_given-at give (x ∷ xs) (suc place) d y within before gives =
    let none : give x ≡ None = before 0 (omega arith) in
    rw none (first_given-at give xs place d y (omega arith) (λ j below. before (suc j) (omega arith)) gives)

module _ (rules : RulesView) (view : SnapshotView) where
  -- the first blocks have no flaw
  abbrev pub AreFlawless : ℕ → Type 0
  AreFlawless count = (j : ℕ) (d : Anchored) → j < count → block_flaw rules view (get_or (all_blocks view) j d) ≡ None

  -- the flaw of a block, after others that have none, is the first
  pub blocks_flaw-at : (rank : ℕ) (block : Anchored) (found : SnapFault) → rank < length (all_blocks view)
      → AreFlawless rank → get_or (all_blocks view) rank block ≡ block
      → IsSnapFaultFor (block_flaw rules view block) found → IsSnapFaultFor (blocks_flaw rules view) found
  unfolding blocks_flaw
  blocks_flaw-at rank block fault.Memory within before here is = is
  blocks_flaw-at rank block (fault.Flaw flaw) within before here is =
      first_given-at (block_flaw rules view) (all_blocks view) rank block flaw within (λ j below. before j block below)
      (ap (block_flaw rules view) here ∙ is)

  -- there is none where no block has one
  pub blocks_flaw-none : AreFlawless (length (all_blocks view)) → blocks_flaw rules view ≡ None
  unfolding blocks_flaw
  blocks_flaw-none none = first_given-none (block_flaw rules view) (all_blocks view) none

  -- one block more
  pub none-more : (rank : ℕ) (block : Anchored) → AreFlawless rank
      → ((d : Anchored) → get_or (all_blocks view) rank d ≡ block) → block_flaw rules view block ≡ None
      → AreFlawless (rank + 1)
  none-more rank block before here none j d within = elim (cases_lt j rank) [
    | inl less ↦ before j d less
    | inr most ↦
        let same : j ≡ rank = omega arith in
        ap (λ k. block_flaw rules view (get_or (all_blocks view) k d)) same ∙ ap (block_flaw rules view) (here d) ∙ none
  ]

-- the block at a place by object: its log is that of the place
pub record IsTaken (view : SnapshotView) (rank : ℕ) (block : Anchored) : Type 0 where
  pub its : IsBlock view block
  pub rank_is : rank_in view block.index ≡ rank
  pub begins : block.from ≡ view.start + sum (take rank view.parts.lengths)
  pub log : block.len + sum (take rank view.parts.lengths) ≡ sum (take (rank + 1) view.parts.lengths)
  pub rest : sum (take (rank + 1) view.parts.lengths) ≤ sum view.parts.lengths

pub taken : (view : SnapshotView) (rank : ℕ) (block : Anchored) → IsSnapshot view → rank < length view.parts.perm
    → get_or (all_blocks view) rank block ≡ block → IsTaken view rank block
taken view rank block is within here =
    let lengths : List ℕ = view.parts.lengths in
    let index : ℕ = select_of view.parts.present (rank + 1) in
    let selected = IsSelected-select_of view.parts.present (rank + 1) (omega arith) (omega (arith, is.shaped.perm)) in
    let same : present_block view index ≡ block = sym (all_blocks-at view is rank block within) ∙ here in
    let placed : rank_in view index ≡ rank = omega (arith, selected.rank) in
    let len : block.len ≡ get_or lengths rank 0 =
    sym (ap (λ (b : Anchored). b.len) same) ∙ ap (λ r. get_or lengths r 0) placed in
    let short : rank < length lengths = omega (arith, is.shaped.perm, is.shaped.lengths) in
    let more = sum_by_more (λ x. x) lengths rank 0 short in
    let most = sum_by_more_le (λ x. x) lengths rank 0 short in
    record {
      its = subst (IsBlock view) here (All-all_blocks view is rank block (omega (arith, length-all_blocks view is)));
      rank_is = ap (λ (b : Anchored). rank_in view b.index) (sym same) ∙ placed;
      begins = sym (ap (λ (b : Anchored). b.from) same) ∙ ap (λ r. view.start + sum (take r lengths)) placed;
      log = omega (arith, more, len);
      rest = omega (arith, more, most);
    }

-- the block that is read of the blocks by object
module _ (view : SnapshotView) (blocks : List Anchored) (are : blocks ≡ all_blocks view) (rank : ℕ) (d : Anchored) where
  pub read-at : (e : Anchored) → rank < length blocks → get_or (all_blocks view) rank e ≡ get_or blocks rank d
  read-at e within =
      sym (ap (λ (xs : List Anchored). get_or xs rank e) are) ∙ get_or_default blocks rank e d within

  pub taken-read : IsSnapshot view → rank < length blocks → IsTaken view rank (get_or blocks rank d)
  taken-read is within =
      taken view rank (get_or blocks rank d) is (omega (arith, within, ap length are, length-all_blocks view is))
      (read-at (get_or blocks rank d) within)

-- the flaw of its log
pub same_flaw : (rules of : RulesView) (view : SnapshotView) (frame : Frame) (number rank : ℕ) (block : Anchored)
    → of ≡ rules → frame ≡ view.frame → number ≡ view.number → rank_in view block.index ≡ rank
    → log_flaw frame of number rank block ≡ block_flaw rules view block
same_flaw rules of view frame number rank block rules_are frame_is number_is placed =
    let rank_is : rank ≡ rank_in view block.index = sym placed in
    rw (rules_are, frame_is, number_is, rank_is) refl

-- a cell of the grid is near
pub cell-within : (frame : Frame) (cell : Cell) → IsFrame frame → IsInGrid frame.height frame.base cell
    → IsCellWithin cell
cell-within frame cell is inside =
    let side : 2 ^ frame.height ≤ 2 ^ MAX_HEIGHT = pow-le-pow_right (omega arith) is.limit in
    record {
      x = record {
        low = omega (arith, ints, is.columns.low, inside.left);
        high = omega (arith, ints, is.columns.high, inside.right, side);
      };
      y = record {
        low = omega (arith, ints, is.lines.low, inside.below);
        high = omega (arith, ints, is.lines.high, inside.above, side);
      };
    }
