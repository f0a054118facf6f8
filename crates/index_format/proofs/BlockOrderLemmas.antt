-- Blocks by object: those of one object stand together.
use Rattle.std.proofs.Common.{◌≡◌, ◌≢◌, ℕ, zero, suc, ◌+◌, ◌-◌, ◌<◌, ◌≤◌, true, false, eqb, Bool, List, [], ◌∷◌, ◌++◌, length, take, drop, get_or, filter, Option, None, Some, refl, sym, ap, subst, ◌∙◌, arith, append_assoc, append-nil, inl, inr}
use Rattle.std.specs.Prelude.{All}
use Rattle.std.specs.List.{range_with_len, sum_by}
use Rattle.std.proofs.lemmas.Bool.{and_parts}
use Rattle.std.proofs.lemmas.Bool.Decides.{nat_tests}
use Rattle.std.proofs.lemmas.List.Sums.{sum_by-cons}
use Rattle.std.proofs.lemmas.Bool.{cases_lt}
use Rattle.std.proofs.lemmas.List.{drop_all, drop_more, drop-append-le, drop-drop, drop-take, length-drop, take-append-le, take-append-drop, take-take}
use Rattle.std.proofs.lemmas.List.Elements.{All-cons, All-head, All-nil, All-tail, filter-append}
use Rattle.list_laws.proofs.FilterLemmas.{filter-all}
use Rattle.rule_store.specs.View.{RulesView}
use Rattle.rule_store.specs.declared.entry_table.EntryTable.{EntryTable}
use Rattle.track_types.specs.declared.cell.Cell.{Cell}
use Rattle.track_types.specs.declared.frame.Frame.{Frame}
use Rattle.index_format.specs.OutlineBlocks.{anchor_instant, blocks_bits, cell_after, object_bits, period_end}
use Rattle.index_format.specs.IsOutline.{all_follow, blocks_with_logs, comes_after}
use Rattle.rule_store.specs.Table.{IsWholeTable}
use Rattle.index_format.specs.BlockSteps.{IsPlaced, block_bits, no_block}
use Rattle.index_format.specs.declared.outline.OutlineBlock.{OutlineBlock}
use Rattle.index_format.proofs.BlockPuttingLemmas.{object_bits-cons, object_bits-nil}

-- how many symbols the logs of blocks have
abbrev pub all_length : List OutlineBlock → ℕ
all_length blocks = sum_by (λ (block : OutlineBlock). block.length) blocks

-- what follows does so behind the first one too
pub follow-tail : {A : Type 0} (follows : A → A → Bool) (first : A) (rest : List A) → all_follow follows (first ∷ rest) ≡ true
    → all_follow follows rest ≡ true
unfolding all_follow
follow-tail follows first [] all = refl
follow-tail follows first (second ∷ rest) all = (and_parts (follows first second) (all_follow follows (second ∷ rest)) all).1

-- and behind any
pub follow-drop : {A : Type 0} (follows : A → A → Bool) (n : ℕ) (all : List A) → all_follow follows all ≡ true
    → all_follow follows (drop n all) ≡ true
follow-drop follows zero all follow = follow
follow-drop follows (suc n) [] follow = follow
follow-drop follows (suc n) (first ∷ rest) follow = follow-drop follows n rest (follow-tail follows first rest follow)

-- the blocks behind one are of its object or of later ones
pub follow-above : (first : OutlineBlock) (rest : List OutlineBlock) → all_follow comes_after (first ∷ rest) ≡ true
    → All (λ (block : OutlineBlock). first.index ≤ block.index) rest
unfolding all_follow
follow-above first [] all = All-nil (λ (block : OutlineBlock). first.index ≤ block.index)
follow-above first (second ∷ rest) all =
    let both = and_parts (comes_after first second) (all_follow comes_after (second ∷ rest)) all in
    let next : first.index ≤ second.index = grind (arith, nat_tests, both.0) in
    All-cons (λ (block : OutlineBlock). first.index ≤ block.index) second rest next
    (λ k d within. omega (arith, next, follow-above second rest both.1 k d within))

-- no element passes
filter-none : {A : Type 0} (p : A → Bool) (xs : List A) → All (λ x. p x ≡ false) xs → filter p xs ≡ []
filter-none p [] none = refl
filter-none p (x ∷ xs) none =
    rw (All-head (λ x. p x ≡ false) x xs none) (filter-none p xs (All-tail (λ x. p x ≡ false) x xs none))

-- blocks of an object, and those of later ones: the object's are those at the front
pub filter-own : (index : ℕ) (own others : List OutlineBlock) → All (λ (block : OutlineBlock). block.index ≡ index) own
    → All (λ (block : OutlineBlock). index < block.index) others
    → filter (λ (block : OutlineBlock). eqb block.index index) (own ++ others) ≡ own
filter-own index own others same later =
    let mine = λ (block : OutlineBlock). eqb block.index index in
    filter-append mine own others
    ∙ ap (λ front. front ++ filter mine others) (filter-all mine own (λ k d within. grind (arith, nat_tests, same k d within)))
    ∙ ap (λ back. own ++ back) (filter-none mine others (λ k d within. grind (arith, nat_tests, later k d within)))
    ∙ append-nil own

-- blocks of objects before these places do not count
pub blocks_bits-behind : (frame : Frame) (view : RulesView) (own others : List OutlineBlock) (from n : ℕ) (log : List ℕ)
    → All (λ (block : OutlineBlock). block.index < from) own
    → blocks_bits frame view (own ++ others) (range_with_len from n) log ≡ blocks_bits frame view others (range_with_len from n) log
unfolding blocks_bits
blocks_bits-behind frame view own others from zero log before = refl
blocks_bits-behind frame view own others from (suc n) log before =
    let is = λ (block : OutlineBlock). eqb block.index from in
    let same : filter is (own ++ others) ≡ filter is others =
    filter-append is own others ∙ ap (λ front. front ++ filter is others)
    (filter-none is own (λ k d within. grind (arith, nat_tests, before k d within))) in
    let later = blocks_bits-behind frame view own others (from + 1) n (drop (all_length (filter is others)) log)
    (λ k d within. omega (arith, before k d within)) in
    rw same (ap (λ rest. object_bits frame view 0 None (filter is others) (take (all_length (filter is others)) log) ++ rest) later)

-- an object's bits are told by the symbols of its blocks
pub object_bits-taken : (frame : Frame) (view : RulesView) (next : ℕ) (last : Option Cell) (blocks : List OutlineBlock) (log : List ℕ) (n : ℕ)
    → all_length blocks ≤ n → object_bits frame view next last blocks (take n log) ≡ object_bits frame view next last blocks log
object_bits-taken frame view next last [] log n enough = object_bits-nil frame view next last (take n log) ∙ sym (object_bits-nil frame view next last log)
object_bits-taken frame view next last (block ∷ blocks) log n enough =
    let long = sum_by-cons (λ (block : OutlineBlock). block.length) block blocks in
    let own : take block.length (take n log) ≡ take block.length log = take-take block.length n log (omega (arith, enough, long)) in
    let whole : n ≡ block.length + (n - block.length) = omega (arith, enough, long) in
    let behind : drop block.length (take n log) ≡ take (n - block.length) (drop block.length log) =
    ap (λ n. drop block.length (take n log)) whole ∙ drop-take block.length (n - block.length) log in
    let now = period_end frame (anchor_instant frame block) in
    let others = object_bits-taken frame view now (Some (cell_after view block.cell (take block.length log))) blocks (drop block.length log)
    (n - block.length) (omega (arith, enough, long)) in
    object_bits-cons frame view next last block blocks (take n log)
    ∙ ap (λ front. block_bits frame view next last block front ++ object_bits frame view now (Some (cell_after view block.cell front)) blocks (drop block.length (take n log))) own
    ∙ ap (λ rest. block_bits frame view next last block (take block.length log)
    ++ object_bits frame view now (Some (cell_after view block.cell (take block.length log))) blocks rest) behind
    ∙ ap (λ rest. block_bits frame view next last block (take block.length log) ++ rest) others
    ∙ sym (object_bits-cons frame view next last block blocks log)

-- one object's bits, and then those of the others
pub blocks_bits-step : (frame : Frame) (view : RulesView) (own others : List OutlineBlock) (index n : ℕ) (log : List ℕ)
    → All (λ (block : OutlineBlock). block.index ≡ index) own → All (λ (block : OutlineBlock). index < block.index) others
    → blocks_bits frame view (own ++ others) (range_with_len index (suc n)) log
    ≡ object_bits frame view 0 None own log ++ blocks_bits frame view others (range_with_len (index + 1) n) (drop (all_length own) log)
unfolding blocks_bits
blocks_bits-step frame view own others index n log same later =
    let behind = blocks_bits-behind frame view own others (index + 1) n (drop (all_length own) log)
    (λ k d within. omega (arith, same k d within)) in
    rw (filter-own index own others same later) (
    ap (λ front. front ++ blocks_bits frame view (own ++ others) (range_with_len (index + 1) n) (drop (all_length own) log))
    (object_bits-taken frame view 0 None own log (all_length own) (omega arith))
    ∙ ap (λ rest. object_bits frame view 0 None own log ++ rest) behind)

module _ (P : OutlineBlock × List ℕ → Type 0) where
  -- what holds of blocks with their logs holds of the first ones
  pub logs-front : (own others : List OutlineBlock) (log : List ℕ) → All P (blocks_with_logs (own ++ others) log) → All P (blocks_with_logs own log)
  unfolding blocks_with_logs
  logs-front [] others log all = All-nil P
  logs-front (block ∷ own) others log all =
      let it : OutlineBlock × List ℕ = (block, take block.length log) in
      let rest = blocks_with_logs (own ++ others) (drop block.length log) in
      All-cons P it (blocks_with_logs own (drop block.length log)) (All-head P it rest all)
      (logs-front own others (drop block.length log) (All-tail P it rest all))

  -- and of the others
  pub logs-back : (own others : List OutlineBlock) (log : List ℕ) → All P (blocks_with_logs (own ++ others) log)
      → All P (blocks_with_logs others (drop (all_length own) log))
  unfolding blocks_with_logs
  logs-back [] others log all = all
  logs-back (block ∷ own) others log all =
      let it : OutlineBlock × List ℕ = (block, take block.length log) in
      let rest = blocks_with_logs (own ++ others) (drop block.length log) in
      subst (λ rest. All P (blocks_with_logs others rest)) (drop-drop (all_length own) block.length log
      ∙ ap (λ n. drop n log) (sym (sum_by-cons (λ (block : OutlineBlock). block.length) block own)))
      (logs-back own others (drop block.length log) (All-tail P it rest all))

-- objects whose blocks were put, and those that are left, are all
pub record IsPuttingBlocks (table : EntryTable) (frame : Frame) (objects index : ℕ) (rest : List OutlineBlock) (left : List ℕ) (bits : List Bool)
    (blocks : List OutlineBlock) (log : List ℕ) (before : List Bool) : Type 0 where
  pub order : all_follow comes_after rest ≡ true
  pub above : All (λ (block : OutlineBlock). index ≤ block.index) rest
  pub some : (view : RulesView) × IsWholeTable view table × All (IsPlaced frame.height view) (blocks_with_logs rest left)
  pub joined : (view : RulesView) → IsWholeTable view table
      → bits ++ blocks_bits frame view rest (range_with_len index (objects - index)) left
      ≡ before ++ blocks_bits frame view blocks (range_with_len 0 objects) log

module _ {table : EntryTable} {frame : Frame} {objects index : ℕ} {rest : List OutlineBlock} {left : List ℕ} {bits : List Bool}
    {blocks : List OutlineBlock} {log : List ℕ} {before : List Bool}
    (putting : IsPuttingBlocks table frame objects index rest left bits blocks log before) where
  -- all were put
  pub putting_blocks-ends : objects ≤ index → (view : RulesView) → IsWholeTable view table
      → bits ≡ before ++ blocks_bits frame view blocks (range_with_len 0 objects) log
  unfolding blocks_bits
  putting_blocks-ends over view known =
      let none : objects - index ≡ 0 = omega (arith, over) in
      sym (append-nil bits) ∙ ap (λ n. bits ++ blocks_bits frame view rest (range_with_len index n) left) (sym none) ∙ putting.joined view known

  module _ (count : ℕ) (same : All (λ (block : OutlineBlock). block.index ≡ index) (take count rest))
      (other : count < length rest → (get_or rest count no_block).index ≢ index) where
    -- the object's blocks have their logs
    pub putting_blocks-own : (view : RulesView) × IsWholeTable view table × All (IsPlaced frame.height view) (blocks_with_logs (take count rest) left)
    putting_blocks-own = (
      putting.some.0,
      putting.some.1,
      logs-front (IsPlaced frame.height putting.some.0) (take count rest) (drop count rest) left
          (subst (λ rest. All (IsPlaced frame.height putting.some.0) (blocks_with_logs rest left)) (sym (take-append-drop count rest)) putting.some.2),
    )

    -- and the others are those of later ones
    later : All (λ (block : OutlineBlock). index < block.index) (drop count rest)
    later = elim (cases_lt count (length rest)) [
      | inr over ↦ subst (All (λ (block : OutlineBlock). index < block.index)) (sym (drop_all count rest over))
          (All-nil (λ (block : OutlineBlock). index < block.index))
      | inl within ↦
          let first = get_or rest count no_block in
          let parts : drop count rest ≡ first ∷ drop (count + 1) rest = drop_more rest count no_block within in
          let low : index ≤ first.index = putting.above count no_block within in
          let next : index < first.index = grind (arith, low, other within) in
          let sorted = subst (λ all. all_follow comes_after all ≡ true) parts (follow-drop comes_after count rest putting.order) in
          subst (All (λ (block : OutlineBlock). index < block.index)) (sym parts)
          (All-cons (λ (block : OutlineBlock). index < block.index) first (drop (count + 1) rest) next
          (λ k d inside. omega (arith, next, follow-above first (drop (count + 1) rest) sorted k d inside)))
    ]

    -- one object more
    pub putting_blocks-more : (behind : List ℕ) (after : List Bool) → index < objects → behind ≡ drop (all_length (take count rest)) left
        → ((view : RulesView) → IsWholeTable view table → after ≡ bits ++ object_bits frame view 0 None (take count rest) left)
        → IsPuttingBlocks table frame objects (index + 1) (drop count rest) behind after blocks log before
    putting_blocks-more behind after under behind_is is =
        let own = take count rest in
        let others = drop count rest in
        let n = objects - (index + 1) in
        let whole : own ++ others ≡ rest = take-append-drop count rest in
        record {
          order = follow-drop comes_after count rest putting.order;
          above = λ k d within. omega (arith, later k d within);
          some = (
            putting.some.0,
            putting.some.1,
            subst (λ left. All (IsPlaced frame.height putting.some.0) (blocks_with_logs others left)) (sym behind_is)
                (logs-back (IsPlaced frame.height putting.some.0) own others left
                (subst (λ rest. All (IsPlaced frame.height putting.some.0) (blocks_with_logs rest left)) (sym whole) putting.some.2)),
          );
          joined = λ view known.
              let more : objects - index ≡ suc n = omega (arith, under) in
              let first = object_bits frame view 0 None own left in
              ap (λ front. front ++ blocks_bits frame view others (range_with_len (index + 1) n) behind) (is view known)
              ∙ append_assoc bits first (blocks_bits frame view others (range_with_len (index + 1) n) behind)
              ∙ ap (λ left. bits ++ (first ++ blocks_bits frame view others (range_with_len (index + 1) n) left)) behind_is
              ∙ ap (λ all. bits ++ all) (sym (blocks_bits-step frame view own others index n left same later))
              ∙ ap (λ rest. bits ++ blocks_bits frame view rest (range_with_len index (suc n)) left) whole
              ∙ ap (λ n. bits ++ blocks_bits frame view rest (range_with_len index n) left) (sym more) ∙ putting.joined view known;
        }

-- so many blocks at the front were looked at, all of an object
pub record IsCounting (index count i : ℕ) (blocks : List OutlineBlock) : Type 0 where
  pub counted : count ≡ i
  pub same : All (λ (block : OutlineBlock). block.index ≡ index) (take count blocks)

-- blocks of one object, and those of later ones behind them
pub record AreParted (from : ℕ) (blocks : List OutlineBlock) : Type 0 where
  pub own : List OutlineBlock
  pub others : List OutlineBlock
  pub joined : own ++ others ≡ blocks
  pub same : All (λ (block : OutlineBlock). block.index ≡ from) own
  pub later : All (λ (block : OutlineBlock). from < block.index) others

-- blocks in order, from those of an object on
pub parted : (from : ℕ) (blocks : List OutlineBlock) → all_follow comes_after blocks ≡ true
    → All (λ (block : OutlineBlock). from ≤ block.index) blocks → AreParted from blocks
parted from [] order above = record {
  own = [];
  others = [];
  joined = refl;
  same = All-nil (λ (block : OutlineBlock). block.index ≡ from);
  later = All-nil (λ (block : OutlineBlock). from < block.index);
}
parted from (block ∷ blocks) order above =
    let here = All-head (λ (block : OutlineBlock). from ≤ block.index) block blocks above in
    elim (cases_lt from block.index) [
      | inl later ↦ record {
        own = [];
        others = block ∷ blocks;
        joined = refl;
        same = All-nil (λ (block : OutlineBlock). block.index ≡ from);
        later = All-cons (λ (block : OutlineBlock). from < block.index) block blocks later
            (λ k d within. omega (arith, later, follow-above block blocks order k d within));
      }
      | inr same ↦
          let rest = parted from blocks (follow-tail comes_after block blocks order) (All-tail (λ (block : OutlineBlock). from ≤ block.index) block blocks above) in
          record {
            own = block ∷ rest.own;
            others = rest.others;
            joined = ap (λ blocks. block ∷ blocks) rest.joined;
            same = All-cons (λ (block : OutlineBlock). block.index ≡ from) block rest.own (omega (arith, here, same)) rest.same;
            later = rest.later;
          }
    ]

-- the first ones follow each other, and so do the others
pub follow-front : {A : Type 0} (follows : A → A → Bool) (own others : List A) → all_follow follows (own ++ others) ≡ true
    → all_follow follows own ≡ true
unfolding all_follow
follow-front follows [] others all = refl
follow-front follows (first ∷ []) others all = refl
follow-front follows (first ∷ second ∷ rest) others all =
    let both = and_parts (follows first second) (all_follow follows (second ∷ rest ++ others)) all in
    rw both.0 (follow-front follows (second ∷ rest) others both.1)

pub follow-back : {A : Type 0} (follows : A → A → Bool) (own others : List A) → all_follow follows (own ++ others) ≡ true
    → all_follow follows others ≡ true
follow-back follows [] others all = all
follow-back follows (first ∷ rest) others all = follow-back follows rest others (follow-tail follows first (rest ++ others) all)

-- blocks with their logs are told by the symbols of the blocks
pub logs-taken : (blocks : List OutlineBlock) (log : List ℕ) (n : ℕ) → all_length blocks ≤ n → blocks_with_logs blocks (take n log) ≡ blocks_with_logs blocks log
unfolding blocks_with_logs
logs-taken [] log n enough = refl
logs-taken (block ∷ blocks) log n enough =
    let long = sum_by-cons (λ (block : OutlineBlock). block.length) block blocks in
    let own : take block.length (take n log) ≡ take block.length log = take-take block.length n log (omega (arith, enough, long)) in
    let whole : n ≡ block.length + (n - block.length) = omega (arith, enough, long) in
    let behind : drop block.length (take n log) ≡ take (n - block.length) (drop block.length log) =
    ap (λ n. drop block.length (take n log)) whole ∙ drop-take block.length (n - block.length) log in
    rw (own, behind) (ap (λ rest. (block, take block.length log) ∷ rest)
    (logs-taken blocks (drop block.length log) (n - block.length) (omega (arith, enough, long))))

-- what holds of each block with its log, and is about the block alone, holds of each block
pub logs-blocks : (P : OutlineBlock → Type 0) (blocks : List OutlineBlock) (log : List ℕ)
    → All (λ it. P it.0) (blocks_with_logs blocks log) → All P blocks
unfolding blocks_with_logs
logs-blocks P [] log all = All-nil P
logs-blocks P (block ∷ blocks) log all =
    let it : OutlineBlock × List ℕ = (block, take block.length log) in
    let rest = blocks_with_logs blocks (drop block.length log) in
    All-cons P block blocks (All-head (λ it. P it.0) it rest all) (logs-blocks P blocks (drop block.length log) (All-tail (λ it. P it.0) it rest all))

-- blocks of an object, and those of later ones, are in order together
pub follow-append : (from : ℕ) (own others : List OutlineBlock) → all_follow comes_after own ≡ true
    → All (λ (block : OutlineBlock). block.index ≡ from) own → all_follow comes_after others ≡ true
    → All (λ (block : OutlineBlock). from < block.index) others → all_follow comes_after (own ++ others) ≡ true
unfolding all_follow
follow-append from [] others first same second later = second
follow-append from (block ∷ []) [] first same second later = refl
follow-append from (block ∷ []) (next ∷ rest) first same second later =
    let is = All-head (λ (block : OutlineBlock). block.index ≡ from) block [] same in
    let above = All-head (λ (block : OutlineBlock). from < block.index) next rest later in
    let after : comes_after block next ≡ true = grind (arith, nat_tests, is, above) in
    rw after second
follow-append from (block ∷ next ∷ rest) others first same second later =
    let both = and_parts (comes_after block next) (all_follow comes_after (next ∷ rest)) first in
    rw both.0 (follow-append from (next ∷ rest) others both.1 (All-tail (λ (block : OutlineBlock). block.index ≡ from) block (next ∷ rest) same) second later)

-- blocks that have all of a log, and others with another
pub logs-joined : (blocks others : List OutlineBlock) (log behind : List ℕ) → all_length blocks ≡ length log
    → blocks_with_logs (blocks ++ others) (log ++ behind) ≡ blocks_with_logs blocks log ++ blocks_with_logs others behind
unfolding blocks_with_logs
logs-joined [] others [] behind long = refl
logs-joined [] others (symbol ∷ log) behind long = absurd (omega (arith, long))
logs-joined (block ∷ blocks) others log behind long =
    let sum = sum_by-cons (λ (block : OutlineBlock). block.length) block blocks in
    let within : block.length ≤ length log = omega (arith, long, sum) in
    rw (take-append-le block.length log behind within, drop-append-le block.length log behind within)
    (ap (λ rest. (block, take block.length log) ∷ rest)
    (logs-joined blocks others (drop block.length log) behind (omega (arith, long, sum, length-drop block.length log))))
