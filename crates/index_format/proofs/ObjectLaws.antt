-- The blocks of all objects: what is read was put, and is as an outline has it.
use Rattle.std.proofs.Common.{◌≡◌, ℕ, zero, suc, ◌+◌, ◌<◌, ◌≤◌, true, Bool, List, [], ◌++◌, length, take, drop, None, Ok, refl, sym, ap, subst, ◌∙◌, arith, append_assoc, append-nil, lit≤}
use Rattle.std.specs.Prelude.{All}
use Rattle.std.specs.List.{range_with_len}
use Rattle.std.proofs.lemmas.List.{drop_at, length-append, take_at}
use Rattle.std.proofs.lemmas.List.Elements.{All-append, All-nil}
use Rattle.std.proofs.lemmas.List.Sums.{sum_by-append}
use Rattle.rule_store.specs.View.{RulesView}
use Rattle.track_types.specs.Limits.{limit_of}
use Rattle.track_types.specs.declared.frame.Frame.{Frame}
use Rattle.track_types.specs.declared.limit.LimitKind.TheVariants.{Symbols}
use Rattle.track_types.specs.declared.limit.TheConstants.{MAX_HEIGHT}
use Rattle.index_format.specs.OutlineBlocks.{Told, blocks_bits, blocks_in, object_bits, object_blocks_in}
use Rattle.index_format.specs.IsOutline.{IsBlock, all_follow, blocks_with_logs, comes_after}
use Rattle.index_format.specs.BlockSteps.{nothing_told}
use Rattle.index_format.specs.declared.outline.OutlineBlock.{OutlineBlock}
use Rattle.index_format.proofs.BlockLemmas.{blocks_in-more, blocks_in-none}
use Rattle.index_format.proofs.EntryLaws.{AreLasting}
use Rattle.index_format.proofs.ElementLemmas.{bind-only, same-read}
use Rattle.index_format.proofs.BlockOrderLemmas.{all_length, blocks_bits-step, follow-append, logs-joined, object_bits-taken}
use Rattle.index_format.proofs.BlockOnlyLaws.{object-only}

-- what is known of the blocks of objects from a place on that were read
pub record ObjectsOnly (frame : Frame) (view : RulesView) (objects from n : ℕ) (before : Told) (bits : List Bool) (done : Told) (rest : List Bool) : Type 0 where
  pub blocks : List OutlineBlock
  pub log : List ℕ
  pub blocks_are : done.blocks ≡ before.blocks ++ blocks
  pub symbols_are : done.symbols ≡ before.symbols ++ log
  pub each : All (IsBlock frame view objects) (blocks_with_logs blocks log)
  pub above : All (λ (block : OutlineBlock). from ≤ block.index) blocks
  pub order : all_follow comes_after blocks ≡ true
  pub long : all_length blocks ≡ length log
  pub few : length done.symbols ≤ limit_of Symbols
  pub spelled : bits ≡ blocks_bits frame view blocks (range_with_len from n) log ++ rest

-- what is known of the blocks of all objects that were read
pub record BlocksOnly (frame : Frame) (view : RulesView) (objects : ℕ) (bits : List Bool) (done : Told) (rest : List Bool) : Type 0 where
  pub each : All (IsBlock frame view objects) (blocks_with_logs done.blocks done.symbols)
  pub order : all_follow comes_after done.blocks ≡ true
  pub symbols : all_length done.blocks ≡ length done.symbols
  pub few_symbols : length done.symbols ≤ limit_of Symbols
  pub spelled : bits ≡ blocks_bits frame view done.blocks (range_with_len 0 objects) done.symbols ++ rest

module _ (frame : Frame) (some : 0 < frame.period) (high : frame.height ≤ MAX_HEIGHT)
    (view : RulesView) (lasting : AreLasting view) (objects : ℕ) where
  -- the blocks of objects from a place on that are read were put
  pub objects-only : (n from : ℕ) (before : Told) (bits : List Bool) (done : Told) (rest : List Bool) → from + n ≤ objects
      → length before.symbols ≤ limit_of Symbols → blocks_in n frame view from before bits ≡ Ok (done, rest)
      → ObjectsOnly frame view objects from n before bits done rest
  unfolding blocks_bits blocks_with_logs all_follow
  objects-only zero from before bits done rest within room read =
      let same = same-read before done bits rest (sym (blocks_in-none frame view from before bits) ∙ read) in
      record {
        blocks = [];
        log = [];
        blocks_are = sym (ap (λ (told : Told). told.blocks) same.0) ∙ sym (append-nil before.blocks);
        symbols_are = sym (ap (λ (told : Told). told.symbols) same.0) ∙ sym (append-nil before.symbols);
        each = All-nil (IsBlock frame view objects);
        above = All-nil (λ (block : OutlineBlock). from ≤ block.index);
        order = refl;
        long = refl;
        few = subst (λ (told : Told). length told.symbols ≤ limit_of Symbols) same.0 room;
        spelled = same.1;
      }
  objects-only (suc n) from before bits done rest within room read =
      let first = bind-only (object_blocks_in frame view from before bits) (λ object. blocks_in n frame view (suc from) object.0 object.1) (done, rest)
      (sym (blocks_in-more n frame view from before bits) ∙ read) in
      let one = object-only frame some high view lasting objects from (omega (arith, within)) before bits first.0.0 first.0.1 room first.1 in
      let up : suc from ≡ from + 1 = omega arith in
      let on = objects-only n (from + 1) first.0.0 first.0.1 done rest (omega (arith, within)) one.few
      (ap (λ from. blocks_in n frame view from first.0.0 first.0.1) (sym up) ∙ first.2) in
      let own = one.blocks in
      let others = on.blocks in
      let later : All (λ (block : OutlineBlock). from < block.index) others = λ k d within. omega (arith, on.above k d within) in
      let log = one.log ++ on.log in
      let taken : take (all_length own) log ≡ one.log = take_at one.log on.log (all_length own) (sym one.long) in
      let dropped : drop (all_length own) log ≡ on.log = drop_at one.log on.log (all_length own) (sym one.long) in
      record {
        blocks = own ++ others;
        log = log;
        blocks_are = on.blocks_are ∙ ap (λ blocks. blocks ++ others) one.blocks_are ∙ append_assoc before.blocks own others;
        symbols_are = on.symbols_are ∙ ap (λ symbols. symbols ++ on.log) one.symbols_are ∙ append_assoc before.symbols one.log on.log;
        each = subst (All (IsBlock frame view objects)) (sym (logs-joined own others one.log on.log one.long))
            (All-append (IsBlock frame view objects) (blocks_with_logs own one.log) (blocks_with_logs others on.log) one.each on.each);
        above = All-append (λ (block : OutlineBlock). from ≤ block.index) own others
            (λ k d within. omega (arith, one.same k d within)) (λ k d within. omega (arith, on.above k d within));
        order = follow-append from own others one.order one.same on.order later;
        long = sum_by-append (λ (block : OutlineBlock). block.length) own others ∙ omega (arith, one.long, on.long, length-append one.log on.log);
        few = on.few;
        spelled = one.spelled ∙ ap (λ rest. object_bits frame view 0 None own one.log ++ rest) on.spelled
            ∙ sym (append_assoc (object_bits frame view 0 None own one.log) (blocks_bits frame view others (range_with_len (from + 1) n) on.log) rest)
            ∙ ap (λ front. front ++ rest) (ap (λ front. object_bits frame view 0 None own front ++ blocks_bits frame view others (range_with_len (from + 1) n) on.log) (sym taken)
            ∙ ap (λ front. front ++ blocks_bits frame view others (range_with_len (from + 1) n) on.log)
            (object_bits-taken frame view 0 None own log (all_length own) (omega arith))
            ∙ ap (λ behind. object_bits frame view 0 None own log ++ blocks_bits frame view others (range_with_len (from + 1) n) behind) (sym dropped)
            ∙ sym (blocks_bits-step frame view own others from n log one.same later));
      }

  -- blocks that are read are those of an outline, and were put
  pub blocks-only : (bits : List Bool) (done : Told) (rest : List Bool) → blocks_in objects frame view 0 nothing_told bits ≡ Ok (done, rest)
      → BlocksOnly frame view objects bits done rest
  blocks-only bits done rest read =
      let all = objects-only objects 0 nothing_told bits done rest (omega arith) (lit≤ tt) read in
      let blocks = sym all.blocks_are in
      let symbols = sym all.symbols_are in
      record {
        each = subst (λ symbols. All (IsBlock frame view objects) (blocks_with_logs done.blocks symbols)) symbols
            (subst (λ blocks. All (IsBlock frame view objects) (blocks_with_logs blocks all.log)) blocks all.each);
        order = subst (λ blocks. all_follow comes_after blocks ≡ true) blocks all.order;
        symbols = sym (ap all_length blocks) ∙ all.long ∙ ap length symbols;
        few_symbols = all.few;
        spelled = all.spelled ∙ ap (λ blocks. blocks_bits frame view blocks (range_with_len 0 objects) all.log ++ rest) blocks
            ∙ ap (λ symbols. blocks_bits frame view done.blocks (range_with_len 0 objects) symbols ++ rest) symbols;
      }
