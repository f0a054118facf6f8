-- Blocks: what is read was put, and is as an outline has it.
use Rattle.std.proofs.Common.{◌≡◌, ℕ, zero, suc, ◌+◌, ◌-◌, ◌*◌, ◌/◌, ◌<◌, ◌≤◌, eqb, nat_le, nat_lt, true, ◌&&◌, Bool, List, [], ◌∷◌, ◌++◌, length, take, drop, min, Option, None, Some, Ok, Err, inl, inr, refl, sym, ap, subst, ◌∙◌, arith, append_assoc, append-nil, if◌then◌else◌}
use Rattle.std.specs.Prelude.{All}
use Rattle.std.proofs.lemmas.Grind.{div_ceil_times}
use Rattle.std.specs.List.{flat_map}
use Rattle.std.proofs.Math.Nat.{div-lt_iff_lt-mul, div-mul-le_self, lt-div-mul-add, mul-le-mul_right}
use Rattle.std.proofs.lemmas.Bool.{cases_Bool, cases_lt}
use Rattle.std.proofs.lemmas.Bool.Decides.{nat_tests}
use Rattle.std.proofs.lemmas.List.{drop_at, length-append, take_at}
use Rattle.std.proofs.lemmas.List.Elements.{All-cons, All-head, All-nil}
use Rattle.std.proofs.lemmas.List.Sums.{sum_by-cons}
use Rattle.packed_bits.specs.Words.{low_bits}
use Rattle.bit_stream.specs.Numbers.{number_bits}
use Rattle.rule_store.specs.View.{RulesView}
use Rattle.track_types.specs.Frame.{periods_of}
use Rattle.track_types.specs.Limits.{limit_of}
use Rattle.track_types.specs.declared.cell.Cell.{Cell}
use Rattle.track_types.specs.declared.flaw.Kind.TheVariants.{Offset}
use Rattle.track_types.specs.declared.flaw.Section.TheVariants.{Gaps, Starts}
use Rattle.track_types.specs.declared.frame.Frame.{Frame}
use Rattle.track_types.specs.declared.limit.LimitKind.TheVariants.{Symbols}
use Rattle.track_types.specs.declared.limit.TheConstants.{MAX_HEIGHT}
use Rattle.index_format.specs.Elements.{Element, told_at}
use Rattle.index_format.specs.Fields.{◌>>=◌, flaw_at}
use Rattle.index_format.specs.OutlineBlocks.{InLog, Told, anchor_bits, anchor_in, anchor_instant, block_in, cell_after, end_bits, entry_width, further_in, log_in, object_bits, object_blocks_in, period_end, when_bits}
use Rattle.index_format.specs.IsOutline.{IsBlock, all_follow, blocks_with_logs, comes_after}
use Rattle.index_format.specs.BlockSteps.{next_anchor_in}
use Rattle.index_format.specs.declared.outline.OutlineBlock.{OutlineBlock}
use Rattle.index_format.proofs.BlockLemmas.{further_from, further_in-none, further_in-step, further_in-told, log_begun, object_begun, told_after}
use Rattle.index_format.proofs.BlockLaws.{FitsAfter, block_text, object_bits-text, told_with}
use Rattle.index_format.proofs.EntryLaws.{AreLasting}
use Rattle.index_format.proofs.ElementLemmas.{bind-only, else-only, same-read, told_at-only}
use Rattle.index_format.proofs.EntryOnlyLaws.{anchor-only, log-only}
use Rattle.index_format.proofs.BlockOrderLemmas.{all_length}

-- what is known of a block that was read
pub record BlockOnly (frame : Frame) (view : RulesView) (objects index : ℕ) (told : Told) (at : ℕ) (bits : List Bool) (done : Told) (rest : List Bool) : Type 0 where
  pub block : OutlineBlock
  pub own : List ℕ
  pub is : IsBlock frame view objects (block, own)
  pub number : block.index ≡ index
  pub period : block.period ≡ at / frame.period
  pub at_is : anchor_instant frame block ≡ at
  pub done_is : done ≡ told_with frame view told block own
  pub few : length (told.symbols ++ own) ≤ limit_of Symbols
  pub spelled : bits ≡ anchor_bits frame.height told.last block.cell ++ (flat_map (low_bits (entry_width view)) own ++ rest)

module _ (frame : Frame) (some : 0 < frame.period) (high : frame.height ≤ MAX_HEIGHT)
    (view : RulesView) (lasting : AreLasting view) (objects : ℕ) where
  -- a block that is read was put
  pub block-only : (index : ℕ) (told : Told) (at : ℕ) (bits : List Bool) (done : Told) (rest : List Bool) → index < objects → at < frame.span
      → length told.symbols ≤ limit_of Symbols → block_in frame view index told at bits ≡ Ok (done, rest)
      → BlockOnly frame view objects index told at bits done rest
  unfolding block_in
  block-only index told at bits done rest inside within room read =
      let p = at / frame.period in
      let start = p * frame.period in
      let end = period_end frame at in
      let left = end - 1 - at in
      let first = bind-only (anchor_in frame p index told.last bits)
      (λ anchor. log_in left frame view p (log_begun frame told at anchor.0) anchor.1 >>= λ log. Ok (told_after frame index told at anchor.0 log.0, log.1)) (done, rest) read in
      let cell = first.0.0 in
      let second = bind-only (log_in left frame view p (log_begun frame told at cell) first.0.1)
      (λ log. Ok (told_after frame index told at cell log.0, log.1)) (done, rest) first.2 in
      let ended : InLog = second.0.0 in
      let both = same-read (told_after frame index told at cell ended) done second.0.1 rest second.2 in
      let anchor = anchor-only frame p index told.last bits cell first.0.1 high first.1 in
      let log = log-only frame view lasting p left (log_begun frame told at cell) first.0.1 ended second.0.1 (omega arith) anchor.1 room second.1 in
      let own = log.own in
      let block : OutlineBlock = record { period = p; index = index; offset = at - start; cell = cell; length = length own } in
      let low : start ≤ at = div-mul-le_self at frame.period in
      let under : at < start + frame.period = lt-div-mul-add {a = at} {b = frame.period} some in
      let next : (p + 1) * frame.period ≡ start + frame.period = grind arith in
      let ends : end ≡ min frame.span (start + frame.period) = ap (min frame.span) next in
      let at_is : start + (at - start) ≡ at = omega (arith, low) in
      let long : length ended.symbols - length told.symbols ≡ length own = omega (arith, ap length log.symbols, length-append told.symbols own) in
      let ceil = div_ceil_times frame.span frame.period some in
      record {
        block = block;
        own = own;
        is = record {
          object = inside;
          period = (div-lt_iff_lt-mul {k = frame.period} {x = at} {y = periods_of frame} some).1 (omega (arith, within, ceil.0));
          offset = omega (arith, low, under, within);
          anchor = anchor.1;
          whole = refl;
          known = log.from.known;
          fills = omega (arith, log.fills, ends, low, under, within);
          inside = log.from.inside;
        };
        number = refl;
        period = refl;
        at_is = at_is;
        done_is = sym both.0 ∙ rw (long, log.symbols, log.ends, at_is) refl;
        few = subst (λ symbols. length symbols ≤ limit_of Symbols) log.symbols log.few;
        spelled = anchor.0 ∙ ap (λ behind. anchor_bits frame.height told.last cell ++ behind) (log.spelled
            ∙ ap (λ rest. flat_map (low_bits (entry_width view)) own ++ rest) both.1);
      }

-- what is known where the next anchor was read
abbrev pub AnchorOnly : Frame → ℕ → List Bool → List Bool → Option ℕ → Type 0
AnchorOnly frame next bits rest None = bits ≡ number_bits 1 ++ rest
AnchorOnly frame next bits rest (Some at) = (next ≤ at) × (at < frame.span) × (bits ≡ when_bits next at ++ rest)

-- where the next anchor is, as it is read, was put
pub next_anchor-only : (frame : Frame) (index next : ℕ) (bits : List Bool) (place : Option ℕ) (rest : List Bool) → 0 < next → next < frame.span
    → next_anchor_in frame index next bits ≡ Ok (place, rest) → AnchorOnly frame next bits rest place
unfolding next_anchor_in when_bits
next_anchor-only frame index next bits place rest some under read =
    let flaw = flaw_at Gaps (next / frame.period) index in
    let judged = λ (gap : ℕ × List Bool). if eqb gap.0 1 then Ok (None, gap.1)
    else if nat_le 2 gap.0 && nat_le frame.span (next + gap.0 - 1) then Err (flaw Offset) else Ok (Some (next + (gap.0 - 1)), gap.1) in
    let first = bind-only (told_at flaw bits) judged (place, rest) read in
    let gap = first.0.0 in
    let put = told_at-only flaw gap bits first.0.1 first.1 in
    elim (cases_Bool (eqb gap 1)) [
      | inl one ↦
          let both = same-read {A = Option ℕ} None place first.0.1 rest (rw one at first.2) in
          let gap_is : gap ≡ 1 = grind (arith, nat_tests, one) in
          subst (AnchorOnly frame next bits rest) both.0
          (put.0 ∙ ap (λ gap. number_bits gap ++ first.0.1) gap_is ∙ ap (λ rest. number_bits 1 ++ rest) both.1)
      | inr more ↦
          let test = else-only (nat_le 2 gap && nat_le frame.span (next + gap - 1)) (flaw Offset) (Ok (Some (next + (gap - 1)), first.0.1)) (place, rest)
          (rw more at first.2) in
          let both = same-read {A = Option ℕ} (Some (next + (gap - 1))) place first.0.1 rest test.1 in
          let at = next + (gap - 1) in
          let within : at < frame.span = grind (arith, nat_tests, test.0, under, more) in
          let when : gap ≡ (if eqb next 0 then at else if eqb at next then 0 else (at - next + 1)) = grind (arith, nat_tests, some, more) in
          subst (AnchorOnly frame next bits rest) both.0 (
            omega arith,
            within,
            put.0 ∙ ap (λ gap. number_bits gap ++ first.0.1) when
                ∙ ap (λ rest. number_bits (if eqb next 0 then at else if eqb at next then 0 else (at - next + 1)) ++ rest) both.1,
          )
    ]

-- an instant is a period's first, or the span
abbrev pub IsBoundary : Frame → ℕ → Type 0
IsBoundary frame next = (k : ℕ) × (next ≡ min frame.span (k * frame.period))

-- what is known of blocks of one object that were read behind what is told
pub record FurtherOnly (frame : Frame) (view : RulesView) (objects index : ℕ) (told : Told) (bits : List Bool) (done : Told) (rest : List Bool) : Type 0 where
  pub blocks : List OutlineBlock
  pub log : List ℕ
  pub blocks_are : done.blocks ≡ told.blocks ++ blocks
  pub symbols_are : done.symbols ≡ told.symbols ++ log
  pub each : All (IsBlock frame view objects) (blocks_with_logs blocks log)
  pub same : All (λ (block : OutlineBlock). block.index ≡ index) blocks
  pub order : all_follow comes_after blocks ≡ true
  pub long : all_length blocks ≡ length log
  pub fits : FitsAfter frame told.next blocks
  pub few : length done.symbols ≤ limit_of Symbols
  pub spelled : bits ≡ object_bits frame view told.next told.last blocks log ++ rest

-- no further blocks were read
further-none : (frame : Frame) (view : RulesView) (objects index : ℕ) (told : Told) (bits rest : List Bool) → length told.symbols ≤ limit_of Symbols
    → bits ≡ end_bits frame told.next ++ rest → FurtherOnly frame view objects index told bits told rest
unfolding blocks_with_logs all_follow object_bits
further-none frame view objects index told bits rest room spelled = record {
  blocks = [];
  log = [];
  blocks_are = sym (append-nil told.blocks);
  symbols_are = sym (append-nil told.symbols);
  each = All-nil (IsBlock frame view objects);
  same = All-nil (λ (block : OutlineBlock). block.index ≡ index);
  order = refl;
  long = refl;
  fits = tt;
  few = room;
  spelled = spelled;
}

-- a block, and those of its object that begin no earlier than its period ends
follow-cons : (frame : Frame) → 0 < frame.period → (index : ℕ) (block : OutlineBlock) (blocks : List OutlineBlock) (at : ℕ) → at < frame.span → block.index ≡ index
    → block.period ≡ at / frame.period → All (λ (block : OutlineBlock). block.index ≡ index) blocks
    → FitsAfter frame (period_end frame at) blocks → ((second : OutlineBlock) (rest : List OutlineBlock) → blocks ≡ second ∷ rest → second.period * frame.period < frame.span)
    → all_follow comes_after blocks ≡ true → all_follow comes_after (block ∷ blocks) ≡ true
unfolding all_follow
follow-cons frame some_period index block [] at within number period same fits short order = refl
follow-cons frame some_period index block (second ∷ rest) at within number period same fits short order =
    let p = block.period in
    let end : period_end frame at ≡ min frame.span ((p + 1) * frame.period) = ap (λ k. min frame.span ((k + 1) * frame.period)) (sym period) in
    let under = short second rest refl in
    let starts : (p + 1) * frame.period ≤ second.period * frame.period = omega (arith, fits, end, under) in
    let later : p < second.period = elim (cases_lt p second.period) [
      | inl later ↦ later
      | inr over ↦
          let down : second.period * frame.period ≤ p * frame.period = mul-le-mul_right frame.period over in
          let next : (p + 1) * frame.period ≡ p * frame.period + frame.period = grind arith in
          omega (arith, starts, down, next, some_period)
    ] in
    let second_is = All-head (λ (block : OutlineBlock). block.index ≡ index) second rest same in
    let after : comes_after block second ≡ true = grind (arith, nat_tests, later, number, second_is) in
    rw after order

-- the periods of blocks begin within the span
starts-within : (frame : Frame) (view : RulesView) (objects : ℕ) (blocks : List OutlineBlock) (log : List ℕ)
    → All (IsBlock frame view objects) (blocks_with_logs blocks log) → (second : OutlineBlock) (rest : List OutlineBlock) → blocks ≡ second ∷ rest
    → second.period * frame.period < frame.span
unfolding blocks_with_logs
starts-within frame view objects blocks log each second rest is =
    let it : OutlineBlock × List ℕ = (second, take second.length log) in
    let block = All-head (IsBlock frame view objects) it (blocks_with_logs rest (drop second.length log))
    (subst (λ blocks. All (IsBlock frame view objects) (blocks_with_logs blocks log)) is each) in
    omega (arith, block.offset)

-- the first block has the first symbols, and the others have the others
logs-own : (block : OutlineBlock) (blocks : List OutlineBlock) (own log : List ℕ) → length own ≡ block.length
    → blocks_with_logs (block ∷ blocks) (own ++ log) ≡ (block, own) ∷ blocks_with_logs blocks log
unfolding blocks_with_logs
logs-own block blocks own log long = rw (take_at own log block.length long, drop_at own log block.length long) refl

-- a block before others, in bits
pub object_bits-joined : (frame : Frame) (view : RulesView) (next : ℕ) (last : Option Cell) (block : OutlineBlock) (blocks : List OutlineBlock) (own log : List ℕ)
    → length own ≡ block.length → (rest : List Bool)
    → when_bits next (anchor_instant frame block) ++ (anchor_bits frame.height last block.cell ++ (flat_map (low_bits (entry_width view)) own
    ++ (object_bits frame view (period_end frame (anchor_instant frame block)) (Some (cell_after view block.cell own)) blocks log ++ rest)))
    ≡ object_bits frame view next last (block ∷ blocks) (own ++ log) ++ rest
object_bits-joined frame view next last block blocks own log long rest =
    let taken = take_at own log block.length long in
    let dropped = drop_at own log block.length long in
    let at = anchor_instant frame block in
    sym (block_text (when_bits next at) (anchor_bits frame.height last block.cell) (flat_map (low_bits (entry_width view)) own)
    (object_bits frame view (period_end frame at) (Some (cell_after view block.cell own)) blocks log) rest
    (object_bits frame view next last (block ∷ blocks) (own ++ log))
    (object_bits-text frame view next last block blocks (own ++ log)
    ∙ ap (λ front. when_bits next at ++ anchor_bits frame.height last block.cell ++ flat_map (low_bits (entry_width view)) front
    ++ object_bits frame view (period_end frame at) (Some (cell_after view block.cell front)) blocks (drop block.length (own ++ log))) taken
    ∙ ap (λ behind. when_bits next at ++ anchor_bits frame.height last block.cell ++ flat_map (low_bits (entry_width view)) own
    ++ object_bits frame view (period_end frame at) (Some (cell_after view block.cell own)) blocks behind) dropped))

module _ (frame : Frame) (some : 0 < frame.period) (high : frame.height ≤ MAX_HEIGHT)
    (view : RulesView) (lasting : AreLasting view) (objects index : ℕ) (inside : index < objects) where
  -- a block, and what was read behind it
  joined-only : (told : Told) (at : ℕ) (bits : List Bool) (first : Told) (after : List Bool) (done : Told) (rest : List Bool) → at < frame.span
      → (one : BlockOnly frame view objects index told at bits first after)
      → FurtherOnly frame view objects index (told_with frame view told one.block one.own) after done rest
      → (now : ℕ) → now ≤ at / frame.period * frame.period → (whole : List Bool) → whole ≡ when_bits now at ++ bits
      → FurtherOnly frame view objects index (record { blocks = told.blocks; symbols = told.symbols; next = now; last = told.last }) whole done rest
  joined-only told at bits first after done rest within one on now early whole when =
      let block = one.block in
      let own = one.own in
      let it : OutlineBlock × List ℕ = (block, own) in
      let sum = sum_by-cons (λ (block : OutlineBlock). block.length) block on.blocks in
      let fits = subst (λ at. FitsAfter frame (period_end frame at) on.blocks) one.at_is on.fits in
      record {
        blocks = block ∷ on.blocks;
        log = own ++ on.log;
        blocks_are = on.blocks_are ∙ append_assoc told.blocks (block ∷ []) on.blocks;
        symbols_are = on.symbols_are ∙ append_assoc told.symbols own on.log;
        each = subst (All (IsBlock frame view objects)) (sym (logs-own block on.blocks own on.log one.is.whole))
            (All-cons (IsBlock frame view objects) it (blocks_with_logs on.blocks on.log) one.is on.each);
        same = All-cons (λ (block : OutlineBlock). block.index ≡ index) block on.blocks one.number on.same;
        order = follow-cons frame some index block on.blocks at within one.number one.period on.same fits
            (starts-within frame view objects on.blocks on.log on.each) on.order;
        long = omega (arith, sum, on.long, one.is.whole, length-append own on.log);
        fits = omega (arith, early, ap (λ k. k * frame.period) one.period);
        few = on.few;
        spelled = when
            ∙ ap (λ at. when_bits now at ++ bits) (sym one.at_is)
            ∙ ap (λ bits. when_bits now (anchor_instant frame block) ++ bits) (one.spelled
            ∙ ap (λ rest. anchor_bits frame.height told.last block.cell ++ (flat_map (low_bits (entry_width view)) own ++ rest)) on.spelled)
            ∙ object_bits-joined frame view now told.last block on.blocks own on.log one.is.whole rest;
      }

  -- a period begins no earlier than what is told ends
  boundary-early : (next at : ℕ) → IsBoundary frame next → next ≤ at → at < frame.span → next ≤ at / frame.period * frame.period
  boundary-early next at boundary later within =
      let k = boundary.0 in
      let here : next ≤ k * frame.period = omega (arith, boundary.1) in
      elim (cases_lt (at / frame.period) k) [
        | inr over ↦
            let up : k * frame.period ≤ at / frame.period * frame.period = mul-le-mul_right frame.period over in
            omega (arith, here, up)
        | inl under ↦
            absurd (omega (arith, (div-lt_iff_lt-mul {k = frame.period} {x = at} {y = k} some).0 under, boundary.1, later, within))
      ]

  -- the end of an object's blocks
  end_is-none : (next : ℕ) → 0 < next → next < frame.span → end_bits frame next ≡ number_bits 1
  unfolding end_bits
  end_is-none next begun under = grind (arith, nat_tests, begun, under)

  end_is-told : (next : ℕ) → 0 < next → frame.span ≤ next → end_bits frame next ≡ []
  unfolding end_bits
  end_is-told next begun over = grind (arith, nat_tests, begun, over)

  -- nothing more was read
  further_ended : (told : Told) (bits : List Bool) (done : Told) (rest : List Bool) → 0 < told.next → frame.span ≤ told.next
      → length told.symbols ≤ limit_of Symbols → ◌≡◌ {A = Element Told} (Ok (told, bits)) (Ok (done, rest))
      → FurtherOnly frame view objects index told bits done rest
  further_ended told bits done rest begun over room read =
      let both = same-read told done bits rest read in
      subst (λ done. FurtherOnly frame view objects index told bits done rest) both.0
      (further-none frame view objects index told bits rest room
      (both.1 ∙ ap (λ front. front ++ rest) (sym (end_is-told told.next begun over))))

  -- further blocks that are read were put, with so many steps left
  abbrev WerePut : ℕ → Told → List Bool → Type 0
  WerePut most done rest = (told : Told) (bits : List Bool) → 0 < told.next → IsBoundary frame told.next
      → length told.symbols ≤ limit_of Symbols → frame.span ≤ told.next + most → further_in most frame view index told bits ≡ Ok (done, rest)
      → FurtherOnly frame view objects index told bits done rest

  -- a block was read, and those behind it
  block_then-only : (most : ℕ) (told : Told) (at : ℕ) (bits after : List Bool) (done : Told) (rest : List Bool) → at < frame.span
      → length told.symbols ≤ limit_of Symbols → frame.span ≤ at + suc most → WerePut most done rest
      → block_in frame view index told at after >>= (λ block. further_in most frame view index block.0 block.1) ≡ Ok (done, rest)
      → (now : ℕ) → now ≤ at / frame.period * frame.period → bits ≡ when_bits now at ++ after
      → FurtherOnly frame view objects index (record { blocks = told.blocks; symbols = told.symbols; next = now; last = told.last })
      bits done rest
  block_then-only most told at bits after done rest within room enough again read now early put =
      let first = bind-only (block_in frame view index told at after) (λ block. further_in most frame view index block.0 block.1) (done, rest) read in
      let one = block-only frame some high view lasting objects index told at after first.0.0 first.0.1 inside within room first.1 in
      let next : Told = told_with frame view told one.block one.own in
      let ends : next.next ≡ period_end frame at = ap (period_end frame) one.at_is in
      let p = at / frame.period in
      let next_one : (p + 1) * frame.period ≡ p * frame.period + frame.period = grind arith in
      let below : at < p * frame.period + frame.period = lt-div-mul-add {a = at} {b = frame.period} some in
      let past : at < next.next = omega (arith, ends, next_one, below, within) in
      let on = again next first.0.1 (omega (arith, past)) (p + 1, ends) one.few (omega (arith, enough, past))
      (subst (λ told. further_in most frame view index told first.0.1 ≡ Ok (done, rest)) one.done_is first.2) in
      joined-only told at after first.0.0 first.0.1 done rest within one on now early bits put

  -- where the next anchor is was read: there is none, or a block follows and others behind it
  by_place : (most : ℕ) (told : Told) (bits : List Bool) (done : Told) (rest : List Bool) → 0 < told.next → IsBoundary frame told.next
      → length told.symbols ≤ limit_of Symbols → frame.span ≤ told.next + suc most → told.next < frame.span → WerePut most done rest
      → (place : Option ℕ) (after : List Bool) → AnchorOnly frame told.next bits after place
      → further_from most frame view index told (place, after) ≡ Ok (done, rest) → FurtherOnly frame view objects index told bits done rest
  by_place most told bits done rest begun boundary room enough under again None after put read =
      let both = same-read told done after rest read in
      subst (λ done. FurtherOnly frame view objects index told bits done rest) both.0
      (further-none frame view objects index told bits rest room
      (put ∙ ap (λ rest. number_bits 1 ++ rest) both.1 ∙ ap (λ front. front ++ rest) (sym (end_is-none told.next begun under))))
  by_place most told bits done rest begun boundary room enough under again (Some at) after put read =
      block_then-only most told at bits after done rest put.1 room (omega (arith, enough, put.0)) again read told.next
      (boundary-early told.next at boundary put.0 put.1) put.2

  -- further blocks that are read were put
  pub further-only : (most : ℕ) (told : Told) (bits : List Bool) (done : Told) (rest : List Bool) → 0 < told.next → IsBoundary frame told.next
      → length told.symbols ≤ limit_of Symbols → frame.span ≤ told.next + most → further_in most frame view index told bits ≡ Ok (done, rest)
      → FurtherOnly frame view objects index told bits done rest
  further-only zero told bits done rest begun boundary room enough read =
      further_ended told bits done rest begun (omega (arith, enough)) room (sym (further_in-none frame view index told bits) ∙ read)
  further-only (suc most) told bits done rest begun boundary room enough read = elim (cases_lt told.next frame.span) [
    | inr over ↦ further_ended told bits done rest begun over room (sym (further_in-told frame view index told bits (suc most) over) ∙ read)
    | inl under ↦
        let first = bind-only (next_anchor_in frame index told.next bits) (further_from most frame view index told) (done, rest)
        (sym (further_in-step frame view index told bits most under) ∙ read) in
        by_place most told bits done rest begun boundary room enough under
        (λ told bits begun boundary room enough. further-only most told bits done rest begun boundary room enough) first.0.0 first.0.1
        (next_anchor-only frame index told.next bits first.0.0 first.0.1 begun under first.1) first.2
  ]

  -- the blocks of an object that are read were put
  pub object-only : (before : Told) (bits : List Bool) (done : Told) (rest : List Bool) → length before.symbols ≤ limit_of Symbols
      → object_blocks_in frame view index before bits ≡ Ok (done, rest)
      → FurtherOnly frame view objects index (object_begun before) bits done rest
  unfolding object_blocks_in end_bits when_bits
  object-only before bits done rest room read =
      let flaw = flaw_at Starts 0 index in
      let told = object_begun before in
      let then_some = λ (start : ℕ × List Bool). block_in frame view index told start.0 start.1
      >>= (λ block. further_in frame.span frame view index block.0 block.1) in
      let judged = λ (start : ℕ × List Bool). if nat_lt frame.span start.0 then Err (flaw Offset)
      else if eqb start.0 frame.span then Ok (told, start.1) else then_some start in
      let first = bind-only (told_at flaw bits) judged (done, rest) read in
      let start = first.0.0 in
      let after = first.0.1 in
      let put = told_at-only flaw start bits after first.1 in
      let test = else-only (nat_lt frame.span start) (flaw Offset) (if eqb start frame.span then Ok (told, after) else then_some (start, after)) (done, rest) first.2 in
      elim (cases_Bool (eqb start frame.span)) [
        | inl none ↦
            let both = same-read told done after rest (rw none at test.1) in
            let start_is : start ≡ frame.span = grind (arith, nat_tests, none) in
            subst (λ done. FurtherOnly frame view objects index told bits done rest) both.0
            (further-none frame view objects index told bits rest room
            (put.0 ∙ ap (λ start. number_bits start ++ after) start_is ∙ ap (λ rest. number_bits frame.span ++ rest) both.1))
        | inr there ↦
            let within : start < frame.span = grind (arith, nat_tests, test.0, there) in
            block_then-only frame.span told start bits after done rest within room (omega arith)
            (λ told bits begun boundary room enough. further-only frame.span told bits done rest begun boundary room enough)
            (rw there at test.1) 0 (omega arith) put.0
      ]
