-- Anchors and logs: what is read was put.
use Rattle.std.proofs.Common.{◌≡◌, ℕ, zero, suc, ◌-◌, ◌<◌, ◌≤◌, pos, ◌+ℤ◌, ◌-ℤ◌, w64, nat_le, nat_lt, not, true, Bool, List, [], ◌∷◌, ◌++◌, length, Option, None, Some, Ok, Err, inl, inr, sym, ap, subst, ◌∙◌, arith, append_assoc, append-nil, if◌then◌else◌}
use Rattle.std.specs.Prelude.{All}
use Rattle.std.specs.Int.{cast_unsigned}
use Rattle.std.specs.List.{flat_map, sum_by}
use Rattle.std.proofs.lemmas.Bool.{cases_lt}
use Rattle.std.proofs.lemmas.Bool.Decides.{nat_tests}
use Rattle.std.proofs.lemmas.Int.{ints}
use Rattle.std.proofs.lemmas.List.{length-append}
use Rattle.std.proofs.lemmas.List.Elements.{All-append, All-cons, All-nil}
use Rattle.std.proofs.lemmas.List.Sums.{sum_by-cons}
use Rattle.packed_bits.specs.Words.{low_bits}
use Rattle.bit_stream.specs.Numbers.{number_bits}
use Rattle.spiral_code.specs.Spiral.{code_of, move_of}
use Rattle.spiral_code.proofs.SpiralLemmas.{code_of-move_of}
use Rattle.rule_store.specs.Cells.{cell_with, cells_along, displacement_of, moved, present_in}
use Rattle.rule_store.specs.Entry.{duration_of, entry_of}
use Rattle.rule_store.specs.Expansion.{values_of}
use Rattle.rule_store.specs.Log.{log_values}
use Rattle.rule_store.specs.View.{RulesView, symbols_in}
use Rattle.rule_store.proofs.ExpansionLemmas.{length-values_of}
use Rattle.track_types.specs.Limits.{limit_of}
use Rattle.track_types.specs.declared.cell.Cell.{Cell}
use Rattle.track_types.specs.declared.flaw.Kind.TheVariants.{Duration, OffGrid, Symbol, Total}
use Rattle.track_types.specs.declared.flaw.Section.TheVariants.{Anchors, Log}
use Rattle.track_types.specs.declared.frame.Frame.{Frame}
use Rattle.track_types.specs.declared.limit.LimitKind.TheVariants.{Symbols}
use Rattle.track_types.specs.declared.limit.TheConstants.{MAX_HEIGHT}
use Rattle.index_format.specs.Elements.{Element, told_at, wide_at}
use Rattle.index_format.specs.Fields.{◌>>=◌, flaw_at}
use Rattle.index_format.specs.OutlineBlocks.{InLog, anchor_bits, anchor_in, cell_after, entry_in, entry_width, is_in_grid, judged_entry, log_in, stays_in}
use Rattle.index_format.specs.BlockSteps.{IsLogFrom}
use Rattle.index_format.proofs.AlongLemmas.{along-stays_in, present-joined}
use Rattle.index_format.proofs.ElementLemmas.{bind-only, else-only, same-read, then-only, told_at-only, wide_at-only}
use Rattle.index_format.proofs.EntryLaws.{AreLasting}
use Rattle.index_format.proofs.EntryLemmas.{entry-inside, log_in-filled, log_in-more, log_in-none}
use Rattle.index_format.proofs.GridLemmas.{from_coordinate, in_grid-from, same_code}
use Rattle.index_format.proofs.BlockPuttingLemmas.{cell_after-cons, cell_after-nil, entry_end}

-- an anchor that is read was put
pub anchor-only : (frame : Frame) (period index : ℕ) (last : Option Cell) (bits : List Bool) (cell : Cell) (rest : List Bool) → frame.height ≤ MAX_HEIGHT
    → anchor_in frame period index last bits ≡ Ok (cell, rest)
    → (bits ≡ anchor_bits frame.height last cell ++ rest) × (is_in_grid frame.height cell ≡ true)
unfolding anchor_in anchor_bits
anchor-only frame period index None bits cell rest fits read =
    let flaw = flaw_at Anchors period index in
    let first = bind-only (wide_at flaw frame.height bits)
    (λ x. wide_at flaw frame.height x.1 >>= λ y. Ok (cell_with (pos x.0) (pos y.0), y.1)) (cell, rest) read in
    let x = first.0.0 in
    let second = bind-only (wide_at flaw frame.height first.0.1) (λ y. Ok (cell_with (pos x) (pos y.0), y.1)) (cell, rest) first.2 in
    let y = second.0.0 in
    let same = same-read (cell_with (pos x) (pos y)) cell second.0.1 rest second.2 in
    let x_put = wide_at-only flaw frame.height x bits first.0.1 first.1 in
    let y_put = wide_at-only flaw frame.height y first.0.1 second.0.1 second.1 in
    let x_is = from_coordinate frame.height x fits x_put.1 in
    let y_is = from_coordinate frame.height y fits y_put.1 in (
      x_put.0 ∙ ap (λ behind. low_bits frame.height x ++ behind) (y_put.0 ∙ ap (λ rest. low_bits frame.height y ++ rest) same.1)
          ∙ sym (append_assoc (low_bits frame.height x) (low_bits frame.height y) rest)
          ∙ ap (λ x. low_bits frame.height x ++ low_bits frame.height y ++ rest) (sym x_is)
          ∙ ap (λ y. low_bits frame.height (cast_unsigned w64 (pos x)) ++ low_bits frame.height y ++ rest) (sym y_is)
          ∙ ap (λ (cell : Cell). low_bits frame.height (cast_unsigned w64 cell.x)
          ++ low_bits frame.height (cast_unsigned w64 cell.y) ++ rest) same.0,
      subst (λ cell. is_in_grid frame.height cell ≡ true) same.0 (in_grid-from frame.height (cell_with (pos x) (pos y)) (record {
        left = omega (arith, ints);
        right = omega (arith, ints, x_put.1);
        below = omega (arith, ints);
        above = omega (arith, ints, y_put.1);
      })),
    )
anchor-only frame period index (Some last) bits cell rest fits read =
    let flaw = flaw_at Anchors period index in
    let first = bind-only (told_at flaw bits)
    (λ code. if is_in_grid frame.height (moved last (move_of code.0)) then Ok (moved last (move_of code.0), code.1) else Err (flaw OffGrid)) (cell, rest) read in
    let code = first.0.0 in
    let test = then-only (is_in_grid frame.height (moved last (move_of code))) (flaw OffGrid) (Ok (moved last (move_of code), first.0.1)) (cell, rest) first.2 in
    let both = same-read (moved last (move_of code)) cell first.0.1 rest test.1 in
    let put = told_at-only flaw code bits first.0.1 first.1 in
    let x : cell.x ≡ last.x +ℤ (move_of code).0 = sym (ap (λ (cell : Cell). cell.x) both.0) in
    let y : cell.y ≡ last.y +ℤ (move_of code).1 = sym (ap (λ (cell : Cell). cell.y) both.0) in
    let same : code_of (cell.x -ℤ last.x) (cell.y -ℤ last.y) ≡ code =
    same_code (cell.x -ℤ last.x) (cell.y -ℤ last.y) (move_of code).0 (move_of code).1 (omega (arith, ints, x)) (omega (arith, ints, y)) ∙ code_of-move_of code in (
      put.0 ∙ ap (λ rest. number_bits code ++ rest) both.1 ∙ ap (λ code. number_bits code ++ rest) (sym same),
      subst (λ cell. is_in_grid frame.height cell ≡ true) both.0 test.0,
    )

-- an entry lasts as long as its symbol
entry-lasts : (view : RulesView) (symbol : ℕ) → (entry_of view symbol).duration ≡ duration_of view symbol
unfolding entry_of
entry-lasts view symbol = length-values_of view symbol

-- what is known of an entry that was read
pub record EntryOnly (frame : Frame) (view : RulesView) (log : InLog) (bits : List Bool) (next : InLog) (rest : List Bool) : Type 0 where
  pub symbol : ℕ
  pub room : length log.symbols < limit_of Symbols
  pub known : symbol < symbols_in view
  pub stays : stays_in frame.height log.cell (entry_of view symbol).hull ≡ true
  pub fits : duration_of view symbol ≤ log.rest
  pub next_is : next ≡ record { symbols = log.symbols ++ symbol ∷ []; rest = log.rest - duration_of view symbol; cell = entry_end view log.cell symbol }
  pub spelled : bits ≡ low_bits (entry_width view) symbol ++ rest

-- an entry that is read was put
pub entry-only : (frame : Frame) (view : RulesView) (period : ℕ) (log : InLog) (bits : List Bool) (next : InLog) (rest : List Bool)
    → entry_in frame view period log bits ≡ Ok (next, rest) → EntryOnly frame view log bits next rest
unfolding entry_in
entry-only frame view period log bits next rest read =
    let flaw = flaw_at Log period (length log.symbols) in
    let judged = λ (it : ℕ × List Bool). if nat_le (symbols_in view) it.0 then Err (flaw Symbol) else judged_entry frame period log it.0 (entry_of view it.0) it.1 in
    let room = else-only (nat_le (limit_of Symbols) (length log.symbols)) (flaw Total) (wide_at flaw (entry_width view) bits >>= judged) (next, rest) read in
    let first = bind-only (wide_at flaw (entry_width view) bits) judged (next, rest) room.1 in
    let symbol = first.0.0 in
    let entry = entry_of view symbol in
    let after : InLog = record { symbols = log.symbols ++ symbol ∷ []; rest = log.rest - entry.duration; cell = entry_end view log.cell symbol } in
    let known = else-only (nat_le (symbols_in view) symbol) (flaw Symbol) (judged_entry frame period log symbol entry first.0.1) (next, rest) first.2 in
    let stays = else-only (not (stays_in frame.height log.cell entry.hull)) (flaw OffGrid)
    (if nat_lt log.rest entry.duration then Err (flaw Duration) else Ok (after, first.0.1)) (next, rest) known.1 in
    let fits = else-only (nat_lt log.rest entry.duration) (flaw Duration) (Ok (after, first.0.1)) (next, rest) stays.1 in
    let both = same-read after next first.0.1 rest fits.1 in
    let put = wide_at-only flaw (entry_width view) symbol bits first.0.1 first.1 in
    let lasts : entry.duration ≡ duration_of view symbol = entry-lasts view symbol in
    let short : entry.duration ≤ log.rest = grind (arith, nat_tests, fits.0) in
    record {
      symbol = symbol;
      room = grind (arith, nat_tests, room.0);
      known = grind (arith, nat_tests, known.0);
      stays = grind (arith, stays.0);
      fits = omega (arith, short, lasts);
      next_is = sym both.0
          ∙ ap (λ d. record { symbols = log.symbols ++ symbol ∷ []; rest = log.rest - d; cell = entry_end view log.cell symbol }) lasts;
      spelled = put.0 ∙ ap (λ rest. low_bits (entry_width view) symbol ++ rest) both.1;
    }

-- what is known of a log that was read
pub record LogOnly (frame : Frame) (view : RulesView) (log : InLog) (bits : List Bool) (done : InLog) (rest : List Bool) : Type 0 where
  pub own : List ℕ
  pub symbols : done.symbols ≡ log.symbols ++ own
  pub from : IsLogFrom frame.height view log.cell own
  pub fills : sum_by (duration_of view) own ≡ log.rest
  pub ends : done.cell ≡ cell_after view log.cell own
  pub few : length done.symbols ≤ limit_of Symbols
  pub spelled : bits ≡ flat_map (low_bits (entry_width view)) own ++ rest

-- a symbol before others of a log
pub log_from-cons : (height : ℕ) (view : RulesView) (cell : Cell) (symbol : ℕ) (log : List ℕ) → is_in_grid height cell ≡ true
    → symbol < symbols_in view → stays_in height cell (entry_of view symbol).hull ≡ true → IsLogFrom height view (entry_end view cell symbol) log
    → IsLogFrom height view cell (symbol ∷ log)
unfolding log_values entry_of
log_from-cons height view cell symbol log begins known stays from =
    let inside = λ (cell : Cell). is_in_grid height cell ≡ true in
    record {
      begins = begins;
      known = All-cons (λ symbol. symbol < symbols_in view) symbol log known from.known;
      inside = subst (All inside) (sym (present-joined cell (values_of view symbol) (log_values view log)))
          (All-append inside (present_in (cells_along cell (values_of view symbol)))
          (present_in (cells_along (moved cell (displacement_of (values_of view symbol))) (log_values view log)))
          (along-stays_in height cell (values_of view symbol) stays) from.inside);
    }

-- a log of no symbols
pub log_from-nil : (height : ℕ) (view : RulesView) (cell : Cell) → is_in_grid height cell ≡ true → IsLogFrom height view cell []
unfolding log_values cells_along
log_from-nil height view cell begins = record {
  begins = begins;
  known = All-nil (λ symbol. symbol < symbols_in view);
  inside = All-nil (λ (cell : Cell). is_in_grid height cell ≡ true);
}

module _ (frame : Frame) (view : RulesView) (lasting : AreLasting view) (period : ℕ) where
  -- a log that is filled
  filled : (log : InLog) (bits : List Bool) (done : InLog) (rest : List Bool) → log.rest ≡ 0 → is_in_grid frame.height log.cell ≡ true
      → length log.symbols ≤ limit_of Symbols → ◌≡◌ {A = Element InLog} (Ok (log, bits)) (Ok (done, rest)) → LogOnly frame view log bits done rest
  filled log bits done rest none inside room read =
      let same = same-read log done bits rest read in
      record {
        own = [];
        symbols = sym (ap (λ (log : InLog). log.symbols) same.0) ∙ sym (append-nil log.symbols);
        from = log_from-nil frame.height view log.cell inside;
        fills = sym none;
        ends = sym (ap (λ (log : InLog). log.cell) same.0) ∙ sym (cell_after-nil view log.cell);
        few = subst (λ (log : InLog). length log.symbols ≤ limit_of Symbols) same.0 room;
        spelled = same.1;
      }

  -- a log that is read was put
  pub log-only : (most : ℕ) (log : InLog) (bits : List Bool) (done : InLog) (rest : List Bool) → log.rest ≤ most
      → is_in_grid frame.height log.cell ≡ true → length log.symbols ≤ limit_of Symbols
      → log_in most frame view period log bits ≡ Ok (done, rest) → LogOnly frame view log bits done rest
  log-only zero log bits done rest enough inside room read =
      filled log bits done rest (omega (arith, enough)) inside room (sym (log_in-none frame view period log bits) ∙ read)
  log-only (suc most) log bits done rest enough inside room read = elim (cases_lt 0 log.rest) [
    | inr none ↦ filled log bits done rest (omega (arith, none)) inside room
        (sym (log_in-filled frame view period log bits (suc most) (omega (arith, none))) ∙ read)
    | inl some ↦
        let first = bind-only (entry_in frame view period log bits) (λ entry. log_in most frame view period entry.0 entry.1) (done, rest)
        (sym (log_in-more frame view period log bits most some) ∙ read) in
        let entry = entry-only frame view period log bits first.0.0 first.0.1 first.1 in
        let symbol = entry.symbol in
        let d = duration_of view symbol in
        let next : InLog = record { symbols = log.symbols ++ symbol ∷ []; rest = log.rest - d; cell = entry_end view log.cell symbol } in
        let lasts = lasting.each symbol entry.known in
        let long = length-append log.symbols (symbol ∷ []) in
        let on = log-only most next first.0.1 done rest (omega (arith, enough, lasts, some))
        (entry-inside frame.height view log.cell symbol inside entry.stays) (omega (arith, entry.room, long))
        (subst (λ next. log_in most frame view period next first.0.1 ≡ Ok (done, rest)) entry.next_is first.2) in
        record {
          own = symbol ∷ on.own;
          symbols = on.symbols ∙ append_assoc log.symbols (symbol ∷ []) on.own;
          from = log_from-cons frame.height view log.cell symbol on.own inside entry.known entry.stays on.from;
          fills = omega (arith, sum_by-cons (duration_of view) symbol on.own, on.fills, entry.fits);
          ends = on.ends ∙ sym (cell_after-cons view log.cell symbol on.own);
          few = on.few;
          spelled = entry.spelled ∙ ap (λ rest. low_bits (entry_width view) symbol ++ rest) on.spelled
              ∙ sym (append_assoc (low_bits (entry_width view) symbol) (flat_map (low_bits (entry_width view)) on.own) rest);
        }
  ]
